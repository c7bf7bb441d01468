use Rattle.std.proofs.Common.{◌≡◌, ◌++◌}
use Rattle.std.specs.Prelude.{filter}
use Rattle.html_nodes.specs.Below.{below}
use Rattle.html_nodes.specs.Looks.{texts_of}
use Rattle.html_extracts.specs.Shown.{is_shown}
use Rattle.html_extracts.proofs.shown.shown_text.Given as goal

abbrev pub invariant-loop-id : goal.invariant-loop-id
invariant-loop-id l = l.text ++ texts_of l.fn.forest (filter (is_shown l.fn.forest) l.id-iterator) ≡ texts_of
    l.fn.forest (filter (is_shown l.fn.forest) (below l.fn.forest l.fn.top))
