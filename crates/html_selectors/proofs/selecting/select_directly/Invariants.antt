use Rattle.std.proofs.Common.{◌≡◌, ◌++◌}
use Rattle.std.specs.Prelude.{filter}
use Rattle.html_nodes.specs.Below.{below}
use Rattle.html_selector_matching.specs.Selects.{is_any, scope_of}
use Rattle.html_selectors.proofs.selecting.select_directly.Given as goal

abbrev pub invariant-loop-id : goal.invariant-loop-id
invariant-loop-id l = l.found.items ++ l.id-iterator
    ≡ filter (is_any l.fn.selectors l.fn.forest (scope_of l.fn.forest l.fn.top)) (below l.fn.forest l.fn.top)
