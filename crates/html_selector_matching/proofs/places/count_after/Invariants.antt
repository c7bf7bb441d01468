use Rattle.std.proofs.Common.{◌≡◌, ◌+◌, ◌≤◌, cond, length}
use Rattle.std.specs.Prelude.{filter, option_copied}
use Rattle.markup.specs.Forest.{children_of}
use Rattle.html_selector_matching.specs.Around.{those_after}
use Rattle.html_selector_matching.specs.Simples.{counts}
use Rattle.html_selector_matching.proofs.places.count_after.Given as goal

abbrev pub invariant-loop-child : goal.invariant-loop-child
invariant-loop-child l =
    (l.count + length (filter (counts l.fn.forest (option_copied l.fn.name))
    (cond l.passed l.child-iterator (those_after l.fn.id l.child-iterator)))
    ≡ length (filter (counts l.fn.forest (option_copied l.fn.name)) (those_after l.fn.id (children_of l.fn.forest l.fn.parent))))
    × (l.count + length l.child-iterator ≤ length (children_of l.fn.forest l.fn.parent))
