use Rattle.std.proofs.Common.{◌≡◌, ◌+◌, ◌≤◌, length}
use Rattle.std.specs.Prelude.{filter, option_copied}
use Rattle.markup.specs.Forest.{children_of, those_before}
use Rattle.html_selector_matching.specs.Simples.{counts}
use Rattle.html_selector_matching.proofs.places.count_before.Given as goal

abbrev pub invariant-loop-child : goal.invariant-loop-child
invariant-loop-child l =
    (l.count + length (filter (counts l.fn.forest (option_copied l.fn.name)) (those_before l.fn.id l.child-iterator))
    ≡ length (filter (counts l.fn.forest (option_copied l.fn.name)) (those_before l.fn.id (children_of l.fn.forest l.fn.parent))))
    × (l.count + length l.child-iterator ≤ length (children_of l.fn.forest l.fn.parent))
