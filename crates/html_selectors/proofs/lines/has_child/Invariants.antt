use Rattle.std.proofs.Common.{◌≡◌}
use Rattle.std.specs.Prelude.{◌||◌}
use Rattle.std.specs.List.{list_any}
use Rattle.markup.specs.Forest.{children_of}
use Rattle.html_selectors.specs.Columns.{at}
use Rattle.html_selectors.proofs.lines.has_child.Given as goal

abbrev pub invariant-loop-child : goal.invariant-loop-child
invariant-loop-child l = list_any (λ n. at l.fn.one n || at l.fn.other n) (children_of l.fn.forest l.fn.id)
    ≡ list_any (λ n. at l.fn.one n || at l.fn.other n) l.child-iterator
