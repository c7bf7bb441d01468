use Rattle.std.proofs.Common.{◌≡◌, ◌+◌, ◌≤◌, length}
use Rattle.std.specs.Prelude.{filter}
use Rattle.markup.specs.Forest.{children_of}
use Rattle.html_selectors.specs.Columns.{at}
use Rattle.html_selectors.proofs.places.count_children.Given as goal

abbrev pub invariant-loop-child : goal.invariant-loop-child
invariant-loop-child l = record {
  sum : l.count + length (filter (at l.fn.column) l.child-iterator)
      ≡ length (filter (at l.fn.column) (children_of l.fn.forest l.fn.parent));
  few : l.count + length l.child-iterator ≤ length (children_of l.fn.forest l.fn.parent);
}
