use Rattle.std.proofs.Common.{◌≡◌, ◌≤◌, ◌<◌, ℕ, true, length}
use Rattle.std.specs.Prelude.{cond, filter}
use Rattle.std.specs.List.{list_any}
use Rattle.markup.specs.Forest.{IsDistinct, children_of, is_among, node_count}
use Rattle.html_selector_matching.specs.Around.{those_after}
use Rattle.html_selectors.specs.Columns.{at}
use Rattle.html_selectors.proofs.Counts.{some_after}
use Rattle.html_selectors.proofs.sides.mark_before.Given as goal

abbrev pub invariant-loop-child : goal.invariant-loop-child
invariant-loop-child l = record {
  len : length l.beside.items ≡ length l.fn.beside.items;
  left : l.left ≡ length (filter (at l.fn.column) l.child-iterator);
  few : length l.child-iterator ≤ length (children_of l.fn.forest l.fn.parent);
  once : IsDistinct l.child-iterator;
  there : (n : ℕ) → is_among n l.child-iterator ≡ true → n < node_count l.fn.forest;
  done : (n : ℕ) → some_after (at l.fn.column) l.child-iterator l.beside.items n
      ≡ cond (is_among n (children_of l.fn.forest l.fn.parent))
      (list_any (at l.fn.column) (those_after n (children_of l.fn.forest l.fn.parent))) (at l.fn.beside.items n);
}
