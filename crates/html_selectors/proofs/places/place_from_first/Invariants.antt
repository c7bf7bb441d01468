use Rattle.std.proofs.Common.{◌≡◌, ◌+◌, ◌≤◌, ◌<◌, ℕ, suc, true, length}
use Rattle.std.specs.Prelude.{cond, filter}
use Rattle.markup.specs.Forest.{IsDistinct, children_of, is_among, node_count, those_before}
use Rattle.html_selectors.specs.Columns.{at, place_at}
use Rattle.html_selectors.proofs.places.place_from_first.Given as goal

abbrev pub invariant-loop-child : goal.invariant-loop-child
invariant-loop-child l = record {
  len : length l.places.items ≡ length l.fn.places.items;
  few : l.place + length l.child-iterator ≤ length (children_of l.fn.forest l.fn.parent) + 1;
  once : IsDistinct l.child-iterator;
  there : (n : ℕ) → is_among n l.child-iterator ≡ true → n < node_count l.fn.forest;
  done : (n : ℕ) → cond (is_among n l.child-iterator) (l.place + length (filter (at l.fn.column) (those_before n l.child-iterator)))
      (place_at l.places.items n)
      ≡ cond (is_among n (children_of l.fn.forest l.fn.parent))
      (suc (length (filter (at l.fn.column) (those_before n (children_of l.fn.forest l.fn.parent))))) (place_at l.fn.places.items n);
}
