use Rattle.std.proofs.Common.{◌≡◌, ◌<◌, ℕ, suc, true, length}
use Rattle.std.specs.Prelude.{cond}
use Rattle.markup.specs.Forest.{IsDistinct, children_of, is_among, node_count}
use Rattle.html_selector_matching.specs.Around.{those_after}
use Rattle.html_selectors.specs.Columns.{place_at}
use Rattle.html_selectors.specs.Kinds.{count_at, count_kind, kind_at}
use Rattle.html_selectors.proofs.types.count_down.Given as goal

abbrev pub invariant-loop-child : goal.invariant-loop-child
invariant-loop-child l = record {
  size : length l.counts.items ≡ length l.fn.counts.items;
  len : length l.places.items ≡ length l.fn.places.items;
  once : IsDistinct l.child-iterator;
  there : (n : ℕ) → is_among n l.child-iterator ≡ true → n < node_count l.fn.forest;
  counts : (k : ℕ) → count_at l.counts.items k ≡ count_kind (kind_at l.fn.kinds) k l.child-iterator;
  done : (n : ℕ) → cond (is_among n l.child-iterator)
      (suc (count_kind (kind_at l.fn.kinds) (kind_at l.fn.kinds n) (those_after n l.child-iterator))) (place_at l.places.items n)
      ≡ cond (is_among n (children_of l.fn.forest l.fn.parent))
      (suc (count_kind (kind_at l.fn.kinds) (kind_at l.fn.kinds n) (those_after n (children_of l.fn.forest l.fn.parent))))
      (place_at l.fn.places.items n);
}
