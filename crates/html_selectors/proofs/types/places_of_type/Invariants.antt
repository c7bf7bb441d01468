use Rattle.std.proofs.Common.{◌≡◌, ℕ, true, false, length}
use Rattle.markup.specs.Forest.{node_count, parent_of}
use Rattle.html_selectors.specs.Columns.{place_at}
use Rattle.html_selectors.specs.Kinds.{count_at, kind_at}
use Rattle.html_selectors.proofs.Counts.{entered}
use Rattle.html_selectors.proofs.KindCounts.{kind_place}
use Rattle.html_selectors.proofs.types.places_of_type.Given as goal

abbrev pub invariant-loop-number : goal.invariant-loop-number
invariant-loop-number l = record {
  size : length l.counts.items ≡ l.size;
  first_len : length l.firsts.items ≡ node_count l.index.forest.now;
  last_len : length l.lasts.items ≡ node_count l.index.forest.now;
  none : (k : ℕ) → count_at l.counts.items k ≡ 0;
  firsts : (n : ℕ) → place_at l.firsts.items n
      ≡ entered 1 (kind_place (kind_at l.kinds.items) false l.index.forest.now) l.number n (parent_of l.index.forest.now n);
  lasts : (n : ℕ) → place_at l.lasts.items n
      ≡ entered 1 (kind_place (kind_at l.kinds.items) true l.index.forest.now) l.number n (parent_of l.index.forest.now n);
}
