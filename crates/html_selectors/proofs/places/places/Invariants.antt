use Rattle.std.proofs.Common.{◌≡◌, ℕ, true, length}
use Rattle.markup.specs.Forest.{node_count, parent_of}
use Rattle.html_selectors.specs.Columns.{at, place_at}
use Rattle.html_selectors.proofs.Counts.{owned, written}
use Rattle.html_selectors.proofs.places.places.Given as goal

abbrev pub invariant-loop-number : goal.invariant-loop-number
invariant-loop-number l = record {
  len : length l.places.items ≡ node_count l.index.forest.now;
  done : (n : ℕ) → owned (at l.parents.items) (parent_of l.index.forest.now n) ≡ true → place_at l.places.items n
      ≡ written (at l.column) l.from_end l.index.forest.now l.number n (parent_of l.index.forest.now n);
}
