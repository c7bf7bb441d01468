use Rattle.std.proofs.Common.{◌≡◌, ℕ, false, true, length}
use Rattle.markup.specs.Forest.{node_count, parent_of}
use Rattle.html_selectors.specs.Columns.{at}
use Rattle.html_selectors.proofs.Counts.{any_beside, entered, owned}
use Rattle.html_selectors.proofs.sides.before.Given as goal

abbrev pub invariant-loop-number : goal.invariant-loop-number
invariant-loop-number l = record {
  len : length l.before.items ≡ node_count l.index.forest.now;
  done : (n : ℕ) → owned (at l.parents.items) (parent_of l.index.forest.now n) ≡ true → at l.before.items n
      ≡ entered false (any_beside (at l.column) true l.index.forest.now) l.number n (parent_of l.index.forest.now n);
}
