use Rattle.std.proofs.Common.{◌≡◌, ℕ, true, length, take, Some}
use Rattle.markup.specs.Forest.{is_among, node_count, parent_of}
use Rattle.html_selectors.specs.Columns.{at}
use Rattle.html_selectors.proofs.lines.parents.Given as goal

abbrev pub invariant-loop-id : goal.invariant-loop-id
invariant-loop-id l = record {
  count : length l.parents.items ≡ node_count l.index.forest.now;
  done : (n p : ℕ) → is_among n (take l.id-index l.index.order.items) ≡ true → at l.column n ≡ true
      → parent_of l.index.forest.now n ≡ Some p → at l.parents.items p ≡ true;
}
