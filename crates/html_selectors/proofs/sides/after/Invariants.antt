use Rattle.std.proofs.Common.{◌≡◌, ℕ, false, length, take}
use Rattle.std.specs.Prelude.{◌&&◌}
use Rattle.markup.specs.Forest.{is_among, node_count}
use Rattle.html_selectors.specs.Columns.{at}
use Rattle.html_selectors.proofs.Counts.{any_beside}
use Rattle.html_selectors.proofs.Elder.{seen_done}
use Rattle.html_selectors.proofs.sides.after.Given as goal

abbrev pub invariant-loop-id : goal.invariant-loop-id
invariant-loop-id l = record {
  places : length l.seen.items ≡ node_count l.index.forest.now;
  count : length l.after.items ≡ node_count l.index.forest.now;
  marked : (p : ℕ) → at l.seen.items p ≡ seen_done (at l.column) l.index.forest.now (take l.id-index l.index.order.items) p;
  done : (n : ℕ) → at l.after.items n ≡ (is_among n (take l.id-index l.index.order.items)
      && any_beside (at l.column) false l.index.forest.now n);
}
