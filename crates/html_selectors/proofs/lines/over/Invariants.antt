use Rattle.std.proofs.Common.{◌≡◌, ◌≤◌, ℕ, length, drop}
use Rattle.markup.specs.Forest.{node_count}
use Rattle.html_selectors.specs.Columns.{at}
use Rattle.html_selectors.proofs.Steps.{over_done}
use Rattle.html_selectors.proofs.lines.over.Given as goal

abbrev pub invariant-loop-left : goal.invariant-loop-left
invariant-loop-left l = record {
  within : l.left ≤ length l.index.order.items;
  count : length l.over.items ≡ node_count l.index.forest.now;
  done : (n : ℕ) → at l.over.items n ≡ over_done (at l.column) l.index.forest.now (drop l.left l.index.order.items) n;
}

abbrev pub decreases-loop-left : goal.decreases-loop-left
decreases-loop-left l = l.left
