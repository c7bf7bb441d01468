use Rattle.std.proofs.Common.{◌≤◌, ◌-◌}
use Rattle.markup.specs.Forest.{node_count}
use Rattle.html_selectors.proofs.order.count_nodes.Given as goal

abbrev pub invariant-loop-low : goal.invariant-loop-low
invariant-loop-low l = record {
  low : l.low ≤ node_count l.fn.forest;
  high : node_count l.fn.forest ≤ l.high;
}

abbrev pub decreases-loop-low : goal.decreases-loop-low
decreases-loop-low l = l.high - l.low
