use Rattle.std.proofs.Common.{◌≡◌, ◌≤◌, ◌++◌, ◌-◌, length}
use Rattle.std.specs.Prelude.{filter}
use Rattle.std.specs.List.{range_with_len}
use Rattle.html_nodes.specs.Below.{each_with_below}
use Rattle.html_selectors.specs.Order.{BeginsWith, in_tree_order, inner_below, is_root}
use Rattle.html_selectors.proofs.order.list_nodes.Given as goal

abbrev pub invariant-loop-number : goal.invariant-loop-number
invariant-loop-number l = record {
  listed : l.order.items ++ each_with_below (inner_below l.forest)
      (filter (is_root l.forest) (range_with_len l.number (l.count - l.number))) ≡ in_tree_order l.forest;
  within : l.first ≤ length l.order.items;
  begins : BeginsWith l.forest l.first l.order.items;
}
