use Rattle.std.proofs.Common.{◌-◌, ℕ, ◌<◌, ◌≤◌, length}
use Rattle.html_references.specs.Order.{IsBefore, ordered_name}
use Rattle.html_references.proofs.references.order.search.Given as goal

abbrev pub invariant-loop-low : goal.invariant-loop-low
invariant-loop-low l = record {
  within : l.low ≤ l.high;
  fits : l.high ≤ length l.order;
  below : (low : ℕ) → low < l.low → IsBefore (ordered_name l.rows l.order low) l.name;
  above : (high : ℕ) → l.high ≤ high → high < length l.order → IsBefore l.name (ordered_name l.rows l.order high);
}

abbrev pub decreases-loop-low : goal.decreases-loop-low
decreases-loop-low l = l.high - l.low
