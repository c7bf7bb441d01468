use Rattle.std.proofs.Common.{◌≡◌, ◌<◌, ℕ, length}
use Rattle.html_selector_matching.specs.Around.{is_element}
use Rattle.html_selectors.specs.Columns.{at}
use Rattle.html_selectors.proofs.order.mark_elements.Given as goal

abbrev pub invariant-loop-number : goal.invariant-loop-number
invariant-loop-number l = record {
  count : length l.column.items ≡ l.number;
  done : (n : ℕ) → n < l.number → at l.column.items n ≡ is_element l.forest n;
}
