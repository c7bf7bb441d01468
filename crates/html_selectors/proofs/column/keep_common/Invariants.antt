use Rattle.std.proofs.Common.{◌≡◌, ◌<◌, ◌≤◌, ℕ, length}
use Rattle.std.specs.Prelude.{◌&&◌}
use Rattle.html_selectors.specs.Columns.{at}
use Rattle.html_selectors.proofs.column.keep_common.Given as goal

abbrev pub invariant-loop-number : goal.invariant-loop-number
invariant-loop-number l = record {
  same : length l.column.items ≡ length l.fn.column.items;
  done : (n : ℕ) → n < l.number → at l.column.items n ≡ (at l.fn.column.items n && at l.fn.those n);
  rest : (n : ℕ) → l.number ≤ n → at l.column.items n ≡ at l.fn.column.items n;
}
