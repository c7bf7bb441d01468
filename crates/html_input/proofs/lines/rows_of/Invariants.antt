use Rattle.std.proofs.Common.{map}
use Rattle.html_input.proofs.Rows.{AreRows}
use Rattle.html_input.proofs.lines.rows_of.Given as goal

abbrev pub invariant-loop-line : goal.invariant-loop-line
invariant-loop-line l = AreRows (map (λ line. line.now) l.yielded) l.rows.items
