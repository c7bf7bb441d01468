use Rattle.std.proofs.Common.{◌≡◌, ◌++◌}
use Rattle.html_extracts.specs.Lines.{row_lines}
use Rattle.html_extracts.proofs.lines.push_rows.Given as goal

abbrev pub invariant-loop-name : goal.invariant-loop-name
invariant-loop-name l = l.lines.items ++ row_lines l.fn.indent l.name-iterator ≡ l.fn.lines.items ++ row_lines l.fn.indent l.fn.rows.entries
