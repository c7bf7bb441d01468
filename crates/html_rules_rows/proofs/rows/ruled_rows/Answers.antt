use Rattle.html_rules_rows.proofs.ComputedRows.{rows_are_read}
use Rattle.html_rules_rows.proofs.rows.ruled_rows.Goals as goal

pub returns : goal.returns
returns c = rows_are_read.16
