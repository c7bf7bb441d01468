use Rattle.html_rules_laws.proofs.Progress.ReachedRows.{each_row_is_reached}
use Rattle.html_rules_laws.proofs.whole_table.each_row_is_reached.Goals as goal

pub returns : goal.returns
returns c = each_row_is_reached
