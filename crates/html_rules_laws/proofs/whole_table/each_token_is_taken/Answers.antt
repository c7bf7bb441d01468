use Rattle.html_rules_laws.proofs.Progress.TotalRows.{each_token_is_taken}
use Rattle.html_rules_laws.proofs.whole_table.each_token_is_taken.Goals as goal

pub returns : goal.returns
returns c = each_token_is_taken
