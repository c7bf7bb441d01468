use Rattle.html_rules_laws.proofs.Termination.Uses.{each_use_ends}
use Rattle.html_rules_laws.proofs.whole_table.each_use_ends.Goals as goal

pub returns : goal.returns
returns c = each_use_ends
