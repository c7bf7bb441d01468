use Rattle.html_rules_laws.proofs.TreePreserved.ActionsStanding.{actions-Standing}
use Rattle.html_rules_laws.proofs.laws.actions_keep_elements_standing.Goals as goal

pub returns : goal.returns
returns c = actions-Standing
