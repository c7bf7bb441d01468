use Rattle.html_rules_laws.proofs.Progress.UsableTokens.{states-usable}
use Rattle.html_rules_laws.proofs.laws.usable_states_are_lawful.Goals as goal

pub returns : goal.returns
returns c = states-usable
