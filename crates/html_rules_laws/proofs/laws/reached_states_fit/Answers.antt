use Rattle.html_rules_laws.proofs.ModesPreserved.Tokens.{reached-states}
use Rattle.html_rules_laws.proofs.laws.reached_states_fit.Goals as goal

pub returns : goal.returns
returns c = reached-states
