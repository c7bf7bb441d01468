use Rattle.html_rules_laws.proofs.ModesPreserved.Begins.{nested-states}
use Rattle.html_rules_laws.proofs.laws.nested_states_fit.Goals as goal

pub returns : goal.returns
returns c = nested-states
