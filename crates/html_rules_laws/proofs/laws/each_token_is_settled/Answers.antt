use Rattle.html_rules_laws.proofs.Termination.Settled.{each_token_is_settled}
use Rattle.html_rules_laws.proofs.laws.each_token_is_settled.Goals as goal

pub returns : goal.returns
returns c = each_token_is_settled
