use Rattle.html_rules_laws.proofs.TreePreserved.Tokens.{states-steady}
use Rattle.html_rules_laws.proofs.laws.tokens_keep_elements_standing.Goals as goal

pub returns : goal.returns
returns c = states-steady
