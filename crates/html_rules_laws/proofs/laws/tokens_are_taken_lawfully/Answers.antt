use Rattle.html_rules_laws.proofs.StepLaws.{tokens-lawful}
use Rattle.html_rules_laws.proofs.laws.tokens_are_taken_lawfully.Goals as goal

pub returns : goal.returns
returns c = tokens-lawful
