use Rattle.html_rules_laws.proofs.Soundness.Sink.{rules-are-lawful}
use Rattle.html_rules_laws.proofs.laws.rules_are_a_lawful_sink.Goals as goal

pub returns : goal.returns
returns c = rules-are-lawful
