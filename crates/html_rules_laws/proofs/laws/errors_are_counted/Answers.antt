use Rattle.html_rules_laws.proofs.ErrorsMonotone.LouderTurns.{errors-counted}
use Rattle.html_rules_laws.proofs.laws.errors_are_counted.Goals as goal

pub returns : goal.returns
returns c = errors-counted
