use Rattle.std.proofs.Common.{rules}
use Rattle.markup.proofs.text.Text.into_string.Goals as goal

pub returns-in_err-into_string-clause-ok : goal.returns-in_err-into_string-clause-ok
returns-in_err-into_string-clause-ok c = search rules

pub returns-in_err-into_string-clause-fault : goal.returns-in_err-into_string-clause-fault
returns-in_err-into_string-clause-fault c = search rules

pub returns-clause-ok : goal.returns-clause-ok
returns-clause-ok c = search rules

pub returns-clause-fault : goal.returns-clause-fault
returns-clause-fault c = search rules
