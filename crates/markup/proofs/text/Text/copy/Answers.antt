use Rattle.std.proofs.Common.{rules}
use Rattle.markup.proofs.text.Text.copy.Goals as goal

pub returns-in_err-copy-clause-ok : goal.returns-in_err-copy-clause-ok
returns-in_err-copy-clause-ok c = search rules

pub returns-in_err-copy-clause-fault : goal.returns-in_err-copy-clause-fault
returns-in_err-copy-clause-fault c = search rules

pub returns-clause-ok : goal.returns-clause-ok
returns-clause-ok c = search rules

pub returns-clause-fault : goal.returns-clause-fault
returns-clause-fault c = search rules
