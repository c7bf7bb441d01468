use Rattle.std.proofs.Common.{rules}
use Rattle.html_names.proofs.renames.adjust_attribute.Goals as goal

pub returns-in_err-local-clause-ok : goal.returns-in_err-local-clause-ok
returns-in_err-local-clause-ok c = search rules

pub returns-in_err-local-clause-fault : goal.returns-in_err-local-clause-fault
returns-in_err-local-clause-fault c = search rules

pub returns-in_err-name-clause-ok : goal.returns-in_err-name-clause-ok
returns-in_err-name-clause-ok c = search rules

pub returns-in_err-name-clause-fault : goal.returns-in_err-name-clause-fault
returns-in_err-name-clause-fault c = search rules

pub returns-clause-ok : goal.returns-clause-ok
returns-clause-ok c = search rules

pub returns-clause-fault : goal.returns-clause-fault
returns-clause-fault c = search rules
