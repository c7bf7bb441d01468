use Rattle.std.proofs.Common.{rules}
use Rattle.html_references.proofs.references.References.copy.Goals as goal

pub returns-in_err-rows-clause-ok : goal.returns-in_err-rows-clause-ok
returns-in_err-rows-clause-ok c = search rules

pub returns-in_err-rows-clause-fault : goal.returns-in_err-rows-clause-fault
returns-in_err-rows-clause-fault c = search rules

pub returns-in_err-order-clause-ok : goal.returns-in_err-order-clause-ok
returns-in_err-order-clause-ok c = search rules

pub returns-in_err-order-clause-fault : goal.returns-in_err-order-clause-fault
returns-in_err-order-clause-fault c = search rules

pub returns-clause-ok : goal.returns-clause-ok
returns-clause-ok c = search rules

pub returns-clause-fault : goal.returns-clause-fault
returns-clause-fault c = search rules
