use Rattle.std.proofs.Common.{rules}
use Rattle.markup.proofs.text.Text.from_str.Goals as goal

pub returns-in_err-from_str-clause-ok : goal.returns-in_err-from_str-clause-ok
returns-in_err-from_str-clause-ok c = search rules

pub returns-in_err-from_str-clause-fault : goal.returns-in_err-from_str-clause-fault
returns-in_err-from_str-clause-fault c = search rules

pub returns-clause-ok : goal.returns-clause-ok
returns-clause-ok c = search rules

pub returns-clause-fault : goal.returns-clause-fault
returns-clause-fault c = search rules
