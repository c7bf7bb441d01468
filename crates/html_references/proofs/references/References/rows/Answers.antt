use Rattle.std.proofs.Common.{rules}
use Rattle.html_references.proofs.references.References.rows.Goals as goal

pub returns-clause-rows : goal.returns-clause-rows
returns-clause-rows c = search rules

pub returns-clause-checked : goal.returns-clause-checked
returns-clause-checked c = search rules
