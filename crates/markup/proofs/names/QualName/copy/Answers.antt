use Rattle.std.proofs.Common.{rules}
use Rattle.markup.proofs.names.QualName.copy.Goals as goal

pub returns-clause-ok : goal.returns-clause-ok
returns-clause-ok c = search rules
