use Rattle.std.proofs.Common.{rules}
use Rattle.devices.proofs.standard.StdTargetTarget.write_some.Goals as goal

pub returns-clause-inner : goal.returns-clause-inner
returns-clause-inner g c = search rules
