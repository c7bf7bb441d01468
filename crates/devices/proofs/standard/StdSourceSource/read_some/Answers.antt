use Rattle.std.proofs.Common.{rules}
use Rattle.devices.proofs.standard.StdSourceSource.read_some.Goals as goal

pub returns-clause-within : goal.returns-clause-within
returns-clause-within g c = search rules

pub returns-clause-inner : goal.returns-clause-inner
returns-clause-inner g c = search rules
