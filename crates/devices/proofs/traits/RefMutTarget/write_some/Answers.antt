use Rattle.std.proofs.Common.{rules}
use Rattle.devices.proofs.traits.RefMutTarget.write_some.Goals as goal

pub returns-clause-within : goal.returns-clause-within
returns-clause-within g c = search rules

pub returns-clause-moved : goal.returns-clause-moved
returns-clause-moved g c = search rules
