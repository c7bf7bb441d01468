use Rattle.std.proofs.Common.{rules}
use Rattle.devices.proofs.standard.StdTarget.flush.Goals as goal

pub returns : goal.returns
returns g c = search rules
