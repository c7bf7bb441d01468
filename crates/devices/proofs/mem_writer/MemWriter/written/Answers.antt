use Rattle.std.proofs.Common.{rules}
use Rattle.devices.proofs.mem_writer.MemWriter.written.Goals as goal

pub returns : goal.returns
returns c = search rules
