use Rattle.std.proofs.Common.{rules}
use Rattle.devices.proofs.mem_writer.MemWriter.new.Goals as goal

pub returns : goal.returns
returns c = search rules
