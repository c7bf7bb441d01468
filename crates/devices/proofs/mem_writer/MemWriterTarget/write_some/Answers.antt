use Rattle.std.proofs.Common.{rules}
use Rattle.devices.proofs.mem_writer.MemWriterTarget.write_some.Goals as goal

pub returns-clause-counted : goal.returns-clause-counted
returns-clause-counted c = search rules

pub returns-clause-answer : goal.returns-clause-answer
returns-clause-answer c = search rules

pub returns-clause-after : goal.returns-clause-after
returns-clause-after c = search rules
