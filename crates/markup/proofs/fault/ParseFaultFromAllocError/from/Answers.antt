use Rattle.std.proofs.Common.{rules}
use Rattle.markup.proofs.fault.ParseFaultFromAllocError.from.Goals as goal

pub returns : goal.returns
returns c = search rules
