use Rattle.std.proofs.Common.{rules}
use Rattle.html_queue.proofs.queue.BufferQueue.peek.Goals as goal

pub returns : goal.returns
returns c = search rules
