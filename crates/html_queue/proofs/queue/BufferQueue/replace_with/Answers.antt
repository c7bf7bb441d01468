use Rattle.std.proofs.Common.{rules}
use Rattle.html_queue.proofs.queue.BufferQueue.replace_with.Goals as goal

pub returns : goal.returns
returns c = search rules
