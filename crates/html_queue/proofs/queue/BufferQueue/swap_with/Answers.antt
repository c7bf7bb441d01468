use Rattle.std.proofs.Common.{rules}
use Rattle.html_queue.proofs.queue.BufferQueue.swap_with.Goals as goal

pub returns-clause-here : goal.returns-clause-here
returns-clause-here c = search rules

pub returns-clause-there : goal.returns-clause-there
returns-clause-there c = search rules
