use Rattle.html_queue.proofs.Taking.{spelled}
use Rattle.html_queue.proofs.queue.BufferQueue.as_str.Goals as goal

pub returns : goal.returns
returns c = rw (← c.self.view_is) (spelled _ _ (rw c.as_str.ensures at c.as_str.utf8) c.as_str.ensures)
