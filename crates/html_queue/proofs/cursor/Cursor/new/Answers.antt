use Rattle.std.proofs.Common.{rules}
use Rattle.html_queue.proofs.cursor.Cursor.new.Goals as goal

pub returns : goal.returns
returns c = search rules
