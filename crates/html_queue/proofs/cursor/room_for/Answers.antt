use Rattle.std.proofs.lemmas.Str.{IsCharBoundary-start}
use Rattle.html_queue.proofs.cursor.room_for.Goals as goal

pub returns-else-width-place-clause-cut : goal.returns-else-width-place-clause-cut
returns-else-width-place-clause-cut c = IsCharBoundary-start _ c.utf8.text
