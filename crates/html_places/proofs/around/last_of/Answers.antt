use Rattle.std.proofs.Common.{[], refl}
use Rattle.html_places.proofs.around.last_of.Goals as goal

pub returns-then-is_none : goal.returns-then-is_none
returns-then-is_none c = ([], refl)

pub returns : goal.returns
returns c = (c.halves.result.0.now, c.halves.ensures.whole)
