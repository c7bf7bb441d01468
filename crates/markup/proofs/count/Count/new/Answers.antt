use Rattle.std.proofs.Common.{[], refl}
use Rattle.markup.proofs.Plain.{chars-plain}
use Rattle.markup.proofs.count.Count.new.Goals as goal

pub returns : goal.returns
returns c = rw (chars-plain [] refl) at c.of.ensures
