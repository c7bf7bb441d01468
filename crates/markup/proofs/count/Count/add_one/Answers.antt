use Rattle.std.proofs.Common.{[], ◌∷◌, refl}
use Rattle.markup.proofs.Plain.{chars-plain}
use Rattle.markup.proofs.count.Count.add_one.Goals as goal

pub returns : goal.returns
returns c = rw (chars-plain (120 ∷ []) refl) at c.add.ensures
