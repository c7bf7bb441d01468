use Rattle.std.proofs.Common.{refl}
use Rattle.markup.specs.KnownNames.{names}
use Rattle.markup.proofs.known_names.table.Goals as goal

pub returns : goal.returns
unfolding names
returns c = refl
