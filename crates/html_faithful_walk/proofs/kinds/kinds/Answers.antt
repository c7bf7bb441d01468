use Rattle.std.proofs.Common.{refl}
use Rattle.html_faithful_walk.specs.Kinds.{kinds}
use Rattle.html_faithful_walk.proofs.kinds.kinds.Goals as goal

pub returns : goal.returns
unfolding kinds
returns c = refl
