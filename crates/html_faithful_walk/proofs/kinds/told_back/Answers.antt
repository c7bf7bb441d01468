use Rattle.std.proofs.Common.{refl}
use Rattle.html_faithful_walk.specs.Kinds.{told_back}
use Rattle.html_faithful_walk.proofs.kinds.told_back.Goals as goal

pub returns : goal.returns
unfolding told_back
returns c = refl
