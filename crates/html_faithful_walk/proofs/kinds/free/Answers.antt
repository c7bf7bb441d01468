use Rattle.std.proofs.Common.{refl}
use Rattle.html_faithful_walk.specs.Kinds.{free}
use Rattle.html_faithful_walk.proofs.kinds.free.Goals as goal

pub returns : goal.returns
unfolding free
returns c = refl
