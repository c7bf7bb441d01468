use Rattle.std.proofs.Common.{refl}
use Rattle.html_serialize.specs.KnownTags.{manners}
use Rattle.html_serialize.proofs.names.manners.Goals as goal

pub returns : goal.returns
unfolding manners
returns c = refl
