use Rattle.std.proofs.Common.{refl}
use Rattle.html_serialize.specs.KnownTags.{attributes}
use Rattle.html_serialize.proofs.names.attributes.Goals as goal

pub returns : goal.returns
unfolding attributes
returns c = refl
