use Rattle.std.proofs.Common.{refl}
use Rattle.html_serialize.specs.KnownTags.{start_tags}
use Rattle.html_serialize.proofs.names.start_tags.Goals as goal

pub returns : goal.returns
unfolding start_tags
returns c = refl
