use Rattle.std.proofs.Common.{refl}
use Rattle.html_serialize.specs.KnownTags.{end_tags}
use Rattle.html_serialize.proofs.names.end_tags.Goals as goal

pub returns : goal.returns
unfolding end_tags
returns c = refl
