use Rattle.std.proofs.Common.{refl}
use Rattle.html_tokens.specs.Clean.{clean_from}
use Rattle.html_tokens.specs.Tags.{value_from}
use Rattle.html_tokens.proofs.rows.clean_rows.Goals as goal

pub returns : goal.returns
unfolding clean_from value_from
returns c = (refl, refl)
