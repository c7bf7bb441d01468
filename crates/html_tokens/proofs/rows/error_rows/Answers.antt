use Rattle.std.proofs.Common.{refl}
use Rattle.html_tokens.specs.Reading.{reading_from}
use Rattle.html_tokens.specs.Tags.{value_from}
use Rattle.html_tokens.proofs.rows.error_rows.Goals as goal

pub returns : goal.returns
unfolding reading_from value_from
returns c = (refl, refl, refl)
