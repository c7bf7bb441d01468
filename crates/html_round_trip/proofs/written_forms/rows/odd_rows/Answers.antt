use Rattle.std.proofs.Common.{refl}
use Rattle.markup.specs.Namespaces.{known_namespace, name_of}
use Rattle.html_tokens.specs.Clean.{clean_from}
use Rattle.html_tokens.specs.Reading.{reading_from}
use Rattle.html_tokens.specs.Tags.{value_from}
use Rattle.html_round_trip.proofs.written_forms.rows.odd_rows.Goals as goal

pub returns : goal.returns
unfolding reading_from value_from clean_from known_namespace name_of
returns c = refl
