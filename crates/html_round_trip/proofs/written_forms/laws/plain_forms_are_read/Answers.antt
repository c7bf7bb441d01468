use Rattle.std.proofs.Common.{refl}
use Rattle.html_round_trip.proofs.Slices.PlainForms.{names-of_tags, attributes-read, values-read, texts-read, comments-read}
use Rattle.html_round_trip.proofs.written_forms.laws.plain_forms_are_read.Goals as goal

pub returns : goal.returns
returns c = record {
  names = names-of_tags;
  title = refl;
  attributes = attributes-read;
  values = values-read;
  texts = texts-read;
  comments = comments-read;
}
