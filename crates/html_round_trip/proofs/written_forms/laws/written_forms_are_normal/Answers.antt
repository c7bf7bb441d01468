use Rattle.html_round_trip.proofs.Slices.Returns.{start-no_return, end-no_return, comment-no_return, text-no_return, value-no_return}
use Rattle.html_round_trip.proofs.written_forms.laws.written_forms_are_normal.Goals as goal

pub returns : goal.returns
returns c = record {
  start = λ name attrs h plain k. start-no_return name attrs h plain.each k;
  end = end-no_return;
  comment = comment-no_return;
  text = text-no_return;
  value = value-no_return;
}
