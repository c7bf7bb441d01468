use Rattle.html_round_trip.proofs.Slices.Gathered.{forms-spelled}
use Rattle.html_round_trip.proofs.written_forms.laws.forms_are_spelled.Goals as goal

pub returns : goal.returns
returns c = forms-spelled
