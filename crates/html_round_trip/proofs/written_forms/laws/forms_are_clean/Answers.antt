use Rattle.html_round_trip.proofs.Slices.Gathered.{forms-clean}
use Rattle.html_round_trip.proofs.written_forms.laws.forms_are_clean.Goals as goal

pub returns : goal.returns
returns g c rows reads = let T = g.S.TokenSink in forms-clean T.step T.is_quiet T.asks_cdata T.ended rows reads
