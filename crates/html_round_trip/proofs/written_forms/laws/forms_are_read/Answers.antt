use Rattle.html_round_trip.proofs.Slices.Gathered.{forms-read}
use Rattle.html_round_trip.proofs.written_forms.laws.forms_are_read.Goals as goal

pub returns : goal.returns
returns g c erred rows reads = let T = g.S.TokenSink in forms-read T.step erred T.asks_cdata T.ended rows reads
