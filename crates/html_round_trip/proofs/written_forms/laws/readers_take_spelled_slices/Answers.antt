use Rattle.html_round_trip.proofs.Slices.Readers.{are-readers}
use Rattle.html_round_trip.proofs.written_forms.laws.readers_take_spelled_slices.Goals as goal

pub returns : goal.returns
returns g c rows = let T = g.S.TokenSink in are-readers T.step T.is_quiet T.asks_cdata T.ended rows
