use Rattle.html_tokens.specs.Notes.{noting, noting_error, noting_cdata, noting_end}
use Rattle.html_round_trip.proofs.Slices.Gathered.{forms-read}
use Rattle.html_round_trip.proofs.written_forms.laws.forms_are_noted.Goals as goal

pub returns : goal.returns
returns g c rows reads = let T = g.S.TokenSink in forms-read (noting T.step T.is_quiet) noting_error
    (noting_cdata T.asks_cdata) (noting_end T.ended) rows reads
