use Rattle.html_tokens.proofs.SinkTexts.{joins-from_laws}
use Rattle.html_round_trip.proofs.Slices.Texts.{text-read}
use Rattle.html_round_trip.proofs.written_forms.laws.escaped_text_is_read_back.Goals as goal

pub returns : goal.returns
returns g c erred rows reads =
    let T = g.S.TokenSink in
    text-read T.step erred T.asks_cdata T.ended rows T.is_sound
    (joins-from_laws T.is_sound T.step T.ended T.is_quiet g.met.S.TokenSink.laws) reads
