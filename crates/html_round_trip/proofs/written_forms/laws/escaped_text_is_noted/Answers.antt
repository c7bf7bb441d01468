use Rattle.html_tokens.specs.Notes.{noting, noting_error, noting_cdata, noting_end}
use Rattle.html_tokens.proofs.SinkTexts.{joins-from_laws}
use Rattle.html_round_trip.proofs.Slices.Noted.{noting-joins}
use Rattle.html_round_trip.proofs.Slices.Texts.{text-read}
use Rattle.html_round_trip.proofs.written_forms.laws.escaped_text_is_noted.Goals as goal

pub returns : goal.returns
returns g c rows reads =
    let T = g.S.TokenSink in
    let laws = g.met.S.TokenSink.laws in
    text-read (noting T.step T.is_quiet) noting_error (noting_cdata T.asks_cdata) (noting_end T.ended) rows (λ s. T.is_sound s.0)
    (noting-joins T.step T.is_quiet T.asks_cdata T.ended rows T.is_sound
    (joins-from_laws T.is_sound T.step T.ended T.is_quiet laws) (λ s h a b line. laws.quiet s h a b line)) reads
