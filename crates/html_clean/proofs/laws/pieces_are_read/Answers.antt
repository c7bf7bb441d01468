use Rattle.html_tokens.proofs.SinkTexts.{joins-from_laws}
use Rattle.html_clean.proofs.PiecesRead.{pieces-read}
use Rattle.html_clean.proofs.laws.pieces_are_read.Goals as goal

pub returns : goal.returns
returns g c named goes_on erred rows reads =
    let T = g.S.TokenSink in
    let laws = g.met.S.TokenSink.laws in
    pieces-read T.step erred T.asks_cdata T.ended rows T.is_sound
    (joins-from_laws T.is_sound T.step T.ended T.is_quiet laws) (λ s h t line. laws.keeps s h t line) reads named goes_on
