use Rattle.html_tokens.proofs.SinkTexts.{joins-from_laws}
use Rattle.html_tokens.proofs.TextLaws.{run-one_text}
use Rattle.html_tokens.proofs.laws.runs_are_one_text.Goals as goal

pub returns : goal.returns
returns g c erred rows =
    let T = g.S.TokenSink in
    run-one_text T.step erred T.asks_cdata T.ended rows T.is_sound
    (joins-from_laws T.is_sound T.step T.ended T.is_quiet g.met.S.TokenSink.laws)
