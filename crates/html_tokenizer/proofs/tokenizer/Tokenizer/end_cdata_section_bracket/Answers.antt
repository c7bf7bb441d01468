use Rattle.html_tokenizer.proofs.EndOfInput.Text.{bracket-closes, bracket-untold}
use Rattle.html_tokenizer.proofs.tokenizer.Tokenizer.end_cdata_section_bracket.Goals as goal

pub returns-in_err-emit_char : goal.returns-in_err-emit_char
returns-in_err-emit_char g c =
    let m = g.Sink.TokenSink in
    bracket-untold m g.met.Sink.TokenSink.laws _ _ _ _ c.requires.at c.requires.sound c.in_err-emit_char.ensures c.from_residual.ensures.1

pub returns : goal.returns
returns g c =
    let m = g.Sink.TokenSink in
    bracket-closes m g.met.Sink.TokenSink.laws _ c.emit_char.new.self _ _ c.requires.at c.requires.sound
    c.in_ok-emit_char.ensures c.report_error.ensures
