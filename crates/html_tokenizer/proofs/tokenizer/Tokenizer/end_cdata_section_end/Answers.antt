use Rattle.html_tokenizer.proofs.EndOfInput.Text.{brackets-closes, brackets-untold}
use Rattle.html_tokenizer.proofs.tokenizer.Tokenizer.end_cdata_section_end.Goals as goal

pub returns-in_err-emit_two : goal.returns-in_err-emit_two
returns-in_err-emit_two g c =
    let m = g.Sink.TokenSink in
    brackets-untold m g.met.Sink.TokenSink.laws _ _ _ _ c.requires.at c.requires.sound c.in_err-emit_two.ensures c.from_residual.ensures.1

pub returns : goal.returns
returns g c =
    let m = g.Sink.TokenSink in
    brackets-closes m g.met.Sink.TokenSink.laws _ c.emit_two.new.self _ _ c.requires.at c.requires.sound
    c.in_ok-emit_two.ensures c.report_error.ensures
