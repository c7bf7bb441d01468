use Rattle.html_tokenizer.proofs.EndOfInput.Text.{raw_end_open-closes, raw_end_open-untold}
use Rattle.html_tokenizer.proofs.tokenizer.Tokenizer.end_raw_end_tag_open.Goals as goal

pub returns-in_err-emit_two : goal.returns-in_err-emit_two
returns-in_err-emit_two g c =
    let m = g.Sink.TokenSink in
    raw_end_open-untold m g.met.Sink.TokenSink.laws _ _ _ _ _ c.requires.at c.requires.sound
    c.in_err-emit_two.ensures c.from_residual.ensures.1

pub returns : goal.returns
returns g c =
    let m = g.Sink.TokenSink in
    raw_end_open-closes m g.met.Sink.TokenSink.laws _ c.emit_two.new.self _ _ _ c.requires.at c.requires.sound
    c.in_ok-emit_two.ensures c.emit_escaped_end.ensures
