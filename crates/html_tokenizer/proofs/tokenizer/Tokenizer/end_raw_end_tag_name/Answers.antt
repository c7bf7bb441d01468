use Rattle.html_tokenizer.proofs.EndOfInput.Text.{raw_name-closes, raw_name-untold}
use Rattle.html_tokenizer.proofs.tokenizer.Tokenizer.end_raw_end_tag_name.Goals as goal

pub returns-in_err-emit_end_tag : goal.returns-in_err-emit_end_tag
returns-in_err-emit_end_tag g c =
    let m = g.Sink.TokenSink in
    raw_name-untold m g.met.Sink.TokenSink.laws _ _ _ _ _ c.requires.at c.requires.sound
    c.in_err-emit_end_tag.ensures.letters c.in_err-emit_end_tag.ensures.is c.from_residual.ensures.1

pub returns : goal.returns
returns g c =
    let m = g.Sink.TokenSink in
    raw_name-closes m g.met.Sink.TokenSink.laws _ c.emit_end_tag.new.self _ _ _ c.requires.at c.requires.sound
    c.in_ok-emit_end_tag.ensures.letters c.in_ok-emit_end_tag.ensures.is c.emit_escaped_end.ensures
