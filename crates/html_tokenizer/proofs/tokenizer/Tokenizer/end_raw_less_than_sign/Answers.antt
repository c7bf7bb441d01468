use Rattle.std.proofs.Common.{sym}
use Rattle.html_tokenizer.proofs.EndOfInput.Text.{raw_open-closes, raw_open-untold, deep-closes}
use Rattle.html_tokenizer.proofs.tokenizer.Tokenizer.end_raw_less_than_sign.Goals as goal

pub returns-then-not-ends_at_tag : goal.returns-then-not-ends_at_tag
returns-then-not-ends_at_tag g c =
    let m = g.Sink.TokenSink in
    deep-closes m _ _ _ _ c.requires.at (sym c.if-not-ends_at_tag.ensures) c.requires.sound c.emit_escaped_end.ensures

pub returns-in_err-emit_char : goal.returns-in_err-emit_char
returns-in_err-emit_char g c =
    let m = g.Sink.TokenSink in
    raw_open-untold m g.met.Sink.TokenSink.laws _ _ _ _ _ c.requires.at c.requires.sound
    (sym c.if-not-ends_at_tag.ensures) c.in_err-emit_char.ensures c.from_residual.ensures.1

pub returns : goal.returns
returns g c =
    let m = g.Sink.TokenSink in
    raw_open-closes m g.met.Sink.TokenSink.laws _ c.emit_char.new.self _ _ _ c.requires.at c.requires.sound
    (sym c.if-not-ends_at_tag.ensures) c.in_ok-emit_char.ensures c.emit_escaped_end-2.ensures
