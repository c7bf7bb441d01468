use Rattle.std.proofs.Common.{sym}
use Rattle.html_tokenizer.proofs.RawText.States.{raw-opened, raw-open_told}
use Rattle.html_tokenizer.proofs.tokenizer.Tokenizer.raw_less_than_sign.Goals as goal

pub returns-then-ends_at_tag : goal.returns-then-ends_at_tag
returns-then-ends_at_tag g c =
    let m = g.Sink.TokenSink in
    raw-opened m g.met.Sink.TokenSink.laws _ _ c.requires.at c.requires.sound (sym c.if-ends_at_tag.ensures)

pub returns-else-ends_at_tag : goal.returns-else-ends_at_tag
returns-else-ends_at_tag g c =
    let m = g.Sink.TokenSink in
    raw-open_told m g.met.Sink.TokenSink.laws _ _ _ _ c.requires.at c.requires.sound (sym c.if-ends_at_tag.ensures) c.consume_char.ensures
