use Rattle.std.proofs.Common.{sym}
use Rattle.html_tokenizer.proofs.RawText.EndTags.{letter-told}
use Rattle.html_tokenizer.proofs.tokenizer.Tokenizer.escaped_less_than_sign.Goals as goal

pub returns-then-is_ascii_alphabetic : goal.returns-then-is_ascii_alphabetic
returns-then-is_ascii_alphabetic g c =
    let m = g.Sink.TokenSink in
    letter-told m g.met.Sink.TokenSink.laws _ _ _ _ _ c.requires.at c.requires.sound
    (sym c.if-is_ascii_alphabetic.ensures.value) c.in_ok-self.ensures.ok c.consume_two.ensures
