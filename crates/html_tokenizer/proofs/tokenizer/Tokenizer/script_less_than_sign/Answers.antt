use Rattle.html_tokenizer.proofs.RawText.EndTags.{bang-told}
use Rattle.html_tokenizer.proofs.tokenizer.Tokenizer.script_less_than_sign.Goals as goal

pub returns-then-c-eq33 : goal.returns-then-c-eq33
returns-then-c-eq33 g c =
    let m = g.Sink.TokenSink in
    bang-told m g.met.Sink.TokenSink.laws _ _ _ _ c.requires.at c.requires.sound c.if-c-eq33.true c.consume_two.ensures
