use Rattle.html_tokenizer.proofs.Tags.States.{slash-close, slash-other}
use Rattle.html_tokenizer.proofs.tokenizer.Tokenizer.consume_after_solidus.Goals as goal

pub returns-then-c-eq62 : goal.returns-then-c-eq62
returns-then-c-eq62 g c =
    let m = g.Sink.TokenSink in
    slash-close m _ _ _ _ c.requires.at c.requires.sound c.if-c-eq62.true c.emit_tag.ensures

pub returns : goal.returns
returns g c =
    let m = g.Sink.TokenSink in
    slash-other m _ _ _ _ c.requires.at c.if-c-eq62.false c.before_attribute_name_state.ensures
