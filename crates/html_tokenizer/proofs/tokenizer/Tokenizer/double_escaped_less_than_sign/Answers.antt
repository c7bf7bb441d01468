use Rattle.html_tokenizer.proofs.RawText.EndTags.{deep_slash-told, deep-kept}
use Rattle.html_tokenizer.proofs.tokenizer.Tokenizer.double_escaped_less_than_sign.Goals as goal

pub returns-then-c-eq47 : goal.returns-then-c-eq47
returns-then-c-eq47 g c =
    let m = g.Sink.TokenSink in
    deep_slash-told m g.met.Sink.TokenSink.laws _ _ _ _ _ c.requires.at c.requires.sound c.if-c-eq47.true
    c.new.ensures c.consume_char.ensures

pub returns : goal.returns
returns g c =
    let m = g.Sink.TokenSink in
    deep-kept m g.met.Sink.TokenSink.laws _ _ _ _ c.requires.at c.if-c-eq47.false c.raw_data_state.ensures
