use Rattle.html_tokenizer.proofs.RawText.States.{raw-kept}
use Rattle.html_tokenizer.proofs.tokenizer.Tokenizer.raw_data_state.Goals as goal

pub returns : goal.returns
returns g c =
    let m = g.Sink.TokenSink in
    raw-kept m g.met.Sink.TokenSink.laws _ _ _ _ _ c.requires.at c.requires.sound c.if-c-eq60.false
    c.if-c-eq38.false c.if-c-eq45.false c.consume_shown.ensures
