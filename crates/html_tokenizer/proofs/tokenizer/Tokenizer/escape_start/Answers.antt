use Rattle.html_tokenizer.proofs.RawText.Scripts.{start-dash_told, start-kept}
use Rattle.html_tokenizer.proofs.tokenizer.Tokenizer.escape_start.Goals as goal

pub returns-then-c-eq45 : goal.returns-then-c-eq45
returns-then-c-eq45 g c =
    let m = g.Sink.TokenSink in
    start-dash_told m g.met.Sink.TokenSink.laws _ _ _ _ c.requires.at c.requires.sound c.if-c-eq45.true c.consume_char.ensures

pub returns : goal.returns
returns g c =
    let m = g.Sink.TokenSink in
    start-kept m g.met.Sink.TokenSink.laws _ _ _ _ c.requires.at c.if-c-eq45.false c.raw_data_state.ensures
