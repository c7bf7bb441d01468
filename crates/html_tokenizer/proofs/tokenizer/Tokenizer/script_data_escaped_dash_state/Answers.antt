use Rattle.html_tokenizer.proofs.RawText.Scripts.{escaped-dash_told, escaped-kept}
use Rattle.html_tokenizer.proofs.tokenizer.Tokenizer.script_data_escaped_dash_state.Goals as goal

pub returns-then-c-eq45 : goal.returns-then-c-eq45
returns-then-c-eq45 g c =
    let m = g.Sink.TokenSink in
    escaped-dash_told m g.met.Sink.TokenSink.laws _ _ _ _ _ c.requires.at c.requires.sound c.if-c-eq45.true c.consume_char.ensures

pub returns : goal.returns
returns g c =
    let m = g.Sink.TokenSink in
    escaped-kept m g.met.Sink.TokenSink.laws _ _ _ _ _ c.requires.at c.if-c-eq45.false c.raw_data_state.ensures
