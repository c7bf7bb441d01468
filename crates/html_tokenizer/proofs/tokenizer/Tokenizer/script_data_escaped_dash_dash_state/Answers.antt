use Rattle.html_tokenizer.proofs.RawText.Scripts.{dashes-dash_told, dashes-closed, dashes-kept}
use Rattle.html_tokenizer.proofs.tokenizer.Tokenizer.script_data_escaped_dash_dash_state.Goals as goal

pub returns-then-c-eq45 : goal.returns-then-c-eq45
returns-then-c-eq45 g c =
    let m = g.Sink.TokenSink in
    dashes-dash_told m g.met.Sink.TokenSink.laws _ _ _ _ _ c.requires.at c.requires.sound c.if-c-eq45.true c.consume_char.ensures

pub returns-then-c-eq62 : goal.returns-then-c-eq62
returns-then-c-eq62 g c =
    let m = g.Sink.TokenSink in
    dashes-closed m g.met.Sink.TokenSink.laws _ _ _ _ _ c.requires.at c.requires.sound c.if-c-eq62.true c.consume_char-then-c-eq62.ensures

pub returns : goal.returns
returns g c =
    let m = g.Sink.TokenSink in
    dashes-kept m g.met.Sink.TokenSink.laws _ _ _ _ _ c.requires.at c.if-c-eq45.false c.if-c-eq62.false c.raw_data_state.ensures
