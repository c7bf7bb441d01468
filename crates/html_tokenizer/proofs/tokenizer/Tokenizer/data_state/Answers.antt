use Rattle.html_tokenizer.proofs.Text.States.{data-opened, data-reference, data-null_kept, data-kept}
use Rattle.html_tokenizer.proofs.tokenizer.Tokenizer.data_state.Goals as goal

pub returns-then-c-eq60 : goal.returns-then-c-eq60
returns-then-c-eq60 g c =
    let m = g.Sink.TokenSink in
    data-opened m g.met.Sink.TokenSink.laws _ _ c.requires.at c.requires.sound c.if-c-eq60.true

pub returns-then-c-eq38 : goal.returns-then-c-eq38
returns-then-c-eq38 g c =
    let m = g.Sink.TokenSink in
    data-reference m g.met.Sink.TokenSink.laws _ _ _ c.requires.at c.requires.sound c.if-c-eq38.true c.new.ensures

pub returns-then-c-eq0 : goal.returns-then-c-eq0
returns-then-c-eq0 g c =
    let m = g.Sink.TokenSink in
    data-null_kept m g.met.Sink.TokenSink.laws _ _ _ _ c.requires.at c.requires.sound c.if-c-eq0.true c.consume_null.ensures

pub returns : goal.returns
returns g c =
    let m = g.Sink.TokenSink in
    data-kept m g.met.Sink.TokenSink.laws _ _ _ _ c.requires.at c.requires.sound c.if-c-eq60.false c.if-c-eq38.false
    c.if-c-eq0.false c.consume_char.ensures
