use Rattle.html_tokenizer.proofs.Text.CdataSections.{cdata-bracket, cdata-null_kept, cdata-kept}
use Rattle.html_tokenizer.proofs.tokenizer.Tokenizer.cdata_section_state.Goals as goal

pub returns-then-c-eq93 : goal.returns-then-c-eq93
returns-then-c-eq93 g c =
    let m = g.Sink.TokenSink in
    cdata-bracket m g.met.Sink.TokenSink.laws _ _ c.requires.at c.requires.sound c.if-c-eq93.true

pub returns-then-c-eq0 : goal.returns-then-c-eq0
returns-then-c-eq0 g c =
    let m = g.Sink.TokenSink in
    cdata-null_kept m g.met.Sink.TokenSink.laws _ _ _ _ c.requires.at c.requires.sound c.if-c-eq0.true c.consume_null.ensures

pub returns : goal.returns
returns g c =
    let m = g.Sink.TokenSink in
    cdata-kept m g.met.Sink.TokenSink.laws _ _ _ _ c.requires.at c.requires.sound c.if-c-eq93.false c.if-c-eq0.false c.consume_char.ensures
