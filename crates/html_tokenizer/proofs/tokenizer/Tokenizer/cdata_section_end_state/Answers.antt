use Rattle.html_tokenizer.proofs.Text.CdataSections.{cdata-ended, more-kept, brackets-kept, brackets-failed}
use Rattle.html_tokenizer.proofs.tokenizer.Tokenizer.cdata_section_end_state.Goals as goal

pub returns-then-c-eq62 : goal.returns-then-c-eq62
returns-then-c-eq62 g c =
    let m = g.Sink.TokenSink in
    cdata-ended m g.met.Sink.TokenSink.laws _ _ c.requires.at c.requires.sound c.if-c-eq62.true

pub returns-then-c-eq93 : goal.returns-then-c-eq93
returns-then-c-eq93 g c =
    let m = g.Sink.TokenSink in
    more-kept m g.met.Sink.TokenSink.laws _ _ _ _ c.requires.at c.requires.sound c.if-c-eq93.true c.consume_char.ensures

pub returns-in_err-emit_two : goal.returns-in_err-emit_two
returns-in_err-emit_two g c =
    let m = g.Sink.TokenSink in
    brackets-failed m g.met.Sink.TokenSink.laws _ _ _ _ _ c.requires.at c.requires.sound c.if-c-eq93.false
    c.if-c-eq62.false c.from_residual.ensures.1 c.in_err-emit_two.ensures

pub returns : goal.returns
returns g c =
    let m = g.Sink.TokenSink in
    brackets-kept m g.met.Sink.TokenSink.laws _ c.emit_two.new.self _ _ _ c.requires.at c.requires.sound
    c.if-c-eq93.false c.if-c-eq62.false c.in_ok-emit_two.ensures c.cdata_section_state.ensures
