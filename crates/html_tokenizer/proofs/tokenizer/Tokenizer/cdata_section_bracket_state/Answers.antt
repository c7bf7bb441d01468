use Rattle.html_tokenizer.proofs.Text.CdataSections.{cdata-brackets, bracket-kept, bracket-failed}
use Rattle.html_tokenizer.proofs.tokenizer.Tokenizer.cdata_section_bracket_state.Goals as goal

pub returns-then-c-eq93 : goal.returns-then-c-eq93
returns-then-c-eq93 g c =
    let m = g.Sink.TokenSink in
    cdata-brackets m g.met.Sink.TokenSink.laws _ _ c.requires.at c.requires.sound c.if-c-eq93.true

pub returns-in_err-emit_char : goal.returns-in_err-emit_char
returns-in_err-emit_char g c =
    let m = g.Sink.TokenSink in
    bracket-failed m g.met.Sink.TokenSink.laws _ _ _ _ _ c.requires.at c.requires.sound c.if-c-eq93.false
    c.from_residual.ensures.1 c.in_err-emit_char.ensures

pub returns : goal.returns
returns g c =
    let m = g.Sink.TokenSink in
    bracket-kept m g.met.Sink.TokenSink.laws _ c.emit_char.new.self _ _ _ c.requires.at c.requires.sound
    c.if-c-eq93.false c.in_ok-emit_char.ensures c.cdata_section_state.ensures
