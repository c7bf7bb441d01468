use Rattle.html_tokenizer.proofs.RawText.EndTags.{slash-taken, less-kept, less-failed}
use Rattle.html_tokenizer.proofs.tokenizer.Tokenizer.held_less_than_sign.Goals as goal

pub returns-then-c-eq47 : goal.returns-then-c-eq47
returns-then-c-eq47 g c =
    let m = g.Sink.TokenSink in
    slash-taken m g.met.Sink.TokenSink.laws _ _ _ c.requires.at c.requires.sound c.requires.held c.if-c-eq47.true

pub returns-in_err-emit_char : goal.returns-in_err-emit_char
returns-in_err-emit_char g c =
    let m = g.Sink.TokenSink in
    less-failed m g.met.Sink.TokenSink.laws _ _ _ _ _ _ c.requires.at c.requires.sound c.requires.held
    c.requires.plain c.if-c-eq47.false c.from_residual.ensures.1 c.in_err-emit_char.ensures

pub returns : goal.returns
returns g c =
    let m = g.Sink.TokenSink in
    less-kept m g.met.Sink.TokenSink.laws _ c.emit_char.new.self _ _ _ _ c.requires.at c.requires.sound
    c.requires.held c.requires.plain c.if-c-eq47.false c.in_ok-emit_char.ensures c.raw_data_state.ensures
