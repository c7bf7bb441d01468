use Rattle.std.proofs.Common.{sym}
use Rattle.html_tokenizer.proofs.RawText.Names.{letter-taken, unfit-kept, unfit-failed}
use Rattle.html_tokenizer.proofs.tokenizer.Tokenizer.raw_end_tag_name_state.Goals as goal

pub returns-then-goes_on_by : goal.returns-then-goes_on_by
returns-then-goes_on_by g c =
    let m = g.Sink.TokenSink in
    letter-taken m g.met.Sink.TokenSink.laws _ _ _ _ c.requires.at c.requires.sound
    (c.goes_on_by.ensures.letter c.if-goes_on_by.true) c.in_ok-push.ensures.ok

pub returns-in_err-emit_end_tag : goal.returns-in_err-emit_end_tag
returns-in_err-emit_end_tag g c =
    let m = g.Sink.TokenSink in
    unfit-failed m g.met.Sink.TokenSink.laws _ _ _ _ _ _ c.requires.at c.requires.sound
    c.emit_end_tag.ensures.letters (c.goes_on_by.ensures.apart c.if-goes_on_by.false)
    (sym c.if-not-ends_at_tag.ensures) (sym c.if-ends_before.ensures)
    c.from_residual-in_err-emit_end_tag.ensures.1 c.in_err-emit_end_tag.ensures.is

pub returns : goal.returns
returns g c =
    let m = g.Sink.TokenSink in
    unfit-kept m g.met.Sink.TokenSink.laws _ c.emit_end_tag.new.self _ _ _ _ c.requires.at c.requires.sound
    c.emit_end_tag.ensures.letters (c.goes_on_by.ensures.apart c.if-goes_on_by.false)
    (sym c.if-not-ends_at_tag.ensures) (sym c.if-ends_before.ensures) c.in_ok-emit_end_tag.ensures.is c.raw_data_state.ensures
