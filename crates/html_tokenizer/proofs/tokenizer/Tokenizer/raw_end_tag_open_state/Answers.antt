use Rattle.std.proofs.Common.{sym, inr}
use Rattle.html_tokenizer.proofs.RawText.EndTags.{name-taken, no_name-kept, no_name-failed}
use Rattle.html_tokenizer.proofs.tokenizer.Tokenizer.raw_end_tag_open_state.Goals as goal

pub returns-then-begins_with : goal.returns-then-begins_with
returns-then-begins_with g c =
    let m = g.Sink.TokenSink in
    name-taken m g.met.Sink.TokenSink.laws _ _ _ _ c.requires.at c.requires.sound
    (c.begins_with.ensures.letter c.if-begins_with.true) c.in_ok-begin.ensures.ok

pub returns-in_err-emit_two : goal.returns-in_err-emit_two
returns-in_err-emit_two g c =
    let m = g.Sink.TokenSink in
    no_name-failed m g.met.Sink.TokenSink.laws _ _ _ _ _ _ c.requires.at c.requires.sound
    (c.begins_with.ensures.apart c.if-begins_with.false) (inr (sym c.if-not-ends_at_tag.ensures))
    c.from_residual-in_err-emit_two.ensures.1 c.in_err-emit_two.ensures

pub returns : goal.returns
returns g c =
    let m = g.Sink.TokenSink in
    no_name-kept m g.met.Sink.TokenSink.laws _ c.emit_two.new.self _ _ _ _ c.requires.at c.requires.sound
    (c.begins_with.ensures.apart c.if-begins_with.false) (inr (sym c.if-not-ends_at_tag.ensures))
    c.in_ok-emit_two.ensures c.raw_data_state.ensures
