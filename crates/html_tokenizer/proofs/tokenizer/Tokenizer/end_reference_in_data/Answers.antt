use Rattle.std.proofs.Common.{◌∙◌, sym}
use Rattle.html_tokenizer.proofs.HeldReferences.InText.{data-ended, data-ended_unknown, data-failed}
use Rattle.html_tokenizer.proofs.tokenizer.Tokenizer.end_reference_in_data.Goals as goal

pub returns-in_err-emit_reference : goal.returns-in_err-emit_reference
returns-in_err-emit_reference g c =
    let m = g.Sink.TokenSink in
    data-failed m g.met.Sink.TokenSink.laws _ _ _ _ _ _ c.requires.at c.requires.sound c.requires.decided
    c.from_residual.ensures.1 c.in_err-emit_reference.ensures

pub returns-then-unknown : goal.returns-then-unknown
returns-then-unknown g c =
    let m = g.Sink.TokenSink in
    data-ended_unknown m g.met.Sink.TokenSink.laws _ c.emit_reference.new.self _ _ _ _ c.requires.at
    c.requires.sound c.requires.decided (sym c.is_unknown-unknown.ensures ∙ c.if-unknown.true)
    c.in_ok-emit_reference.ensures c.ambiguous_ampersand_state.ensures

pub returns : goal.returns
returns g c =
    let m = g.Sink.TokenSink in
    data-ended m g.met.Sink.TokenSink.laws _ _ _ _ _ _ c.requires.at c.requires.sound c.requires.decided
    c.in_ok-emit_reference.ensures c.data_state.ensures
