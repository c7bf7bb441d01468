use Rattle.std.proofs.Common.{refl}
use Rattle.html_tokens.specs.Item.{grave_if}
use Rattle.html_tokens.specs.declared.token.Token.TheVariants.{CharacterTokens}
use Rattle.html_tokenizer_parts.specs.CharRefs.{has_fault}
use Rattle.html_tokenizer.specs.Steps.{owed_for}
use Rattle.html_tokenizer.proofs.Errors.RefusedErrors.{tells-erred, tells-failed}
use Rattle.html_tokenizer.proofs.HeldReferences.InText.{reference-told}
use Rattle.html_tokenizer.proofs.tokenizer.Tokenizer.emit_reference.Goals as goal

pub returns-in_err-report_reference_faults : goal.returns-in_err-report_reference_faults
returns-in_err-report_reference_faults g c =
    let m = g.Sink.TokenSink in
    tells-failed m g.met.Sink.TokenSink.laws _ _ c.report_reference_faults.new.self _ _ _ _
    c.in_err-report_reference_faults.ensures c.from_residual-in_err-report_reference_faults.ensures.1

pub returns : goal.returns
returns g c =
    let m = g.Sink.TokenSink in
    let owed = owed_for (grave_if (has_fault c.decided-decision.result.faults)) in
    reference-told m g.met.Sink.TokenSink.laws (has_fault c.decided-decision.result.faults) _ _ _ _ _ _ _ _
    refl c.decided-decision.ensures.fault c.in_ok-push_resolved.ensures.ok c.empty-text.ensures c.decided-decision.ensures.is
    (tells-erred m g.met.Sink.TokenSink.laws owed _ c.report_reference_faults.new.self _
    (CharacterTokens c.push_resolved.new.text) _ c.in_ok-report_reference_faults.ensures c.emit.ensures)
