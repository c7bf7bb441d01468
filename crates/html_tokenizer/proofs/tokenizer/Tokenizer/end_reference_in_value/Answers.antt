use Rattle.std.specs.Prelude.{Some}
use Rattle.std.proofs.Common.{◌∙◌, sym}
use Rattle.html_tokenizer_parts.specs.declared.held_reference.Ampersand.TheVariants.{Held}
use Rattle.html_tokenizer.specs.Rest.{rows_of}
use Rattle.html_tokenizer.proofs.Errors.BeforeCharacters.{keeps_refused}
use Rattle.html_tokenizer.proofs.HeldReferences.InValues.{value-erred, value-erred_unknown, value-pushed}
use Rattle.html_tokenizer.proofs.tokenizer.Tokenizer.end_reference_in_value.Goals as goal

pub returns-in_err-report_reference_faults : goal.returns-in_err-report_reference_faults
returns-in_err-report_reference_faults g c =
    let m = g.Sink.TokenSink in
    keeps_refused m c.args.self.now _ (Some (Held c.args.held.now)) c.args.c _ _
    c.in_err-report_reference_faults.ensures c.from_residual.ensures.1

pub returns-then-unknown : goal.returns-then-unknown
returns-then-unknown g c =
    let m = g.Sink.TokenSink in
    value-erred_unknown m _ c.goes_on_at.result c.args.self.now c.report_reference_faults.new.self _ c.args.kind
    c.args.held.now c.push_resolved.new.text c.args.c _ c.requires.at c.requires.decided c.decided-decision.ensures.fault
    (sym c.is_unknown-unknown.ensures ∙ c.if-unknown.true) c.in_ok-report_reference_faults.ensures
    (value-pushed (rows_of c.args.self.now) c.push_resolved.new.text
    c.report_reference_faults.new.self.attribute_value c.args.held.now _ c.goes_on_at.result c.args.c
    c.in_ok-push_resolved.ensures.ok c.decided-decision.ensures.is c.goes_on_at.ensures) c.ambiguous_ampersand_state.ensures

pub returns : goal.returns
returns g c =
    let m = g.Sink.TokenSink in
    value-erred m _ c.goes_on_at.result c.args.self.now c.report_reference_faults.new.self _ c.args.kind
    c.args.held.now c.push_resolved.new.text c.args.c _ c.requires.at c.requires.decided
    c.decided-decision.ensures.fault c.in_ok-report_reference_faults.ensures
    (value-pushed (rows_of c.args.self.now) c.push_resolved.new.text
    c.report_reference_faults.new.self.attribute_value c.args.held.now _ c.goes_on_at.result c.args.c
    c.in_ok-push_resolved.ensures.ok c.decided-decision.ensures.is c.goes_on_at.ensures) c.attribute_value_state.ensures
