use Rattle.std.proofs.Common.{refl}
use Rattle.html_tokens.specs.declared.states.State.TheVariants as state
use Rattle.html_tokens.specs.declared.token.Token.TheVariants.{DoctypeToken}
use Rattle.html_tokens.specs.Item.{grave_if}
use Rattle.html_tokens.specs.Doctypes.{no_doctype}
use Rattle.html_tokenizer.specs.Steps.{owed_for}
use Rattle.html_tokenizer.proofs.Errors.RefusedErrors.{tells-erred_besides, tells-failed}
use Rattle.html_tokenizer.proofs.tokenizer.Tokenizer.emit_doctype_for.Goals as goal

pub returns-in_err-report_if : goal.returns-in_err-report_if
returns-in_err-report_if g c =
    let m = g.Sink.TokenSink in
    tells-failed m g.met.Sink.TokenSink.laws (owed_for (grave_if c.args.self.now.doctype.force_quirks)) _
    c.report_if.new.self _ _ _ _ c.in_err-report_if.ensures c.from_residual.ensures.1

pub returns : goal.returns
returns g c =
    let m = g.Sink.TokenSink in
    tells-erred_besides m g.met.Sink.TokenSink.laws (owed_for (grave_if c.args.self.now.doctype.force_quirks))
    (λ k. DoctypeToken k.doctype) (λ k. record k { doctype = no_doctype; state = state.Data }) (λ k s. refl)
    (λ k s. refl) c.args.self.now c.report_if.new.self _ _ c.in_ok-report_if.ensures c.emit_doctype_token.ensures
