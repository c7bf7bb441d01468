use Rattle.html_tokenizer.proofs.Errors.RefusedErrors.{errs-failed}
use Rattle.html_tokenizer.proofs.tokenizer.Tokenizer.report_error.Goals as goal
use Rattle.html_tokenizer.specs.Steps.{a_fault}

pub returns-in_err-_reply : goal.returns-in_err-_reply
returns-in_err-_reply g c =
    let inner = g.Sink.TokenSink in
    errs-failed inner g.met.Sink.TokenSink.laws
    a_fault _ _ c.requires.sound _ tt tt _ c.in_err-_reply.field-0.0 _
    (record { sound = c.in_err-_reply.ensures.sound; loans = c.in_err-_reply.ensures.same_references })
    c.in_err-_reply.ensures.gives c.in_err-_reply.ensures.unchanged c.in_err-_reply.ensures.failed_before c.from_residual.ensures.1
