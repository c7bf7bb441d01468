use Rattle.html_tokenizer.proofs.Errors.RefusedErrors.{tells-erred, tells-failed}
use Rattle.html_tokenizer.proofs.tokenizer.Tokenizer.emit_replacement.Goals as goal
use Rattle.html_tokenizer.specs.Steps.{a_fault}

pub returns-in_err-report_error : goal.returns-in_err-report_error
returns-in_err-report_error g c =
    let m = g.Sink.TokenSink in
    tells-failed m g.met.Sink.TokenSink.laws a_fault _ c.report_error.new.self _ _ _ _ c.in_err-report_error.ensures
    c.from_residual.ensures.1

pub returns : goal.returns
returns g c =
    let m = g.Sink.TokenSink in
    tells-erred m g.met.Sink.TokenSink.laws a_fault _ c.report_error.new.self _ _ _ c.in_ok-report_error.ensures c.emit_char.ensures
