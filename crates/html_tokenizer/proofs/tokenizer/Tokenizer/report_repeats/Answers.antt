use Rattle.std.proofs.Common.{rules}
use Rattle.html_tokenizer.proofs.Errors.BeforeCharacters.{errs-behind, errs-not}
use Rattle.html_tokenizer.proofs.tokenizer.Tokenizer.report_repeats.Goals as goal

pub returns-in_err-report_error : goal.returns-in_err-report_error
returns-in_err-report_error g c =
    let m = g.Sink.TokenSink in
    errs-not m _ _ _ _ _ c.in_err-report_error.ensures c.from_residual.ensures.1

pub returns-in_err-report_error-2 : goal.returns-in_err-report_error-2
returns-in_err-report_error-2 g c =
    let m = g.Sink.TokenSink in
    errs-behind m _ c.args.self.now c.loop-repeat.self _ _ _ c.loop-repeat.invariant c.in_err-report_error-2.ensures
    c.from_residual-in_err-report_error-2.ensures.1

pub returns : goal.returns
returns g c = search rules
