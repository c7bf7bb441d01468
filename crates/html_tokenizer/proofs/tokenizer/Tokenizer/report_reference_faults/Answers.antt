use Rattle.html_tokenizer.proofs.Errors.BeforeCharacters.{errs-not, errs-then}
use Rattle.html_tokenizer.proofs.Errors.Rises.{either-no-more}
use Rattle.html_tokenizer.proofs.tokenizer.Tokenizer.report_reference_faults.Goals as goal

pub returns-in_err-report_if : goal.returns-in_err-report_if
returns-in_err-report_if g c =
    let m = g.Sink.TokenSink in
    errs-not m _ _ _ _ _ c.in_err-report_if.ensures c.from_residual.ensures.1

pub returns : goal.returns
returns g c =
    let m = g.Sink.TokenSink in
    errs-then m _ _ _ c.report_if.new.self _ _ (either-no-more _ _) c.in_ok-report_if.ensures c.report_fault.ensures
