use Rattle.html_tokenizer.proofs.Errors.BeforeCharacters.{run_refused}
use Rattle.html_tokenizer.proofs.Text.Runs.{unquoted_run-kept}
use Rattle.html_tokenizer.proofs.tokenizer.Tokenizer.consume_unquoted_run.Goals as goal

pub returns-in_err-report_unquoted_faults : goal.returns-in_err-report_unquoted_faults
returns-in_err-report_unquoted_faults g c =
    let m = g.Sink.TokenSink in
    run_refused m c.args.self.now _ _ _ _ c.in_err-report_unquoted_faults.ensures c.from_residual.ensures.1

pub returns : goal.returns
returns g c =
    let m = g.Sink.TokenSink in
    unquoted_run-kept m c.args.self.now c.report_unquoted_faults.new.self _ _ _ c.requires.run c.requires.sound
    c.requires.at (rw c.as_str.ensures at c.in_ok-report_unquoted_faults.ensures) c.append.ensures.ok c.append.ensures.fault
