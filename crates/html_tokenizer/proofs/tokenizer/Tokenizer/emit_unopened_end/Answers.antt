use Rattle.std.proofs.Common.{Some}
use Rattle.html_tokens.specs.Item.{Slight}
use Rattle.html_tokenizer.proofs.Errors.RefusedErrors.{tells-erred, tells-failed, tells-less}
use Rattle.html_tokenizer.proofs.tokenizer.Tokenizer.emit_unopened_end.Goals as goal
use Rattle.html_tokenizer.specs.Steps.{a_fault, owed_for}
use Rattle.html_tokenizer.proofs.Errors.Rises.{slight-no-more}

pub returns-in_err-report_error : goal.returns-in_err-report_error
returns-in_err-report_error g c =
    let m = g.Sink.TokenSink in
    tells-failed m g.met.Sink.TokenSink.laws (owed_for (Some Slight)) _ c.report_error.new.self _ _ _ _
    c.in_err-report_error.ensures c.from_residual.ensures.1

pub returns : goal.returns
returns g c =
    let m = g.Sink.TokenSink in
    tells-less m g.met.Sink.TokenSink.laws a_fault (owed_for (Some Slight)) _ _ _ _ slight-no-more
    (tells-erred m g.met.Sink.TokenSink.laws a_fault _ c.report_error.new.self _ _ _ c.in_ok-report_error.ensures c.emit_two.ensures)
