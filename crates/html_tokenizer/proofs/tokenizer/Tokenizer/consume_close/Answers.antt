use Rattle.html_tokenizer.proofs.Feeds.Characters.{passed, not-passed, error-refused}
use Rattle.html_tokenizer.proofs.tokenizer.Tokenizer.consume_close.Goals as goal

pub returns-in_err-report_forbidden : goal.returns-in_err-report_forbidden
returns-in_err-report_forbidden g c =
    let m = g.Sink.TokenSink in
    error-refused m _ c.report_forbidden.new.self _ _ _ c.in_err-report_forbidden.ensures c.from_residual.ensures.1

pub returns-in_err-result : goal.returns-in_err-result
returns-in_err-result g c =
    let m = g.Sink.TokenSink in
    not-passed m _ c.report_forbidden.new.self c.advance.new.self _ _ _ c.in_ok-report_forbidden.ensures
    c.in_err-result.ensures c.from_residual-in_err-result.ensures.1

pub returns : goal.returns
returns g c =
    let m = g.Sink.TokenSink in
    passed m c.args.self.now c.report_forbidden.new.self c.advance.new.self c.count_break.new.self c.args.c
    c.in_ok-result.result c.in_ok-report_forbidden.ensures c.in_ok-result.ensures c.count_break.ensures
