use Rattle.html_tokens.specs.declared.replies.ProcessResult.TheVariants as flow
use Rattle.html_tokenizer.proofs.Steps.Going.{on-refused, on-untold}
use Rattle.html_tokenizer.proofs.Feeds.Characters.{passed}
use Rattle.html_tokenizer.proofs.tokenizer.Tokenizer.consume_on.Goals as goal

pub returns : goal.returns
returns g c =
    let m = g.Sink.TokenSink in
    passed m c.args.self.now c.report_forbidden.new.self c.advance_on.new.self c.count_break.new.self c.args.c
    flow.Continue c.in_ok-report_forbidden.ensures c.in_ok-advance_on.ensures c.count_break.ensures

pub returns-in_err-report_forbidden : goal.returns-in_err-report_forbidden
returns-in_err-report_forbidden g c =
    let m = g.Sink.TokenSink in
    on-untold m c.args.self.now c.report_forbidden.new.self c.args.c _ _ c.in_err-report_forbidden.ensures c.from_residual.ensures.1

pub returns-in_err-advance_on : goal.returns-in_err-advance_on
returns-in_err-advance_on g c =
    let m = g.Sink.TokenSink in
    on-refused m c.args.self.now c.report_forbidden.new.self c.advance_on.new.self c.args.c _ _
    c.in_ok-report_forbidden.ensures c.in_err-advance_on.ensures c.from_residual-in_err-advance_on.ensures.1
