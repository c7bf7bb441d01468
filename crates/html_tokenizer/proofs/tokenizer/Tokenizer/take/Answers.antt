use Rattle.html_tokenizer.proofs.Steps.Going.{close-failed, on-answered}
use Rattle.html_tokenizer.proofs.tokenizer.Tokenizer.take.Goals as goal

pub returns : goal.returns
returns g c =
    let m = g.Sink.TokenSink in
    on-answered m c.args.self.now c.consume_on.new.self c.args.c c.args.answer.now c.consume_on.result
    c.requires.goes_on c.consume_on.ensures

pub returns-in_err-answer : goal.returns-in_err-answer
returns-in_err-answer g c =
    let m = g.Sink.TokenSink in
    close-failed m c.args.self.now c.consume_close.new.self c.args.c _ _ c.from_residual.result
    c.in_err-answer.ensures c.from_residual.ensures.1
