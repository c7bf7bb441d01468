use Rattle.html_tokenizer.specs.Steps.{Erred, a_fault}
use Rattle.html_tokenizer.proofs.tokenizer.Tokenizer.report_repeats.Given as goal

abbrev pub invariant-loop-repeat : goal.invariant-loop-repeat
invariant-loop-repeat g l =
    let m = g.Sink.TokenSink in
    Erred m a_fault l.fn.self l.self
