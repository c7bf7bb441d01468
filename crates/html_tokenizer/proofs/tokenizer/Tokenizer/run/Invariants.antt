use Rattle.std.proofs.Common.{length}
use Rattle.html_tokenizer.proofs.Feeds.Pieces.{Going}
use Rattle.html_tokenizer.proofs.tokenizer.Tokenizer.run.Given as goal

abbrev pub invariant-loop-answer : goal.invariant-loop-answer
invariant-loop-answer g l =
    let m = g.Sink.TokenSink in
    Going m l.fn.self l.self l.fn.input l.input

abbrev pub decreases-loop-answer : goal.decreases-loop-answer
decreases-loop-answer g l = length l.input.characters
