use Rattle.std.proofs.Common.{length}
use Rattle.figpliers.specs.TokenizerCalls.{IsReadyIf, refusal_of}
use Rattle.examples.proofs.tags.feed_page.Given as goal

abbrev pub invariant-loop-tokenizer : goal.invariant-loop-tokenizer
invariant-loop-tokenizer g l =
    let m = g.Sink.TokenSink in
    IsReadyIf m (refusal_of l.tokenizer) l.tokenizer

abbrev pub decreases-loop-tokenizer : goal.decreases-loop-tokenizer
decreases-loop-tokenizer g l = length l.input.characters
