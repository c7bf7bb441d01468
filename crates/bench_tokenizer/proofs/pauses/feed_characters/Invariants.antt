use Rattle.html_tokenizer.specs.Calls.{IsReadyIf, refusal_of}
use Rattle.bench_tokenizer.specs.Counts.{counting}
use Rattle.bench_tokenizer.proofs.pauses.feed_characters.Given as goal

abbrev pub invariant-loop-c : goal.invariant-loop-c
invariant-loop-c l = IsReadyIf counting (refusal_of l.tokenizer) l.tokenizer
