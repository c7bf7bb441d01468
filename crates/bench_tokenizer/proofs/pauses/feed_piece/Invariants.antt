use Rattle.html_tokenizer.specs.Calls.{IsReadyIf, refusal_of}
use Rattle.bench_tokenizer.specs.Counts.{counting}
use Rattle.bench_tokenizer.proofs.pauses.feed_piece.Given as goal

abbrev pub invariant-loop-pause : goal.invariant-loop-pause
invariant-loop-pause l = IsReadyIf counting (refusal_of l.tokenizer) l.tokenizer
