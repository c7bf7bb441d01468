use Rattle.std.proofs.Common.{◌≡◌, ◌+◌, length}
use Rattle.bench_tokenizer.proofs.Runs.{IsCounted}
use Rattle.bench_tokenizer.proofs.drain.characters_by_next.Given as goal

abbrev pub invariant-loop-count : goal.invariant-loop-count
invariant-loop-count l = (l.queue.taken + length l.queue.characters ≡ l.fn.queue.taken + length l.fn.queue.characters)
    × IsCounted l.count (length l.queue.characters) (length l.fn.queue.characters)

abbrev pub decreases-loop-count : goal.decreases-loop-count
decreases-loop-count l = length l.queue.characters
