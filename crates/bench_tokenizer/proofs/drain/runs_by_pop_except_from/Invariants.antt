use Rattle.std.proofs.Common.{◌≡◌, ◌+◌, length}
use Rattle.bench_tokenizer.specs.Runs.{runs_and_members}
use Rattle.bench_tokenizer.specs.declared.drain.TheConstants.{STOPS}
use Rattle.bench_tokenizer.proofs.Runs.{IsCounted}
use Rattle.bench_tokenizer.proofs.drain.runs_by_pop_except_from.Given as goal

abbrev pub invariant-loop-count : goal.invariant-loop-count
invariant-loop-count l = (l.queue.taken + length l.queue.characters ≡ l.fn.queue.taken + length l.fn.queue.characters)
    × IsCounted l.count (runs_and_members STOPS.bits l.queue.characters) (runs_and_members STOPS.bits l.fn.queue.characters)

abbrev pub decreases-loop-count : goal.decreases-loop-count
decreases-loop-count l = length l.queue.characters
