use Rattle.std.proofs.Common.{◌≡◌, ◌<◌, ℕ, false, slice_index}
use Rattle.html_tokenizer.specs.AheadRuns.{ends_run}
use Rattle.html_tokenizer.proofs.front_runs.RunKind.width.Given as goal

abbrev pub invariant-loop-i : goal.invariant-loop-i
invariant-loop-i l = (k : ℕ) → k < l.i → ends_run l.self (slice_index l.bytes k) ≡ false
