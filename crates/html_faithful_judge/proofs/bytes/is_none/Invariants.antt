use Rattle.std.proofs.Common.{◌≡◌, ◌<◌, ◌-◌, ℕ, false}
use Rattle.std.specs.Prelude.{slice_index}
use Rattle.html_faithful_judge.specs.Bytes.{is_odd}
use Rattle.html_faithful_judge.proofs.bytes.is_none.Given as goal

abbrev pub invariant-loop-at : goal.invariant-loop-at
invariant-loop-at l = (k : ℕ) → k < l.at → is_odd (slice_index l.bytes k) ≡ false

abbrev pub decreases-loop-at : goal.decreases-loop-at
decreases-loop-at l = l.last - l.at
