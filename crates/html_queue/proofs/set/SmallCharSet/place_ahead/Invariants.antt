use Rattle.std.proofs.Common.{◌≡◌, ◌<◌, ◌≤◌, ◌-◌, ℕ, List, false, length, slice_index}
use Rattle.html_queue.specs.Set.{has}
use Rattle.html_queue.proofs.set.SmallCharSet.place_ahead.Given as goal

-- no byte before a place is in a set
pub record IsPassed (bits : ℕ) (bytes : List ℕ) (at : ℕ) : Type 0 where
  pub within : at ≤ length bytes
  pub before : (k : ℕ) → k < at → has bits (slice_index bytes k) ≡ false

abbrev pub invariant-loop-at : goal.invariant-loop-at
invariant-loop-at l = IsPassed l.self.bits l.bytes l.at

abbrev pub decreases-loop-at : goal.decreases-loop-at
decreases-loop-at l = length l.bytes - l.at
