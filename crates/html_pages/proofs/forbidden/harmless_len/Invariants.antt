use Rattle.std.proofs.Common.{◌≡◌, ◌<◌, ℕ, false, slice_index}
use Rattle.html_pages.specs.Forbidden.{may_begin_forbidden}
use Rattle.html_pages.proofs.forbidden.harmless_len.Given as goal

abbrev pub invariant-loop-at : goal.invariant-loop-at
invariant-loop-at l = (k : ℕ) → k < l.at → may_begin_forbidden (slice_index l.bytes k) ≡ false
