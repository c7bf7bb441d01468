use Rattle.std.proofs.Common.{◌≡◌, length}
use Rattle.html_faithful_judge.specs.Raw.{goes_on_here}
use Rattle.html_faithful_judge.proofs.raw.goes_on_here.Given as goal

abbrev pub invariant-loop-at : goal.invariant-loop-at
invariant-loop-at l = goes_on_here l.fn.kind l.name l.bytes ≡ goes_on_here l.kind l.name l.rest

abbrev pub decreases-loop-at : goal.decreases-loop-at
decreases-loop-at l = length l.rest
