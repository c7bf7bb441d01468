use Rattle.std.proofs.Common.{◌≡◌, length}
use Rattle.html_places.specs.Around.{IsGone}
use Rattle.html_places.proofs.around.Surroundings.seek.Given as goal

abbrev pub invariant-loop-place : goal.invariant-loop-place
invariant-loop-place l = IsGone l.self × (l.self.text.now ≡ l.initial.self.text.now)

abbrev pub decreases-loop-place : goal.decreases-loop-place
decreases-loop-place l = length l.self.rest.now
