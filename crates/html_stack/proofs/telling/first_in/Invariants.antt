use Rattle.std.proofs.Common.{◌≤◌, ◌-◌, length}
use Rattle.html_stack.proofs.telling.first_in.Given as goal

abbrev pub invariant-loop-place : goal.invariant-loop-place
invariant-loop-place g l = l.place ≤ length l.elements

abbrev pub decreases-loop-place : goal.decreases-loop-place
decreases-loop-place g l = length l.elements - l.place
