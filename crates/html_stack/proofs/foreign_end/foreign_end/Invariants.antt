use Rattle.html_stack.proofs.EndTags.{IsEndWalked}
use Rattle.html_stack.proofs.foreign_end.foreign_end.Given as goal

abbrev pub invariant-loop-i : goal.invariant-loop-i
invariant-loop-i g l = IsEndWalked l.name l.elements l.is_current l.i

abbrev pub decreases-loop-i : goal.decreases-loop-i
decreases-loop-i g l = l.i
