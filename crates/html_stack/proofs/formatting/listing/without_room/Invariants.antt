use Rattle.html_stack.proofs.Room.{IsCounted}
use Rattle.html_stack.proofs.formatting.listing.without_room.Given as goal

abbrev pub invariant-loop-i : goal.invariant-loop-i
invariant-loop-i g l = IsCounted l.tag l.entries l.i l.count l.earliest

abbrev pub decreases-loop-i : goal.decreases-loop-i
decreases-loop-i g l = l.i
