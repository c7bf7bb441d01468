use Rattle.std.proofs.Common.{◌≤◌, length}
use Rattle.html_stack.specs.Noted.{NoneNoted}
use Rattle.html_stack.proofs.depths.reach.Given as goal

abbrev pub invariant-loop-i : goal.invariant-loop-i
invariant-loop-i l = record {
  within : l.i ≤ length l.notes;
  one : NoneNoted l.one l.notes l.i;
  other : NoneNoted l.other l.notes l.i;
}

abbrev pub decreases-loop-i : goal.decreases-loop-i
decreases-loop-i l = l.i
