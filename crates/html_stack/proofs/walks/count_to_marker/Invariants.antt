use Rattle.html_rules.specs.Formatting.{after_marker}
use Rattle.html_stack.specs.Stacks.{entry_of}
use Rattle.html_stack.proofs.WalksBack.{IsWalked}
use Rattle.html_stack.proofs.walks.count_to_marker.Given as goal

abbrev pub invariant-loop-i : goal.invariant-loop-i
invariant-loop-i g l = IsWalked entry_of after_marker l.entries l.i

abbrev pub decreases-loop-i : goal.decreases-loop-i
decreases-loop-i g l = l.i
