use Rattle.html_rules.specs.Stack.{left_from}
use Rattle.html_stack.specs.Stacks.{open_of}
use Rattle.html_stack.specs.Wanted.{passes}
use Rattle.html_stack.proofs.WalksBack.{IsWalked}
use Rattle.html_stack.proofs.walks.count_from.Given as goal

abbrev pub invariant-loop-i : goal.invariant-loop-i
invariant-loop-i g l = IsWalked open_of (left_from (passes l.wanted)) l.elements l.i

abbrev pub decreases-loop-i : goal.decreases-loop-i
decreases-loop-i g l = l.i
