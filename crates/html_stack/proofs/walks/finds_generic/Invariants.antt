use Rattle.html_rules.specs.Stack.{finds_generic}
use Rattle.html_stack.specs.Stacks.{open_of}
use Rattle.html_stack.specs.Wanted.{passes}
use Rattle.html_stack.proofs.WalksBack.{IsWalked}
use Rattle.html_stack.proofs.walks.finds_generic.Given as goal

abbrev pub invariant-loop-i : goal.invariant-loop-i
invariant-loop-i g l = IsWalked open_of (finds_generic (passes l.wanted)) l.elements l.i

abbrev pub decreases-loop-i : goal.decreases-loop-i
decreases-loop-i g l = l.i
