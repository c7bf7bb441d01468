use Rattle.html_rules.specs.Stack.{in_scope}
use Rattle.html_rules.specs.State.{is_in}
use Rattle.html_stack.specs.Stacks.{open_of}
use Rattle.html_stack.proofs.WalksBack.{IsWalked}
use Rattle.html_stack.proofs.walks.is_set_in_scope.Given as goal

abbrev pub invariant-loop-i : goal.invariant-loop-i
invariant-loop-i g l = IsWalked open_of (in_scope l.scope (is_in l.set)) l.elements l.i

abbrev pub decreases-loop-i : goal.decreases-loop-i
decreases-loop-i g l = l.i
