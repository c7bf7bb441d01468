use Rattle.html_rules.specs.Formatting.{last_named}
use Rattle.html_stack.specs.Stacks.{entry_of}
use Rattle.html_stack.proofs.WalksBack.{IsWalked}
use Rattle.html_stack.proofs.formatting.positions.last_named.Given as goal

abbrev pub invariant-loop-i : goal.invariant-loop-i
invariant-loop-i g l = IsWalked entry_of (last_named l.name) l.entries l.i

abbrev pub decreases-loop-i : goal.decreases-loop-i
decreases-loop-i g l = l.i
