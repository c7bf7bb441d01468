use Rattle.std.specs.Prelude.{codes}
use Rattle.html_rules.specs.Formatting.{last_named}
use Rattle.html_stack.specs.Stacks.{entry_of}
use Rattle.html_stack.proofs.WalksBack.{IsWalked}
use Rattle.html_tree_builder.proofs.walks.lists_a.Given as goal

abbrev pub invariant-loop-i : goal.invariant-loop-i
invariant-loop-i g l = IsWalked entry_of (last_named (codes "a")) l.entries l.i

abbrev pub decreases-loop-i : goal.decreases-loop-i
decreases-loop-i g l = l.i
