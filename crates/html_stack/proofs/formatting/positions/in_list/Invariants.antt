use Rattle.html_rules.specs.Formatting.{stands_for}
use Rattle.html_stack.specs.Stacks.{entry_of}
use Rattle.html_stack.proofs.Newest.{NonePasses}
use Rattle.html_stack.proofs.formatting.positions.in_list.Given as goal

abbrev pub invariant-loop-i : goal.invariant-loop-i
invariant-loop-i g l = NonePasses (entry_of g.Sink.TreeSink.node) (stands_for (g.Sink.TreeSink.node l.node)) l.entries l.i

abbrev pub decreases-loop-i : goal.decreases-loop-i
decreases-loop-i g l = l.i
