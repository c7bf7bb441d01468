use Rattle.html_rules.specs.Adoption.{is_number}
use Rattle.html_stack.specs.Stacks.{open_of}
use Rattle.html_stack.proofs.Newest.{NonePasses}
use Rattle.html_stack.proofs.formatting.positions.on_stack_below.Given as goal

abbrev pub invariant-loop-i : goal.invariant-loop-i
invariant-loop-i g l = NonePasses (open_of g.Sink.TreeSink.node) (is_number (g.Sink.TreeSink.node l.node)) l.elements l.i

abbrev pub decreases-loop-i : goal.decreases-loop-i
decreases-loop-i g l = l.i
