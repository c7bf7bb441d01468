use Rattle.html_rules_laws.specs.Soundness.{IsStanding}
use Rattle.html_stack_tests.proofs.inserting.make_each.Given as goal

abbrev pub invariant-loop-call : goal.invariant-loop-call
invariant-loop-call l = IsStanding l.forest l.stack.open_elems l.stack.active_formatting
