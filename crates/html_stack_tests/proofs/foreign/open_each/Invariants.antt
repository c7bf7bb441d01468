use Rattle.html_rules_laws.specs.Soundness.{IsStanding}
use Rattle.html_stack_tests.proofs.foreign.open_each.Given as goal

abbrev pub invariant-loop-element : goal.invariant-loop-element
invariant-loop-element l = IsStanding l.forest l.stack.open_elems l.stack.active_formatting
