use Rattle.html_rules_laws.specs.Soundness.{IsStanding}
use Rattle.html_stack_tests.proofs.adoption.take_each.Given as goal

abbrev pub invariant-loop-step : goal.invariant-loop-step
invariant-loop-step l = IsStanding l.forest l.stack.open_elems l.stack.active_formatting
