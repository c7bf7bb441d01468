use Rattle.html_rules_laws.specs.Soundness.{IsStanding}
use Rattle.html_stack_tests.proofs.formatting.list_each.Given as goal

abbrev pub invariant-loop-name : goal.invariant-loop-name
invariant-loop-name l = IsStanding l.forest l.stack.open_elems l.stack.active_formatting
