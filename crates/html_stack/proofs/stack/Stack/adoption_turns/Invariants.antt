use Rattle.std.proofs.Common.{◌≡◌, ◌≤◌}
use Rattle.markup.specs.Forest.{node_count}
use Rattle.html_rules.specs.Adoption.{adoption_turns}
use Rattle.html_rules.specs.State.{State}
use Rattle.html_rules_laws.specs.Soundness.{IsStanding}
use Rattle.html_stack.specs.Stacks.{joined}
use Rattle.html_stack.proofs.stack.Stack.adoption_turns.Given as goal

abbrev pub invariant-loop-left : goal.invariant-loop-left
invariant-loop-left g l = record {
  turns : (s : State) → s.foster_parenting ≡ l.foster → adoption_turns l.left l.name
      (joined s l.self (g.Sink.TreeSink.forest l.sink)) ≡ adoption_turns 8 l.name (joined s l.fn.self (g.Sink.TreeSink.forest l.fn.sink));
  kept : IsStanding (g.Sink.TreeSink.forest l.sink) l.self.open_elems l.self.active_formatting;
  grown : node_count (g.Sink.TreeSink.forest l.fn.sink) ≤ node_count (g.Sink.TreeSink.forest l.sink);
}

abbrev pub decreases-loop-left : goal.decreases-loop-left
decreases-loop-left g l = l.left
