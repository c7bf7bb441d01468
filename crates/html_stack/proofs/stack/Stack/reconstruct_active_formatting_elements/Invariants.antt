use Rattle.html_rules_laws.specs.Soundness.{IsStanding}
use Rattle.html_stack.proofs.Reopened.{Reopens}
use Rattle.html_stack.proofs.stack.Stack.reconstruct_active_formatting_elements.Given as goal

abbrev pub invariant-loop-place : goal.invariant-loop-place
invariant-loop-place g l = record {
  kept : IsStanding (g.Sink.TreeSink.forest l.sink) l.self.open_elems l.self.active_formatting;
  again : Reopens l.foster l.fn.self (g.Sink.TreeSink.forest l.fn.sink) l.self (g.Sink.TreeSink.forest l.sink) l.place;
}
