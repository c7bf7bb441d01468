use Rattle.std.proofs.Common.{◌≡◌, length}
use Rattle.html_rules_laws.specs.Soundness.{AreOpened}
use Rattle.html_stack.proofs.stack.Stack.pop_all.Given as goal

abbrev pub invariant-loop-self : goal.invariant-loop-self
invariant-loop-self g l = record {
  listed : l.self.active_formatting ≡ l.fn.self.active_formatting;
  modes : l.self.template_modes ≡ l.fn.self.template_modes;
  rules : l.self.rules ≡ l.fn.self.rules;
  same : g.Sink.TreeSink.forest l.sink ≡ g.Sink.TreeSink.forest l.fn.sink;
  opened : AreOpened (g.Sink.TreeSink.forest l.sink) l.self.open_elems;
}

abbrev pub decreases-loop-self : goal.decreases-loop-self
decreases-loop-self g l = length l.self.open_elems
