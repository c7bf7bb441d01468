use Rattle.std.proofs.Common.{◌≡◌, ℕ, Bool, List, length}
use Rattle.markup.specs.Forest.{Forest}
use Rattle.markup.specs.TreeLaws.{with_errors}
use Rattle.html_rules.specs.Stack.{left_from}
use Rattle.html_rules.specs.State.{Open}
use Rattle.html_rules.specs.declared.rules.Rules.{Rules}
use Rattle.html_rules_laws.specs.Soundness.{AreOpened}
use Rattle.html_stack.specs.ForeignEnds.{ends_foreign_by}
use Rattle.html_stack.proofs.stack.Stack.pop_foreign.Given as goal

abbrev left_by : (Forest → ℕ → Bool) → Rules → Forest → List Open → List Open
left_by stands rules f xs = left_from (ends_foreign_by rules (stands (with_errors 0 f))) xs

abbrev pub invariant-loop-self : goal.invariant-loop-self
invariant-loop-self g l = record {
  left : left_by g.Sink.TreeSink.integration_point l.fn.self.rules (g.Sink.TreeSink.forest l.fn.sink) l.self.open_elems
      ≡ left_by g.Sink.TreeSink.integration_point l.fn.self.rules (g.Sink.TreeSink.forest l.fn.sink) l.fn.self.open_elems;
  listed : l.self.active_formatting ≡ l.fn.self.active_formatting;
  modes : l.self.template_modes ≡ l.fn.self.template_modes;
  rules : l.self.rules ≡ l.fn.self.rules;
  same : g.Sink.TreeSink.forest l.sink ≡ g.Sink.TreeSink.forest l.fn.sink;
  opened : AreOpened (g.Sink.TreeSink.forest l.sink) l.self.open_elems;
}

abbrev pub decreases-loop-self : goal.decreases-loop-self
decreases-loop-self g l = length l.self.open_elems
