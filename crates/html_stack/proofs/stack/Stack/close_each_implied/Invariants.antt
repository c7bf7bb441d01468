use Rattle.std.proofs.Common.{◌≡◌, length}
use Rattle.html_rules.specs.Stack.{left_by_implied}
use Rattle.html_rules_laws.specs.Soundness.{AreOpened}
use Rattle.html_stack.specs.Wanted.{passes}
use Rattle.html_stack.proofs.stack.Stack.close_each_implied.Given as goal

abbrev pub invariant-loop-implied : goal.invariant-loop-implied
invariant-loop-implied g l = record {
  left : left_by_implied l.implied (passes l.except) l.self.open_elems ≡ left_by_implied l.implied (passes l.except) l.fn.self.open_elems;
  listed : l.self.active_formatting ≡ l.fn.self.active_formatting;
  modes : l.self.template_modes ≡ l.fn.self.template_modes;
  rules : l.self.rules ≡ l.fn.self.rules;
  same : g.Sink.TreeSink.forest l.sink ≡ g.Sink.TreeSink.forest l.fn.sink;
  opened : AreOpened (g.Sink.TreeSink.forest l.sink) l.self.open_elems;
}

abbrev pub decreases-loop-implied : goal.decreases-loop-implied
decreases-loop-implied g l = length l.self.open_elems
