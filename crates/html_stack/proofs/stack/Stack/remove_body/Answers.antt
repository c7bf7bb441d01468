use Rattle.std.proofs.Common.{refl}
use Rattle.html_rules.specs.Stack.{pop_until_current, remove_body}
use Rattle.html_rules_laws.proofs.TreePreserved.StandingActions.{remove_body-Standing}
use Rattle.html_stack.proofs.KeptSteps.{kept-always}
use Rattle.html_stack.proofs.stack.Stack.remove_body.Goals as goal

pub returns-clause-step : goal.returns-clause-step
unfolding remove_body pop_until_current
returns-clause-step g c s = rw (c.pop_until_current.ensures, ← c.take_body_out.ensures.step s) refl

pub returns-clause-kept : goal.returns-clause-kept
returns-clause-kept g c =
    kept-always remove_body remove_body-Standing c.args.self.now c.pop_until_current.new.self
    (g.Sink.TreeSink.forest c.args.sink.now) (g.Sink.TreeSink.forest c.take_body_out.new.sink) (returns-clause-step g c) c.requires
