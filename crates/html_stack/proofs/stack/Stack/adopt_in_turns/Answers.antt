use Rattle.std.proofs.Common.{◌∙◌}
use Rattle.html_stack.specs.Stacks.{joined}
use Rattle.html_stack.proofs.Agencies.{agency-popped, agency-turns}
use Rattle.html_stack.proofs.Results.{ok-on}
use Rattle.html_stack.proofs.stack.Stack.adopt_in_turns.Goals as goal

pub returns-then-is_current_unlisted-clause-ok : goal.returns-then-is_current_unlisted-clause-ok
returns-then-is_current_unlisted-clause-ok g c s on =
    agency-popped c.args.name.now s c.args.self.now c.pop.new.self (g.Sink.TreeSink.forest c.args.sink.now)
    (g.Sink.TreeSink.forest c.pop.new.sink) c.if-is_current_unlisted.ensures c.pop.ensures.rest c.pop.ensures.same

pub returns-clause-ok : goal.returns-clause-ok
returns-clause-ok g c =
    ok-on c.adoption_turns.result (λ turns s on. turns s on ∙ agency-turns c.args.name.now
    (joined s c.args.self.now (g.Sink.TreeSink.forest c.args.sink.now)) c.if-is_current_unlisted.ensures) c.adoption_turns.ensures.ok
