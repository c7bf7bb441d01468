use Rattle.html_stack.proofs.Points.{leaves-new, open-step, opens-new}
use Rattle.html_stack.proofs.stack.Stack.open_element.Goals as goal

pub returns-in_err-push-clause-kept : goal.returns-in_err-push-clause-kept
returns-in_err-push-clause-kept g c =
    rw (c.in_err-push.ensures.err, c.in_ok-handle.ensures.ok)
    (leaves-new (g.Sink.TreeSink.forest c.args.sink.now) c.args.element c.requires.standing.tree
    c.args.self.now.open_elems c.args.self.now.active_formatting c.requires.standing)

pub returns-clause-ok : goal.returns-clause-ok
returns-clause-ok g c s =
    open-step s c.args.self.now c.push.new.self (g.Sink.TreeSink.forest c.args.sink.now)
    (g.Sink.TreeSink.forest c.create.new.sink) c.args.element
    (rw (c.in_ok-handle.ensures.named, c.in_ok-name.ensures.ok, c.rules.ensures) at c.in_ok-push.ensures.ok) c.in_ok-handle.ensures.ok

pub returns-clause-kept : goal.returns-clause-kept
returns-clause-kept g c =
    rw (c.in_ok-push.ensures.ok, c.in_ok-handle.ensures.ok, c.in_ok-handle.ensures.named, c.in_ok-name.ensures.ok, c.rules.ensures)
    (opens-new c.args.self.now.rules (g.Sink.TreeSink.forest c.args.sink.now) c.args.element c.args.self.now.open_elems
    c.args.self.now.active_formatting c.requires.standing)
