use Rattle.html_stack.specs.Inserting.{element_for}
use Rattle.html_stack.proofs.Points.{html-back, opens-Standing}
use Rattle.html_stack.proofs.stack.Stack.put_tag_and_open.Goals as goal

pub with_class-requires : goal.with_class-requires
with_class-requires g c = rw (c.from_known-html.ensures, html-back) c.requires.class

pub returns-in_err-handle-clause-kept : goal.returns-in_err-handle-clause-kept
returns-in_err-handle-clause-kept g c = c.put_tag.ensures.kept c.args.self.now.open_elems
    c.args.self.now.active_formatting c.requires.standing

pub returns-in_err-push-clause-kept : goal.returns-in_err-push-clause-kept
returns-in_err-push-clause-kept g c = rw c.in_err-push.ensures.err
    (c.put_tag.ensures.kept c.args.self.now.open_elems c.args.self.now.active_formatting c.requires.standing)

pub returns-clause-kept : goal.returns-clause-kept
returns-clause-kept g c =
    rw (
      c.in_ok-push.ensures.ok,
      c.in_ok-handle.ensures.ok,
      c.in_ok-handle.ensures.named,
      c.in_ok-name.ensures.ok,
      c.rules.ensures,
      c.from_known-html.ensures,
    )
    (opens-Standing c.args.self.now.rules g.Sink.TreeSink.node c.args.point (g.Sink.TreeSink.forest c.args.sink.now)
    (element_for c.args.class.now c.args.tag.now) c.args.self.now.open_elems c.args.self.now.active_formatting
    c.requires.point c.requires.standing)
