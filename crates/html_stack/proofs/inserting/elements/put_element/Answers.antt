use Rattle.html_stack.proofs.Points.{leaves-made, leaves-stays, owner-stays, put-at}
use Rattle.html_stack.specs.Inserting.{with_made}
use Rattle.html_stack.proofs.inserting.elements.put_element.Goals as goal

pub insert_at-requires-clause-point : goal.insert_at-requires-clause-point
insert_at-requires-clause-point g c =
    rw (c.report_owner.ensures, c.report_started.ensures, c.in_ok-made.ensures.ok)
    (put-at g.Sink.TreeSink.node c.args.point (g.Sink.TreeSink.forest c.args.sink.now) c.args.element
    c.requires.tree c.requires.point).place

pub insert_at-requires-clause-child : goal.insert_at-requires-clause-child
insert_at-requires-clause-child g c =
    rw (c.report_owner.ensures, c.report_started.ensures, c.in_ok-made.ensures.ok, c.in_ok-made.ensures.named)
    (put-at g.Sink.TreeSink.node c.args.point (g.Sink.TreeSink.forest c.args.sink.now) c.args.element
    c.requires.tree c.requires.point).loose

pub returns-in_err-insert_at-clause-kept : goal.returns-in_err-insert_at-clause-kept
returns-in_err-insert_at-clause-kept g c xs entries is =
    let f = g.Sink.TreeSink.forest c.args.sink.now in
    rw (c.in_err-insert_at.ensures.err, c.report_owner.ensures, c.report_started.ensures, c.in_ok-made.ensures.ok)
    (leaves-stays f (with_made f c.args.element)
    (put-at g.Sink.TreeSink.node c.args.point f c.args.element c.requires.tree c.requires.point).stays xs entries is)

pub returns-clause-kept : goal.returns-clause-kept
returns-clause-kept g c xs entries is =
    rw (c.in_ok-insert_at.ensures.ok, c.report_owner.ensures, c.report_started.ensures, c.in_ok-made.ensures.ok, c.in_ok-made.ensures.named)
    (leaves-made g.Sink.TreeSink.node c.args.point (g.Sink.TreeSink.forest c.args.sink.now) c.args.element
    c.requires.tree c.requires.point xs entries is)

pub report_started-requires : goal.report_started-requires
report_started-requires g c =
    rw (c.in_ok-made.ensures.ok, c.in_ok-made.ensures.named)
    (put-at g.Sink.TreeSink.node c.args.point (g.Sink.TreeSink.forest c.args.sink.now) c.args.element
    c.requires.tree c.requires.point).there

pub report_owner-requires-clause-made : goal.report_owner-requires-clause-made
report_owner-requires-clause-made g c =
    rw (c.report_started.ensures, c.in_ok-made.ensures.ok, c.in_ok-made.ensures.named)
    (put-at g.Sink.TreeSink.node c.args.point (g.Sink.TreeSink.forest c.args.sink.now) c.args.element
    c.requires.tree c.requires.point).there

pub report_owner-requires-clause-owner : goal.report_owner-requires-clause-owner
report_owner-requires-clause-owner g c =
    owner-stays g.Sink.TreeSink.node (g.Sink.TreeSink.forest c.args.sink.now)
    (g.Sink.TreeSink.forest c.create.new.sink) (g.Sink.TreeSink.forest c.report_started.new.sink) c.args.owner
    c.report_started.ensures c.in_ok-made.ensures.grows c.requires.owner
