use Rattle.html_rules_laws.proofs.TreePreserved.Standing.{changed-Standing}
use Rattle.html_stack.specs.Inserting.{with_made}
use Rattle.html_stack.proofs.Results.{on-err}
use Rattle.html_stack.proofs.Wrapped.{fresh, may-adopt}
use Rattle.html_stack.proofs.formatting.copies.adopt_children.Goals as goal

pub reparent_children-requires-clause-from : goal.reparent_children-requires-clause-from
reparent_children-requires-clause-from g c =
    let may = may-adopt (g.Sink.TreeSink.forest c.args.sink.now) c.args.element
    (g.Sink.TreeSink.node c.args.block.now) c.requires.block c.requires.parent in
    rw c.in_ok-made.ensures.ok may.node

pub reparent_children-requires-clause-to : goal.reparent_children-requires-clause-to
reparent_children-requires-clause-to g c =
    let may = may-adopt (g.Sink.TreeSink.forest c.args.sink.now) c.args.element
    (g.Sink.TreeSink.node c.args.block.now) c.requires.block c.requires.parent in
    rw (c.in_ok-made.ensures.ok, c.in_ok-made.ensures.named) may.parent

pub reparent_children-requires-clause-apart : goal.reparent_children-requires-clause-apart
reparent_children-requires-clause-apart g c =
    let may = may-adopt (g.Sink.TreeSink.forest c.args.sink.now) c.args.element
    (g.Sink.TreeSink.node c.args.block.now) c.requires.block c.requires.parent in
    rw (c.in_ok-made.ensures.ok, c.in_ok-made.ensures.named) may.apart

pub returns-in_err-reparent_children-clause-kept : goal.returns-in_err-reparent_children-clause-kept
returns-in_err-reparent_children-clause-kept g c =
    let f = g.Sink.TreeSink.forest c.args.sink.now in
    let made = fresh f c.args.element (g.Sink.TreeSink.node c.args.block.now) c.requires.block.tree c.requires.block.there in
    on-err c.from_residual-in_err-reparent_children.result
    (rw (c.in_err-reparent_children.ensures.err, c.in_ok-made.ensures.ok)
    (λ xs entries h. changed-Standing f (with_made f c.args.element) xs entries made.stays h))

pub append-requires-clause-parent : goal.append-requires-clause-parent
append-requires-clause-parent g c =
    let may = may-adopt (g.Sink.TreeSink.forest c.args.sink.now) c.args.element
    (g.Sink.TreeSink.node c.args.block.now) c.requires.block c.requires.parent in
    rw (c.in_ok-reparent_children.ensures.ok, c.in_ok-made.ensures.ok, c.in_ok-made.ensures.named) may.block

pub append-requires-clause-child : goal.append-requires-clause-child
append-requires-clause-child g c =
    let may = may-adopt (g.Sink.TreeSink.forest c.args.sink.now) c.args.element
    (g.Sink.TreeSink.node c.args.block.now) c.requires.block c.requires.parent in
    rw (c.in_ok-reparent_children.ensures.ok, c.in_ok-made.ensures.ok, c.in_ok-made.ensures.named) may.loose

pub returns-in_err-append-clause-kept : goal.returns-in_err-append-clause-kept
returns-in_err-append-clause-kept g c =
    let may = may-adopt (g.Sink.TreeSink.forest c.args.sink.now) c.args.element
    (g.Sink.TreeSink.node c.args.block.now) c.requires.block c.requires.parent in
    on-err c.from_residual-in_err-append.result
    (rw (
      c.in_err-append.ensures.err,
      c.in_ok-reparent_children.ensures.ok,
      c.in_ok-made.ensures.ok,
      c.in_ok-made.ensures.named,
    ) may.leaves)
