use Rattle.std.proofs.Common.{◌∙◌, ap, refl, arith}
use Rattle.markup.specs.Forest.{node_count}
use Rattle.html_stack.proofs.Results.{on-err}
use Rattle.html_stack.proofs.Wrapped.{leaves-removed, may-wrap, removed-count}
use Rattle.html_stack.proofs.formatting.copies.wrap.Goals as goal

pub remove_from_parent-requires : goal.remove_from_parent-requires
remove_from_parent-requires g c =
    let may = may-wrap (g.Sink.TreeSink.forest c.args.sink.now) c.args.element (g.Sink.TreeSink.node c.args.last.now) c.requires.last in
    rw c.in_ok-made.ensures.ok may.node

pub append-requires-clause-parent : goal.append-requires-clause-parent
append-requires-clause-parent g c =
    let may = may-wrap (g.Sink.TreeSink.forest c.args.sink.now) c.args.element (g.Sink.TreeSink.node c.args.last.now) c.requires.last in
    rw (c.remove_from_parent.ensures, c.in_ok-made.ensures.ok, c.in_ok-made.ensures.named) may.parent

pub append-requires-clause-child : goal.append-requires-clause-child
append-requires-clause-child g c =
    let may = may-wrap (g.Sink.TreeSink.forest c.args.sink.now) c.args.element (g.Sink.TreeSink.node c.args.last.now) c.requires.last in
    rw (c.remove_from_parent.ensures, c.in_ok-made.ensures.ok, c.in_ok-made.ensures.named) may.loose

pub returns-in_err-append-clause-kept : goal.returns-in_err-append-clause-kept
returns-in_err-append-clause-kept g c =
    let leaves = leaves-removed (g.Sink.TreeSink.forest c.args.sink.now) c.args.element
    (g.Sink.TreeSink.node c.args.last.now) c.requires.last in
    on-err c.from_residual-in_err-append.result
    (rw (c.in_err-append.ensures.err, c.remove_from_parent.ensures, c.in_ok-made.ensures.ok) leaves)

pub returns-in_err-append-clause-grows : goal.returns-in_err-append-clause-grows
returns-in_err-append-clause-grows g c =
    let made = g.Sink.TreeSink.forest c.create.new.sink in
    let removed = ap node_count c.remove_from_parent.ensures ∙ removed-count made (g.Sink.TreeSink.node c.args.last.now) in
    omega (arith, c.in_ok-made.ensures.grows, c.in_err-append.ensures.grows, removed)

pub returns-clause-grows : goal.returns-clause-grows
returns-clause-grows g c =
    let made = g.Sink.TreeSink.forest c.create.new.sink in
    let removed = ap node_count c.remove_from_parent.ensures ∙ removed-count made (g.Sink.TreeSink.node c.args.last.now) in
    omega (arith, c.in_ok-made.ensures.grows, c.in_ok-append.ensures.grows, removed)

pub returns-clause-ok : goal.returns-clause-ok
returns-clause-ok g c = rw (
  c.in_ok-append.ensures.ok,
  c.remove_from_parent.ensures,
  c.in_ok-made.ensures.ok,
  c.in_ok-made.ensures.named,
) refl
