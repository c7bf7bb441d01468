use Rattle.std.proofs.Common.{◌≡◌, refl}
use Rattle.html_rules.specs.Names.{Html}
use Rattle.html_stack.specs.Inserting.{element_for, with_made}
use Rattle.html_stack.proofs.Points.{leaves-made, leaves-stays, put-at, tag-made}
use Rattle.html_stack.proofs.inserting.elements.put_tag.Goals as goal

pub insert_at-requires-clause-point : goal.insert_at-requires-clause-point
insert_at-requires-clause-point g c =
    let f = g.Sink.TreeSink.forest c.args.sink.now in
    let element = element_for c.args.class.now c.args.tag.now in
    let made : g.Sink.TreeSink.forest c.create_html_element.new.self ≡ with_made f element =
    tag-made f (g.Sink.TreeSink.forest c.create_html_element.new.self) c.args.class.now c.args.tag.now
    c.flags_of-flags.result c.take.result c.take-2.result c.as_slice.result.now c.in_ok-made.ensures.ok c.take.ensures.taken
    c.take-2.ensures.taken (c.flags_of-flags.ensures Html c.args.tag.now.name c.requires.class) in
    rw (c.report_owner.ensures, made) (put-at g.Sink.TreeSink.node c.args.point f element c.requires.tree c.requires.point).place

pub insert_at-requires-clause-child : goal.insert_at-requires-clause-child
insert_at-requires-clause-child g c =
    let f = g.Sink.TreeSink.forest c.args.sink.now in
    let element = element_for c.args.class.now c.args.tag.now in
    let made : g.Sink.TreeSink.forest c.create_html_element.new.self ≡ with_made f element =
    tag-made f (g.Sink.TreeSink.forest c.create_html_element.new.self) c.args.class.now c.args.tag.now
    c.flags_of-flags.result c.take.result c.take-2.result c.as_slice.result.now c.in_ok-made.ensures.ok c.take.ensures.taken
    c.take-2.ensures.taken (c.flags_of-flags.ensures Html c.args.tag.now.name c.requires.class) in
    rw (c.report_owner.ensures, made, c.in_ok-made.ensures.named)
    (put-at g.Sink.TreeSink.node c.args.point f element c.requires.tree c.requires.point).loose

pub returns-in_err-insert_at-clause-kept : goal.returns-in_err-insert_at-clause-kept
returns-in_err-insert_at-clause-kept g c xs entries is =
    let f = g.Sink.TreeSink.forest c.args.sink.now in
    let element = element_for c.args.class.now c.args.tag.now in
    let made : g.Sink.TreeSink.forest c.create_html_element.new.self ≡ with_made f element =
    tag-made f (g.Sink.TreeSink.forest c.create_html_element.new.self) c.args.class.now c.args.tag.now
    c.flags_of-flags.result c.take.result c.take-2.result c.as_slice.result.now c.in_ok-made.ensures.ok c.take.ensures.taken
    c.take-2.ensures.taken (c.flags_of-flags.ensures Html c.args.tag.now.name c.requires.class) in
    rw (c.in_err-insert_at.ensures.err, c.report_owner.ensures, made)
    (leaves-stays f (with_made f element)
    (put-at g.Sink.TreeSink.node c.args.point f element c.requires.tree c.requires.point).stays xs entries is)

pub returns-clause-ok : goal.returns-clause-ok
returns-clause-ok g c =
    let f = g.Sink.TreeSink.forest c.args.sink.now in
    let element = element_for c.args.class.now c.args.tag.now in
    let made : g.Sink.TreeSink.forest c.create_html_element.new.self ≡ with_made f element =
    tag-made f (g.Sink.TreeSink.forest c.create_html_element.new.self) c.args.class.now c.args.tag.now
    c.flags_of-flags.result c.take.result c.take-2.result c.as_slice.result.now c.in_ok-made.ensures.ok c.take.ensures.taken
    c.take-2.ensures.taken (c.flags_of-flags.ensures Html c.args.tag.now.name c.requires.class) in
    rw (c.in_ok-insert_at.ensures.ok, c.report_owner.ensures, made, c.in_ok-made.ensures.named) refl

pub returns-clause-kept : goal.returns-clause-kept
returns-clause-kept g c xs entries is =
    let f = g.Sink.TreeSink.forest c.args.sink.now in
    let element = element_for c.args.class.now c.args.tag.now in
    let made : g.Sink.TreeSink.forest c.create_html_element.new.self ≡ with_made f element =
    tag-made f (g.Sink.TreeSink.forest c.create_html_element.new.self) c.args.class.now c.args.tag.now
    c.flags_of-flags.result c.take.result c.take-2.result c.as_slice.result.now c.in_ok-made.ensures.ok c.take.ensures.taken
    c.take-2.ensures.taken (c.flags_of-flags.ensures Html c.args.tag.now.name c.requires.class) in
    rw (c.in_ok-insert_at.ensures.ok, c.report_owner.ensures, made, c.in_ok-made.ensures.named)
    (leaves-made g.Sink.TreeSink.node c.args.point f element c.requires.tree c.requires.point xs entries is)
