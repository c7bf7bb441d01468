use Rattle.std.proofs.Common.{◌∙◌, true, false, ap}
use Rattle.html_rules.specs.Names.{Html}
use Rattle.html_rules.specs.Places.{insert_element_for}
use Rattle.html_stack.specs.Stacks.{joined}
use Rattle.html_stack.proofs.ShadowRoots.{attached-by, opened-for, opened-there, popped-step}
use Rattle.html_stack.proofs.States.{some_state}
use Rattle.html_stack.proofs.stack.Stack.attach_shadow_root.Goals as goal

pub attach_declarative_shadow-requires-clause-template : goal.attach_declarative_shadow-requires-clause-template
attach_declarative_shadow-requires-clause-template g c =
    let f = g.Sink.TreeSink.forest c.args.sink.now in
    let after = g.Sink.TreeSink.forest c.open_element.new.sink in
    rw c.in_ok-template.ensures.named
    (opened-there _ _ _ _ (some_state true) c.args.self.now c.open_element.new.self f after
    (c.in_ok-template.ensures.ok (some_state true)) c.in_ok-template.ensures.kept.opened)

pub returns-then-attach_declarative_shadow-clause-ok : goal.returns-then-attach_declarative_shadow-clause-ok
returns-then-attach_declarative_shadow-clause-ok g c s foster answers =
    let f = g.Sink.TreeSink.forest c.args.sink.now in
    let after = g.Sink.TreeSink.forest c.open_element.new.sink in
    let tag = c.args.tag in
    let made = rw c.in_ok-copied.ensures.ok at c.for_tag-element.ensures.of in
    let step = c.in_ok-template.ensures.ok s ∙ opened-for Html tag.name tag.attrs tag.had_duplicate_attributes
    c.for_tag-element.result (joined s c.args.self.now f) made in
    rw c.if-attach_declarative_shadow.ensures.same
    (attached-by true tag (g.Sink.TreeSink.node c.args.host) s c.args.self.now c.open_element.new.self f after step
    (rw (answers, ← c.in_ok-template.ensures.named, ← c.as_slice.ensures) c.if-attach_declarative_shadow.ensures.attached))

pub returns-clause-ok : goal.returns-clause-ok
returns-clause-ok g c s foster answers =
    let f = g.Sink.TreeSink.forest c.args.sink.now in
    let after = g.Sink.TreeSink.forest c.open_element.new.sink in
    let tag = c.args.tag in
    let made = rw c.in_ok-copied.ensures.ok at c.for_tag-element.ensures.of in
    let step = c.in_ok-template.ensures.ok s ∙ opened-for Html tag.name tag.attrs tag.had_duplicate_attributes
    c.for_tag-element.result (joined s c.args.self.now f) made in
    let attached = attached-by false tag (g.Sink.TreeSink.node c.args.host) s c.args.self.now
    c.open_element.new.self f after step
    (rw (answers, ← c.in_ok-template.ensures.named, ← c.as_slice.ensures) c.if-attach_declarative_shadow.ensures.attached) in
    let popped = popped-step s c.open_element.new.self c.pop.new.self after c.pop.ensures.rest in
    let inserted = rw (c.pop.ensures.same, c.if-attach_declarative_shadow.ensures.same) at
    (c.in_ok-insert_element_for.ensures.ok s foster) in
    inserted ∙ (ap (insert_element_for tag) popped ∙ attached)
