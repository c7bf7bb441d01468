use Rattle.std.proofs.Common.{◌∙◌, ap, sym}
use Rattle.html_rules.specs.Places.{place_for}
use Rattle.html_rules.specs.State.{current_node}
use Rattle.html_stack.specs.Inserting.{element_for, with_made}
use Rattle.html_stack.specs.Stacks.{joined}
use Rattle.html_stack.proofs.Points.{inserted-tag, push-step}
use Rattle.html_stack.proofs.Results.{ok-both}
use Rattle.html_stack.proofs.stack.Stack.insert_element_of.Goals as goal

pub returns-clause-ok : goal.returns-clause-ok
returns-clause-ok g c =
    let f = g.Sink.TreeSink.forest c.args.sink.now in
    let xs = c.args.self.now.open_elems in
    let element = element_for c.args.class.now c.args.tag.now in
    let made = with_made f element in
    ok-both c.put_tag_and_open.result (λ opened made_is s foster.
    push-step g.Sink.TreeSink.node s c.args.self.now c.put_tag_and_open.new.self f
    (g.Sink.TreeSink.forest c.put_tag_and_open.new.sink) c.current_place-point.result element
    (c.current_place-point.ensures.place made ∙ ap (λ b. place_for b made xs (current_node xs)) (sym foster))
    (rw c.current_place-point.ensures.same at opened) (rw c.current_place-point.ensures.same at made_is)
    ∙ inserted-tag c.args.class.now c.args.tag.now (joined s c.args.self.now f))
    c.put_tag_and_open.ensures.opened c.put_tag_and_open.ensures.ok
