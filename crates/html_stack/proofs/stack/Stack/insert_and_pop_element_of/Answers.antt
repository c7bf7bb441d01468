use Rattle.std.proofs.Common.{◌∙◌, ap, sym}
use Rattle.html_rules.specs.Places.{place_for}
use Rattle.html_rules.specs.State.{current_node}
use Rattle.html_stack.specs.Inserting.{element_for, with_made}
use Rattle.html_stack.specs.Stacks.{joined}
use Rattle.html_stack.proofs.Points.{put-step, put-tag}
use Rattle.html_stack.proofs.Results.{ok-on}
use Rattle.html_stack.proofs.stack.Stack.insert_and_pop_element_of.Goals as goal

pub returns-clause-ok : goal.returns-clause-ok
returns-clause-ok g c =
    let f = g.Sink.TreeSink.forest c.args.sink.now in
    let xs = c.args.self.now.open_elems in
    let element = element_for c.args.class.now c.args.tag.now in
    let made = with_made f element in
    ok-on c.put_tag.result (λ made_is s foster.
    put-step g.Sink.TreeSink.node s c.args.self.now f (g.Sink.TreeSink.forest c.put_tag.new.sink)
    c.current_place-point.result element
    (c.current_place-point.ensures.place made ∙ ap (λ b. place_for b made xs (current_node xs)) (sym foster))
    (rw c.current_place-point.ensures.same at made_is)
    ∙ put-tag c.args.class.now c.args.tag.now (joined s c.args.self.now f))
    c.put_tag.ensures.ok

pub returns-clause-kept : goal.returns-clause-kept
returns-clause-kept g c = c.put_tag.ensures.kept c.args.self.now.open_elems
    c.args.self.now.active_formatting (rw c.current_place-point.ensures.same c.requires.standing)
