use Rattle.std.proofs.Common.{◌∙◌, ap, sym}
use Rattle.html_rules.specs.Places.{place_for}
use Rattle.html_rules.specs.State.{current_node}
use Rattle.html_stack.specs.Inserting.{with_made}
use Rattle.html_stack.proofs.Points.{push-step, put-step}
use Rattle.html_stack.proofs.Results.{ok-both, ok-on}
use Rattle.html_stack.proofs.stack.Stack.insert_element.Goals as goal

pub returns-in-Push-clause-ok : goal.returns-in-Push-clause-ok
returns-in-Push-clause-ok g c =
    let f = g.Sink.TreeSink.forest c.args.sink.now in
    let xs = c.args.self.now.open_elems in
    let made = with_made f c.args.element in
    ok-both c.put_and_open.result (λ opened made_is s foster.
    rw c.in-Push.is
    (push-step g.Sink.TreeSink.node s c.args.self.now c.put_and_open.new.self f
    (g.Sink.TreeSink.forest c.put_and_open.new.sink) c.current_place-point.result c.args.element
    (c.current_place-point.ensures.place made ∙ ap (λ b. place_for b made xs (current_node xs)) (sym foster))
    (rw c.current_place-point.ensures.same at opened) (rw c.current_place-point.ensures.same at made_is)))
    c.put_and_open.ensures.opened c.put_and_open.ensures.ok

pub returns-in-NoPush-clause-ok : goal.returns-in-NoPush-clause-ok
returns-in-NoPush-clause-ok g c =
    let f = g.Sink.TreeSink.forest c.args.sink.now in
    let xs = c.args.self.now.open_elems in
    let made = with_made f c.args.element in
    ok-on c.put_element.result (λ made_is s foster.
    rw c.in-NoPush.is
    (put-step g.Sink.TreeSink.node s c.args.self.now f (g.Sink.TreeSink.forest c.put_element.new.sink)
    c.current_place-point.result c.args.element
    (c.current_place-point.ensures.place made ∙ ap (λ b. place_for b made xs (current_node xs)) (sym foster))
    (rw c.current_place-point.ensures.same at made_is)))
    c.put_element.ensures.ok

pub returns-in-NoPush-clause-kept : goal.returns-in-NoPush-clause-kept
returns-in-NoPush-clause-kept g c = c.put_element.ensures.kept c.args.self.now.open_elems
    c.args.self.now.active_formatting (rw c.current_place-point.ensures.same c.requires.standing)
