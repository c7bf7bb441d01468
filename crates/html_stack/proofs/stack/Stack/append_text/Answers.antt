use Rattle.std.proofs.Common.{◌∙◌, ap, sym}
use Rattle.markup.specs.Forest.{put_text}
use Rattle.html_rules.specs.Places.{place_for}
use Rattle.html_rules.specs.State.{current_node}
use Rattle.html_rules_laws.specs.Soundness.{IsStanding}
use Rattle.html_stack.specs.Inserting.{place_at}
use Rattle.html_stack.proofs.PutNodes.{leaves-text, text-step}
use Rattle.html_stack.proofs.Results.{either-on, ok-on}
use Rattle.html_stack.proofs.stack.Stack.append_text.Goals as goal

pub returns-clause-ok : goal.returns-clause-ok
returns-clause-ok g c =
    let f = g.Sink.TreeSink.forest c.args.sink.now in
    let xs = c.args.self.now.open_elems in
    ok-on c.insert_at.result (λ made s foster.
    text-step g.Sink.TreeSink.node s c.args.self.now f (g.Sink.TreeSink.forest c.insert_at.new.sink)
    c.current_place-point.result c.args.text
    (c.current_place-point.ensures.place f ∙ ap (λ b. place_for b f xs (current_node xs)) (sym foster))
    (rw c.current_place-point.ensures.same at made))
    c.insert_at.ensures.ok

pub returns-clause-kept : goal.returns-clause-kept
returns-clause-kept g c =
    let f = g.Sink.TreeSink.forest c.args.sink.now in
    let now = g.Sink.TreeSink.forest c.current_place-point.new.sink in
    let xs = c.args.self.now.open_elems in
    let entries = c.args.self.now.active_formatting in
    let is = c.requires in
    either-on (λ k. IsStanding k xs entries) c.insert_at.result (g.Sink.TreeSink.forest c.insert_at.new.sink)
    (put_text now (place_at g.Sink.TreeSink.node now c.current_place-point.result) c.args.text) now
    c.insert_at.ensures.ok c.insert_at.ensures.err
    (rw c.current_place-point.ensures.same
    (leaves-text g.Sink.TreeSink.node c.current_place-point.result f c.args.text is.tree
    (c.current_place-point.ensures.is_point f is.tree is.opened) xs entries is))
    (rw c.current_place-point.ensures.same is)
