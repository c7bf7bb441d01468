use Rattle.std.proofs.Common.{◌∙◌, ap, sym}
use Rattle.markup.specs.Forest.{with_node}
use Rattle.markup.specs.Forest.NodeData.{Comment}
use Rattle.html_rules.specs.Places.{place_for}
use Rattle.html_rules.specs.State.{current_node}
use Rattle.html_stack.proofs.PutNodes.{comment-step}
use Rattle.html_stack.proofs.Results.{ok-on}
use Rattle.html_stack.proofs.stack.Stack.append_comment.Goals as goal

pub returns-clause-ok : goal.returns-clause-ok
returns-clause-ok g c =
    let f = g.Sink.TreeSink.forest c.args.sink.now in
    let xs = c.args.self.now.open_elems in
    let made = with_node f (Comment c.args.text) in
    ok-on c.put_comment.result (λ put s foster.
    comment-step g.Sink.TreeSink.node s c.args.self.now f (g.Sink.TreeSink.forest c.put_comment.new.sink)
    c.current_place-point.result c.args.text
    (c.current_place-point.ensures.place made ∙ ap (λ b. place_for b made xs (current_node xs)) (sym foster))
    (rw c.current_place-point.ensures.same at put))
    c.put_comment.ensures.ok

pub returns-clause-kept : goal.returns-clause-kept
returns-clause-kept g c = c.put_comment.ensures.kept c.args.self.now.open_elems c.args.self.now.active_formatting
    (rw c.current_place-point.ensures.same c.requires)
