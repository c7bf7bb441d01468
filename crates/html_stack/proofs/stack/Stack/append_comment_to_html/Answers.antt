use Rattle.html_stack.proofs.PutNodes.{comment_to_html-step}
use Rattle.html_stack.proofs.Results.{ok-on}
use Rattle.html_stack.proofs.stack.Stack.append_comment_to_html.Goals as goal

pub put_comment-requires-clause-point : goal.put_comment-requires-clause-point
put_comment-requires-clause-point g c = rw c.root_or_document-root.ensures.same
    (c.root_or_document-root.ensures.is_parent (g.Sink.TreeSink.forest c.args.sink.now) c.requires.tree c.requires.opened)

pub returns-clause-ok : goal.returns-clause-ok
returns-clause-ok g c =
    let f = g.Sink.TreeSink.forest c.args.sink.now in
    ok-on c.put_comment.result (λ put s.
    comment_to_html-step g.Sink.TreeSink.node s c.args.self.now f (g.Sink.TreeSink.forest c.put_comment.new.sink)
    c.root_or_document-root.result c.args.text
    c.root_or_document-root.ensures.number (rw c.root_or_document-root.ensures.same at put))
    c.put_comment.ensures.ok

pub returns-clause-kept : goal.returns-clause-kept
returns-clause-kept g c = c.put_comment.ensures.kept c.args.self.now.open_elems c.args.self.now.active_formatting
    (rw c.root_or_document-root.ensures.same c.requires)
