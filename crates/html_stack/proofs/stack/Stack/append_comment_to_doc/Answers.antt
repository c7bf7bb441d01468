use Rattle.html_stack.proofs.PutNodes.{comment_to_doc-step}
use Rattle.html_stack.proofs.Results.{ok-on}
use Rattle.html_stack.proofs.stack.Stack.append_comment_to_doc.Goals as goal

pub returns-clause-ok : goal.returns-clause-ok
returns-clause-ok g c =
    let f = g.Sink.TreeSink.forest c.args.sink.now in
    ok-on c.put_comment.result (λ put s.
    comment_to_doc-step g.Sink.TreeSink.node s c.args.self.now f (g.Sink.TreeSink.forest c.put_comment.new.sink)
    c.get_document-document.result c.args.text
    c.get_document-document.ensures.document (rw c.get_document-document.ensures.same at put))
    c.put_comment.ensures.ok

pub returns-clause-kept : goal.returns-clause-kept
returns-clause-kept g c = c.put_comment.ensures.kept c.args.self.now.open_elems c.args.self.now.active_formatting
    (rw c.get_document-document.ensures.same c.requires)
