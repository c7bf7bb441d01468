use Rattle.markup.specs.Forest.{Last, put_new}
use Rattle.markup.specs.Forest.NodeData.{Doctype}
use Rattle.html_rules_laws.specs.Soundness.{IsStanding}
use Rattle.html_stack.proofs.PutNodes.{leaves-doctype}
use Rattle.html_stack.proofs.Results.{either-on}
use Rattle.html_stack.proofs.stack.Stack.append_doctype_to_document.Goals as goal

pub returns-clause-kept : goal.returns-clause-kept
returns-clause-kept g c =
    let f = g.Sink.TreeSink.forest c.args.sink.now in
    let xs = c.args.self.now.open_elems in
    let entries = c.args.self.now.active_formatting in
    either-on (λ k. IsStanding k xs entries) c.append_doctype_to_document.result
    (g.Sink.TreeSink.forest c.append_doctype_to_document.new.self)
    (put_new f (Last 0) (Doctype c.or_empty-name.result c.or_empty-public_id.result c.or_empty-system_id.result)) f
    c.append_doctype_to_document.ensures.ok c.append_doctype_to_document.ensures.err
    (leaves-doctype f c.or_empty-name.result c.or_empty-public_id.result c.or_empty-system_id.result c.requires.tree xs entries c.requires)
    c.requires
