use Rattle.html_tree_builder.specs.States.{state_of}
use Rattle.html_tree_builder.proofs.DoctypesTaken.{kept-doctype}
use Rattle.html_tree_builder.proofs.Fields.{left_of}
use Rattle.html_tree_builder.proofs.construction.Construction.append_doctype.Goals as goal

pub returns-clause-ok : goal.returns-clause-ok
returns-clause-ok g c = λ a.
    rw (← c.self.view_is)
    (let s = state_of a (left_of c.self.view_is) (g.Sink.TreeSink.forest c.args.sink.now) in
    kept-doctype c.self.inside.opts.drop_doctype c.args.doctype s _ c.if-self.false (c.in_ok-append_doctype_to_document.ensures.ok s))
