use Rattle.std.proofs.Common.{refl}
use Rattle.markup.specs.Forest.NodeData.{Doctype}
use Rattle.markup.proofs.Forests.{IsMade-with_node}
use Rattle.html_forest.proofs.forest.ForestTreeSink.append_doctype_to_document.Goals as goal

pub put-requires-clause-child : goal.put-requires-clause-child
put-requires-clause-child c =
    let is = c.get_document-document.ensures.is_forest in
    let made = IsMade-with_node _ (Doctype c.args.name c.args.public_id c.args.system_id) is refl in
    rw (c.in_ok-made.ensures.ok, c.in_ok-made.ensures.named, c.get_document-document.ensures.document) (made.loose _ is.document)
