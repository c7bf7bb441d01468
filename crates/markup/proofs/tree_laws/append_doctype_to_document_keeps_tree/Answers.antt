use Rattle.std.proofs.Common.{refl}
use Rattle.markup.proofs.Trees.{IsTree-either, IsTree-put_doctype}
use Rattle.markup.proofs.tree_laws.append_doctype_to_document_keeps_tree.Goals as goal

pub returns-clause-tree : goal.returns-clause-tree
returns-clause-tree g c =
    IsTree-either c.append_doctype_to_document.result _ _ _ c.append_doctype_to_document.ensures.ok c.append_doctype_to_document.ensures.err
    (IsTree-put_doctype _ _ c.requires (record { contents = refl; template = refl; name = refl }))
    c.requires
