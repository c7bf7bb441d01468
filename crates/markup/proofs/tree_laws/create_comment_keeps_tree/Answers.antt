use Rattle.std.proofs.Common.{refl}
use Rattle.markup.proofs.Trees.{IsTree-either, IsTree-with_node}
use Rattle.markup.proofs.tree_laws.create_comment_keeps_tree.Goals as goal

pub returns-clause-tree : goal.returns-clause-tree
returns-clause-tree g c =
    IsTree-either c.create_comment.result _ _ _ c.create_comment.ensures.ok c.create_comment.ensures.err
    (IsTree-with_node _ _ c.requires (record { contents = refl; template = refl; name = refl }))
    c.requires
