use Rattle.markup.proofs.Trees.{IsTree-either, IsTree-reparent_children}
use Rattle.markup.proofs.tree_laws.reparent_children_keeps_tree.Goals as goal

pub returns-clause-tree : goal.returns-clause-tree
returns-clause-tree g c =
    IsTree-either c.reparent_children.result _ _ _ c.reparent_children.ensures.ok c.reparent_children.ensures.err
    (IsTree-reparent_children _ _ _ c.requires.tree c.requires.from c.requires.to c.requires.apart)
    c.requires.tree
