use Rattle.markup.proofs.Trees.{IsTree-add_attributes, IsTree-either}
use Rattle.markup.proofs.tree_laws.add_attrs_if_missing_keeps_tree.Goals as goal

pub returns-clause-tree : goal.returns-clause-tree
returns-clause-tree g c =
    IsTree-either c.add_attrs_if_missing.result _ _ _ c.add_attrs_if_missing.ensures.ok c.add_attrs_if_missing.ensures.err
    (IsTree-add_attributes _ _ _ c.requires.tree c.requires.target)
    c.requires.tree
