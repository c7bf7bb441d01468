use Rattle.markup.proofs.Trees.{IsTree-create_element, IsTree-either}
use Rattle.markup.proofs.tree_laws.create_element_keeps_tree.Goals as goal

pub returns-clause-tree : goal.returns-clause-tree
returns-clause-tree g c =
    IsTree-either c.create_element.result _ _ _ c.create_element.ensures.ok c.create_element.ensures.err
    (IsTree-create_element _ _ _ c.args.flags c.requires.tree c.requires.flags)
    c.requires.tree
