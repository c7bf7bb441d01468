use Rattle.markup.specs.Forest.Place.{Last}
use Rattle.markup.proofs.Trees.{IsTree-either, IsTree-put_child}
use Rattle.markup.proofs.tree_laws.append_keeps_tree.Goals as goal

pub returns-clause-tree : goal.returns-clause-tree
returns-clause-tree g c =
    IsTree-either c.append.result _ _ _ c.append.ensures.ok c.append.ensures.err
    (IsTree-put_child g.S.TreeSink.node _ (Last (g.S.TreeSink.node c.args.parent.now)) _ c.requires.tree c.requires.parent c.requires.child)
    c.requires.tree
