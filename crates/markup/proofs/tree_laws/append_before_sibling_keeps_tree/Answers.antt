use Rattle.markup.specs.Forest.{parent_of, place_before}
use Rattle.markup.proofs.Trees.{IsPlace-before, IsTree-either, IsTree-put_child}
use Rattle.markup.proofs.tree_laws.append_before_sibling_keeps_tree.Goals as goal

pub returns-clause-tree : goal.returns-clause-tree
returns-clause-tree g c =
    let f = g.S.TreeSink.forest c.args.sink.now in
    let sibling = g.S.TreeSink.node c.args.sibling.now in
    IsTree-either c.append_before_sibling.result _ _ _ c.append_before_sibling.ensures.ok c.append_before_sibling.ensures.err
    (IsTree-put_child g.S.TreeSink.node f (place_before sibling (parent_of f sibling)) _ c.requires.tree
    (IsPlace-before f sibling c.requires.sibling) c.requires.child)
    c.requires.tree
