use Rattle.markup.specs.Forest.{parent_of, place_near}
use Rattle.markup.proofs.Trees.{IsPlace-near, IsTree-either, IsTree-put_child}
use Rattle.markup.proofs.tree_laws.append_based_on_parent_node_keeps_tree.Goals as goal

pub returns-clause-tree : goal.returns-clause-tree
returns-clause-tree g c =
    let f = g.S.TreeSink.forest c.args.sink.now in
    let element = g.S.TreeSink.node c.args.element.now in
    let previous = g.S.TreeSink.node c.args.previous.now in
    IsTree-either c.append_based_on_parent_node.result _ _ _ c.append_based_on_parent_node.ensures.ok
    c.append_based_on_parent_node.ensures.err
    (IsTree-put_child g.S.TreeSink.node f (place_near element previous (parent_of f element)) _ c.requires.tree
    (IsPlace-near f element previous c.requires.previous) c.requires.child)
    c.requires.tree
