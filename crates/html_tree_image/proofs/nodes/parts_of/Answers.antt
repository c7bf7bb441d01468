use Rattle.std.proofs.Common.{◌∙◌, ap, sym}
use Rattle.std.proofs.Math.Dec.{ltb}
use Rattle.std.proofs.Math.Numerals.{add-one-le}
use Rattle.std.proofs.lemmas.Bool.{ltb-true}
use Rattle.markup.specs.Forest.{node_count}
use Rattle.html_tree_image.proofs.Parts.{attributes-grown, nodes-grown, texts-grown}
use Rattle.html_tree_image.proofs.nodes.parts_of.Goals as goal

pub nodes-preserved : goal.nodes-preserved
nodes-preserved c =
    let f = c.args.forest.now in
    let there = ltb-true c.nodes.number (node_count f)
    (ap (λ id. ltb id (node_count f)) (sym c.new-in-nodes.ensures) ∙ sym c.in-Some.ensures.there) in
    let nodes = c.nodes.invariant.1 in
    let attributes = c.nodes.invariant.2 in
    let texts = c.nodes.invariant.3 in
    let id = c.new-in-Some.ensures in (
      add-one-le there,
      nodes-grown f _ _ id _ texts _ _ _ nodes attributes c.in_ok-push_node.ensures.nodes,
      attributes-grown f _ _ id _ texts _ _ attributes c.in_ok-push_node.ensures.attributes,
      texts-grown f _ _ id _ texts _ c.in_ok-push_node.ensures.texts,
    )
