use Rattle.std.proofs.Common.{◌≡◌, ◌≤◌, ◌-◌}
use Rattle.markup.specs.Forest.{node_count}
use Rattle.html_tree_image.specs.Image.{attributes_upto, nodes_upto, texts_upto}
use Rattle.html_tree_image.proofs.nodes.parts_of.Given as goal

abbrev pub invariant-nodes : goal.invariant-nodes
invariant-nodes l = (l.number ≤ node_count l.forest) × (l.parts.nodes.items ≡ nodes_upto l.forest l.number)
    × (l.parts.attributes.items ≡ attributes_upto l.forest l.number) × (l.parts.texts.items ≡ texts_upto l.forest l.number)

abbrev pub decreases-nodes : goal.decreases-nodes
decreases-nodes l = node_count l.forest - l.number
