use Rattle.std.proofs.Common.{◌≡◌, ◌++◌, drop}
use Rattle.html_tree_image.specs.Image.{words}
use Rattle.html_tree_image.proofs.words.node_words.Given as goal

abbrev pub invariant-loop-node : goal.invariant-loop-node
invariant-loop-node l = l.bytes.items ++ words (drop l.node-index l.nodes) ≡ words l.nodes
