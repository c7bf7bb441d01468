use Rattle.std.proofs.Common.{◌≡◌, ◌∷◌, ◌++◌}
use Rattle.html_nodes.specs.Below.{below}
use Rattle.html_nodes.specs.Looks.{texts_of}
use Rattle.html_nodes.proofs.text.text_content.Given as goal

abbrev pub invariant-loop-node : goal.invariant-loop-node
invariant-loop-node l = l.text ++ texts_of l.fn.forest l.node-iterator ≡ texts_of l.fn.forest (l.fn.id ∷ below l.fn.forest l.fn.id)
