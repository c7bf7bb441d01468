use Rattle.std.proofs.Common.{◌≡◌}
use Rattle.markup.specs.Trees.{inner_of}
use Rattle.html_inner_text.specs.Items.{items}
use Rattle.html_inner_text.specs.InnerText.{empty, run}
use Rattle.html_inner_text.specs.Styles.{inside}
use Rattle.html_inner_text.specs.Walk.{finished, nodes_left}
use Rattle.html_inner_text.proofs.walk.rendered_text.Given as goal

abbrev pub invariant-loop-child : goal.invariant-loop-child
invariant-loop-child l =
    finished l.fn.forest l.walk ≡ run empty (items l.fn.forest (inside l.fn.forest l.fn.style l.fn.id) (inner_of l.fn.forest l.fn.id))

abbrev pub decreases-loop-child : goal.decreases-loop-child
decreases-loop-child l = nodes_left l.fn.forest l.walk
