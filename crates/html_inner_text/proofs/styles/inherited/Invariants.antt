use Rattle.std.proofs.Common.{◌-◌, length}
use Rattle.markup.specs.Forest.{node_count}
use Rattle.html_nodes.specs.Below.{below}
use Rattle.html_inner_text.specs.Styles.{Inherits, Style, under}
use Rattle.html_inner_text.proofs.styles.inherited.Given as goal

abbrev pub invariant-loop-parent : goal.invariant-loop-parent
invariant-loop-parent l = (style : Style) → Inherits l.fn.forest l.at style → Inherits l.fn.forest l.fn.id (under l.between style)

abbrev pub decreases-loop-parent : goal.decreases-loop-parent
decreases-loop-parent l = node_count l.fn.forest - length (below l.fn.forest l.at)
