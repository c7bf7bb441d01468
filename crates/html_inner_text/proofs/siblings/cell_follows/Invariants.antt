use Rattle.std.proofs.Common.{◌≡◌, length}
use Rattle.std.specs.List.{list_any}
use Rattle.html_forest.specs.Walk.{behind}
use Rattle.html_inner_text.specs.Items.{is_cell}
use Rattle.html_inner_text.proofs.siblings.cell_follows.Given as goal

abbrev pub invariant-loop-next : goal.invariant-loop-next
invariant-loop-next l = list_any (is_cell l.fn.forest) (behind l.fn.forest l.at) ≡ list_any (is_cell l.fn.forest) (behind l.fn.forest l.fn.id)

abbrev pub decreases-loop-next : goal.decreases-loop-next
decreases-loop-next l = length (behind l.fn.forest l.at)
