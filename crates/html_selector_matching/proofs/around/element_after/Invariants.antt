use Rattle.std.proofs.Common.{◌≡◌, length}
use Rattle.html_selector_matching.specs.Around.{element_after, nodes_after}
use Rattle.html_selector_matching.proofs.around.element_after.Given as goal

abbrev pub invariant-loop-next : goal.invariant-loop-next
invariant-loop-next l = element_after l.fn.forest l.fn.id ≡ element_after l.fn.forest l.at

abbrev pub decreases-loop-next : goal.decreases-loop-next
decreases-loop-next l = length (nodes_after l.fn.forest l.at)
