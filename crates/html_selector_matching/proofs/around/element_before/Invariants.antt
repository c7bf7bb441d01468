use Rattle.std.proofs.Common.{◌≡◌, length}
use Rattle.html_selector_matching.specs.Around.{element_before, nodes_before}
use Rattle.html_selector_matching.proofs.around.element_before.Given as goal

abbrev pub invariant-loop-previous : goal.invariant-loop-previous
invariant-loop-previous l = element_before l.fn.forest l.fn.id ≡ element_before l.fn.forest l.at

abbrev pub decreases-loop-previous : goal.decreases-loop-previous
decreases-loop-previous l = length (nodes_before l.fn.forest l.at)
