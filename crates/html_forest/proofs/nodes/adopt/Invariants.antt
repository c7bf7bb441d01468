use Rattle.std.proofs.Common.{length}
use Rattle.html_forest.specs.Views.{walk_from}
use Rattle.html_forest.proofs.Adopting.{IsAdopting}
use Rattle.html_forest.proofs.nodes.adopt.Given as goal

abbrev pub invariant-loop-at : goal.invariant-loop-at
invariant-loop-at l = IsAdopting l.fn.nodes.items l.fn.first l.fn.parent l.nodes.items l.at

abbrev pub decreases-loop-at : goal.decreases-loop-at
decreases-loop-at l = length (walk_from l.fn.nodes.items l.at)
