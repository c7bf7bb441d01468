use Rattle.html_forest.proofs.Kept.{IsKept-same_nodes}
use Rattle.html_forest.proofs.forest.ForestTreeSink.parse_error.Goals as goal

pub invariant_of-self : goal.invariant_of-self
invariant_of-self c = record { kept = IsKept-same_nodes _ _ _ _ _ c.self.invariant.kept; stored = c.self.invariant.stored }
