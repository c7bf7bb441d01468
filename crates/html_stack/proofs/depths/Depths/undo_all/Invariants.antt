use Rattle.std.proofs.Common.{List, length}
use Rattle.html_names.specs.ElementNames.{Named}
use Rattle.html_stack.specs.Noted.{IsNoted}
use Rattle.html_stack.proofs.depths.Depths.undo_all.Given as goal

abbrev pub invariant-loop-self : goal.invariant-loop-self
invariant-loop-self l = (xs : List Named) → IsNoted xs l.fn.self → IsNoted xs l.self

abbrev pub decreases-loop-self : goal.decreases-loop-self
decreases-loop-self l = length l.self.notes.items
