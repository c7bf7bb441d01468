use Rattle.std.proofs.Common.{◌++◌, List, ℕ}
use Rattle.figpliers_program.specs.Checking.{AreAround}
use Rattle.figpliers_program.proofs.checking.elements_around.Given as goal

-- those around the node at which the loop is complete those so far
abbrev pub invariant-loop : goal.invariant-loop
invariant-loop l = (rest : List ℕ) → AreAround l.forest l.at rest → AreAround l.forest l.fn.id (l.around.items ++ rest)
