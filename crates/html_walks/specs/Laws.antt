-- Which nodes a walk enters.
use Rattle.std.specs.Prelude.{◌≡◌, ℕ, List, [], ◌∷◌}
use Rattle.markup.specs.Forest.{Forest}
use Rattle.html_nodes.specs.Below.{below}
use Rattle.html_walks.specs.Walk.{steps_through}
use Rattle.html_walks.specs.declared.steps.Step.{Step}
use Rattle.html_walks.specs.declared.steps.Step.TheVariants.{Enter, Leave}

-- the nodes that begin
abbrev pub entered : List Step → List ℕ
entered [] = []
entered (Enter n ∷ steps) = n ∷ entered steps
entered (Leave n ∷ steps) = entered steps

-- nodes begin in the order in which those below a node are listed
abbrev pub AreNodesEntered : Type 0
AreNodesEntered = (f : Forest) (n : ℕ) → entered (steps_through f n) ≡ n ∷ below f n
