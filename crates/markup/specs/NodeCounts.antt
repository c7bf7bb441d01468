-- How many nodes stand in nodes of a forest, which a walk over them takes one by one.
use Rattle.std.specs.Prelude.{ℕ, zero, suc, ◌+◌, List, [], ◌∷◌}
use Rattle.markup.specs.Forest.{Forest, node_count}
use Rattle.markup.specs.Trees.{inner_of}

abbrev pub count_each : (List ℕ → ℕ) → Forest → List ℕ → ℕ
count_each inner f [] = 0
count_each inner f (n ∷ ns) = suc (inner (inner_of f n) + count_each inner f ns)

-- so many levels of them
unfoldable pub count_within : ℕ → Forest → List ℕ → ℕ
count_within zero f ns = 0
count_within (suc levels) f ns = count_each (count_within levels f) f ns

-- the nodes, and those that stand in them
abbrev pub nodes_in : Forest → List ℕ → ℕ
nodes_in f ns = count_within (node_count f) f ns
