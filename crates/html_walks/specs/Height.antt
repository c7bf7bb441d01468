-- How many levels of nodes stand below a node: its height, the length of the longest way from it down to a node without children.
use Rattle.std.specs.Prelude.{ℕ, zero, suc, max, List, [], ◌∷◌}
use Rattle.markup.specs.Forest.{Forest, children_of, node_count}

-- the levels of a list of nodes, where those of the children of each are counted so
abbrev pub levels_each : (List ℕ → ℕ) → Forest → List ℕ → ℕ
levels_each inner f [] = 0
levels_each inner f (n ∷ ns) = max (suc (inner (children_of f n))) (levels_each inner f ns)

-- so many of them at most
unfoldable pub levels_within : ℕ → Forest → List ℕ → ℕ
levels_within zero f ns = 0
levels_within (suc levels) f ns = levels_each (levels_within levels f) f ns

-- no node has as many above it as there are nodes, so this counts all levels
abbrev pub height : Forest → ℕ → ℕ
height f n = levels_within (node_count f) f (children_of f n)
