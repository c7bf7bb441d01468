-- Where the nodes of a tree begin and end, in tree order (DOM Standard, section 1.1). What stands in the contents of a template stands
-- below those, not below the template (HTML Standard, section 4.12.3).
use Rattle.std.specs.Prelude.{ℕ, zero, suc, ◌==◌, Bool, true, false, List, [], ◌∷◌, ◌++◌, Option, Some, None}
use Rattle.markup.specs.Forest.{Forest, children_of, node_count, parent_of}
use Rattle.html_forest.specs.Walk.{behind}
use Rattle.html_walks.specs.declared.steps.Spot.{Spot}
use Rattle.html_walks.specs.declared.steps.Step.{Step}
use Rattle.html_walks.specs.declared.steps.Step.TheVariants.{Enter, Leave}

-- nodes of a list, each with the steps of its children between its own
abbrev pub steps_each : (List ℕ → List Step) → Forest → List ℕ → List Step
steps_each inner f [] = []
steps_each inner f (n ∷ ns) = Enter n ∷ (inner (children_of f n) ++ Leave n ∷ steps_each inner f ns)

-- so many levels of them
unfoldable pub steps_within : ℕ → Forest → List ℕ → List Step
steps_within zero f ns = []
steps_within (suc levels) f ns = steps_each (steps_within levels f) f ns

-- no node has as many above it as there are nodes, so this has all levels
abbrev pub steps_of : Forest → List ℕ → List Step
steps_of f ns = steps_within (node_count f) f ns

-- the steps of a node and of what stands below it
abbrev pub steps_through : Forest → ℕ → List Step
steps_through f n = Enter n ∷ (steps_of f (children_of f n) ++ Leave n ∷ [])

-- A WALK ON ITS WAY

abbrev pub parent_or : ℕ → Option ℕ → ℕ
parent_or n None = n
parent_or n (Some p) = p

abbrev pub up : Forest → ℕ → ℕ
up f n = parent_or n (parent_of f n)

-- the steps after a node that stands so far below the one that is walked
unfoldable pub steps_after : ℕ → Forest → ℕ → List Step
steps_after zero f n = []
steps_after (suc depth) f n = steps_of f (behind f n) ++ Leave (up f n) ∷ steps_after depth f (up f n)

-- the steps from the next one on
abbrev pub steps_left : Forest → ℕ → Option Step → List Step
steps_left f depth None = []
steps_left f depth (Some (Enter n)) = Enter n ∷ (steps_of f (children_of f n) ++ Leave n ∷ steps_after depth f n)
steps_left f depth (Some (Leave n)) = Leave n ∷ steps_after depth f n

abbrev pub spot_left : Forest → Spot → List Step
spot_left f spot = steps_left f spot.depth spot.next

abbrev pub of_parent : (ℕ → Bool) → Option ℕ → Bool
of_parent test None = false
of_parent test (Some p) = test p

-- whether a node stands so far below another one
unfoldable pub is_deep : Forest → ℕ → ℕ → ℕ → Bool
is_deep f top zero n = n == top
is_deep f top (suc depth) n = of_parent (is_deep f top depth) (parent_of f n)

-- whether the next step is of a node that stands so far below the one that is walked
abbrev pub is_next : Forest → ℕ → ℕ → Option Step → Bool
is_next f top depth None = true
is_next f top depth (Some (Enter n)) = is_deep f top depth n
is_next f top depth (Some (Leave n)) = is_deep f top depth n

abbrev pub is_at : Forest → ℕ → Spot → Bool
is_at f top spot = is_next f top spot.depth spot.next
