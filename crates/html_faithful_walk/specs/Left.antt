-- What is left to walk of a forest.
use Rattle.std.specs.Prelude.{◌≡◌, ℕ, suc, ◌+◌, ◌<◌, ◌++◌, Bool, true, false, List, [], ◌∷◌, reverse, Option, Some, None}
use Rattle.markup.specs.Forest.{Forest, children_of}
use Rattle.markup.specs.NodeCounts.{nodes_in}
use Rattle.markup.specs.Trees.{Trees, Nothing, trees_before}
use Rattle.markup.specs.declared.attributes.Attribute.{Attribute}
use Rattle.markup.specs.declared.names.QualName.{QualName}
use Rattle.html_rules.specs.Choice.{choose}
use Rattle.html_faithful.specs.Harmless.{and_then}
use Rattle.html_faithful.specs.Spots.{Spot}
use Rattle.html_faithful_judge.specs.Spots.{spot_of}
use Rattle.html_faithful_walk.specs.Steps.{spot_if}
use Rattle.html_faithful_walk.specs.Walking.{Opens, after_stand, finish_by, walk_at}
use Rattle.html_faithful_walk.specs.declared.judge.Judge.{Judge}
use Rattle.html_faithful_walk.specs.declared.stand.After.{After}
use Rattle.html_faithful_walk.specs.declared.stand.Stand.{Stand}
use Rattle.html_faithful_walk.specs.declared.walker.Level.{Level}
use Rattle.html_faithful_walk.specs.declared.walker.Nodes.{Nodes}

-- where a walk is: where the next node stands, the nodes that come next, and the levels that wait
pub record Walk : Type 0 where
  pub stand : Stand
  pub spot : Spot
  pub nodes : List ℕ
  pub levels : List Level

abbrev pub walk_of : Judge → Nodes → Walk
walk_of judge nodes = record {
  stand = judge.stand;
  spot = spot_of judge.made.spot;
  nodes = nodes.rest;
  levels = nodes.waiting.items;
}

-- trees after others, where nothing else comes before them
abbrev pub trees_by : Forest → Option After → List ℕ → Trees → Trees
trees_by f None rest behind = trees_before f rest behind
trees_by f (Some after) rest behind = Nothing

-- the trees that come after those that are walked, up to where an element ends
abbrev pub trees_after : Forest → List Level → Trees
trees_after f [] = Nothing
trees_after f (level ∷ levels) = trees_by f level.behind level.rest (trees_after f levels)

-- from where an element ends, or goes on, to the end of the document
abbrev pub ended_by : Bool → Forest → Option After → List ℕ → Trees → (Spot → Option Spot) → Spot → Option Spot
ended_by scripting f None rest behind above p = above p
ended_by scripting f (Some after) rest behind above p =
    and_then (finish_by after.finishes p)
    (λ p. and_then (walk_at scripting (after_stand after.parent) (trees_before f rest behind) p) above)

abbrev pub levels_left : Bool → Forest → List Level → Spot → Option Spot
levels_left scripting f [] p = Some p
levels_left scripting f (level ∷ levels) p =
    ended_by scripting f level.behind level.rest (trees_after f levels) (λ p. levels_left scripting f levels p) p

-- where all that is left of a walk ends; the level that waits last comes first
abbrev pub left : Bool → Forest → Walk → Option Spot
left scripting f w = and_then (walk_at scripting w.stand (trees_before f w.nodes (trees_after f (reverse w.levels))) w.spot)
    (λ p. levels_left scripting f (reverse w.levels) p)

-- what stands in a node, or in its contents, comes next, and the rest waits
abbrev pub descends : Forest → (n inner : ℕ) → Option After → List ℕ → List Level → List ℕ → List Level → Type 0
descends f n inner behind nodes levels new_nodes new_levels = (new_nodes ≡ children_of f inner)
    × (new_levels ≡ levels ++ record { node = n; behind = behind; rest = nodes } ∷ [])

-- the walk goes on in an element, or ends
abbrev pub IsElementTaken : Bool → Forest → (n inner : ℕ) → QualName → List Attribute → Bool → Walk → Walk → Bool → Type 0
IsElementTaken scripting f n inner name attributes template old new false =
    Opens scripting name attributes template old.stand old.spot new.stand new.spot None
IsElementTaken scripting f n inner name attributes template old new true = (after : After)
    × (Opens scripting name attributes template old.stand old.spot new.stand new.spot (Some after)
    × descends f n inner (Some after) old.nodes old.levels new.nodes new.levels)

-- where some nodes end, their element does, and those that waited after it come next; or these come next
abbrev pub IsAscent : Option After → Walk → Walk → Bool → Type 0
IsAscent None old new goes_on = (new.stand ≡ old.stand) × (new.spot ≡ old.spot) × (goes_on ≡ true)
IsAscent (Some after) old new goes_on = ((scripting : Bool)
    → and_then (walk_at scripting old.stand Nothing old.spot) (λ p. finish_by after.finishes p) ≡ spot_if goes_on new.spot)
    × (goes_on ≡ true → new.stand ≡ after_stand after.parent)

abbrev pub waiting_nodes : Forest → List Level → ℕ
waiting_nodes f [] = 0
waiting_nodes f (level ∷ levels) = suc (nodes_in f level.rest + nodes_in f level.rest) + waiting_nodes f levels

-- how much is left of a walk: two for each node, one for each level
abbrev pub nodes_left : Forest → Walk → ℕ
nodes_left f w = (nodes_in f w.nodes + nodes_in f w.nodes) + waiting_nodes f w.levels

abbrev pub with_node : ℕ → Walk → Walk
with_node n w = record w { nodes = n ∷ w.nodes }

-- a node is taken: what was left with it ends where what is left ends, if it stands there; and less is left
pub record IsTaken (scripting : Bool) (f : Forest) (n : ℕ) (old new : Walk) (goes_on : Bool) : Type 0 where
  pub ends : left scripting f (with_node n old) ≡ choose goes_on (λ _. left scripting f new) (λ _. None)
  pub less : goes_on ≡ true → nodes_left f new < nodes_left f (with_node n old)
