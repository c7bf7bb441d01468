-- The walk of a node: what is still to be called, and what a turn of it does.
use Rattle.std.specs.Prelude.{◌≡◌, ◌==◌, ◌&&◌, ℕ, zero, suc, ◌+◌, ◌-◌, ◌<◌, Bool, true, cond, is_none, List, [], ◌∷◌, ◌++◌}
use Rattle.std.specs.Prelude.{Option, Some, None, IfSome, Result, Ok, Err}
use Rattle.markup.specs.Calls.{Call, Refuses, Step, Stops, calls_before, ended, first_calls, run}
use Rattle.markup.specs.Forest.{Forest, children_of, data_of, element_name, holds_children, is_among, is_contents, parent_of}
use Rattle.markup.specs.Trees.{Trees, inner_of, trees_of, weight}
use Rattle.markup.specs.declared.names.QualName.{QualName}
use Rattle.markup.specs.declared.serializer.SerializeFault.{SerializeFault}
use Rattle.markup.specs.declared.serializer.TraversalScope.{TraversalScope}
use Rattle.markup.specs.declared.serializer.TraversalScope.TheVariants.{IncludeNode, ChildrenOnly}
use Rattle.html_forest.specs.declared.walk.Spot.{Spot}

-- the trees that are walked: the node's, or those in it
abbrev pub walked : Forest → ℕ → TraversalScope → Trees
walked f n IncludeNode = trees_of f (n ∷ [])
walked f n (ChildrenOnly name) = trees_of f (inner_of f n)

-- the node in which a node stands as they are walked: its parent, with a template in place of its contents
abbrev pub stands_under : Forest → ℕ → Option ℕ → ℕ
stands_under f n None = n
stands_under f n (Some parent) = cond (is_contents (data_of f parent)) (parent - 1) parent

-- the same, where a walk began at the root, for a node that lies one deeper than so deep below it
abbrev pub up_of : Forest → ℕ → ℕ → ℕ → ℕ
up_of f root depth n = cond (depth == 0) root (stands_under f n (parent_of f n))

-- what stands after the first n of a list
abbrev pub those_after : ℕ → List ℕ → List ℕ
those_after n [] = []
those_after n (m ∷ ms) = cond (n == m) ms (those_after n ms)

abbrev pub after_under : Forest → ℕ → Option ℕ → List ℕ
after_under f n None = []
after_under f n (Some parent) = those_after n (children_of f parent)

-- the nodes after a node, among the children of its parent
abbrev pub behind : Forest → ℕ → List ℕ
behind f n = after_under f n (parent_of f n)

-- a node, if there is one, and those after it
abbrev pub from : Forest → Option ℕ → List ℕ
from f None = []
from f (Some n) = n ∷ behind f n

-- what is called once what stands in a node was walked that lies so deep below the root
unfoldable pub calls_above : Forest → ℕ → ℕ → ℕ → List Call
calls_above f root zero n = []
calls_above f root (suc depth) n = ended (element_name (data_of f n))
    (calls_before (trees_of f (behind f n)) (calls_above f root depth (up_of f root depth n)))

-- two for each node that is then left, and one for each that ends
unfoldable pub size_above : Forest → ℕ → ℕ → ℕ → ℕ
size_above f root zero n = 0
size_above f root (suc depth) n = suc (weight f (behind f n) + size_above f root depth (up_of f root depth n))

-- a node lies so deep below the root
unfoldable pub IsBelow : Forest → ℕ → ℕ → ℕ → Type 0
IsBelow f root zero n = n ≡ root
IsBelow f root (suc depth) n = (is_among n (inner_of f (up_of f root depth n)) ≡ true) × IsBelow f root depth (up_of f root depth n)

-- a place to which a walk from the root may come
pub record IsSpot (f : Forest) (root : ℕ) (spot : Spot) : Type 0 where
  pub below : IsBelow f root spot.depth spot.parent
  pub within : IfSome spot.next (λ n. is_among n (inner_of f spot.parent) ≡ true)

abbrev pub is_end : Spot → Bool
is_end spot = (spot.depth == 0) && is_none spot.next

abbrev pub calls_left : Forest → ℕ → Spot → List Call
calls_left f root spot = calls_before (trees_of f (from f spot.next)) (calls_above f root spot.depth spot.parent)

abbrev pub size_left : Forest → ℕ → Spot → ℕ
size_left f root spot = weight f (from f spot.next) + size_above f root spot.depth spot.parent

-- a node was met, and if others may stand in it they come next; or its call was refused
abbrev pub Meets : {S : Type 0} → Step S → Refuses S → Forest → ℕ → S → Result Bool SerializeFault → S → Type 0
Meets step refuses f n old (Ok holds) new = (holds ≡ holds_children (data_of f n)) × (run step old (first_calls (data_of f n)) ≡ Ok new)
Meets step refuses f n old (Err fault) new = (call : Call) × ((first_calls (data_of f n) ≡ call ∷ []) × refuses old call fault new)

-- the end of an element of that name was called, if there is one; or it was refused
abbrev pub IsEnded : {S R : Type 0} → Step S → Refuses S → Option QualName → S → Result R SerializeFault → S → Type 0
IsEnded step refuses name old (Ok _) new = run step old (ended name []) ≡ Ok new
IsEnded step refuses name old (Err fault) new = (call : Call) × ((ended name [] ≡ call ∷ []) × refuses old call fault new)

-- some of the calls were made, and these are left
abbrev pub IsAhead : {S : Type 0} → Step S → S → List Call → List Call → S → Type 0
IsAhead step old calls left new = (made : List Call) × ((calls ≡ made ++ left) × (run step old made ≡ Ok new))

-- some of the calls were made, the others are left at another place, and less is left to walk; or a call was refused
abbrev pub Advances : {S : Type 0} → Step S → Refuses S → Forest → ℕ → S → Spot → Result Spot SerializeFault → S → Type 0
Advances step refuses f root old spot (Ok next) new = IsSpot f root next × IsAhead step old (calls_left f root spot)
    (calls_left f root next) new × (size_left f root next < size_left f root spot)
Advances step refuses f root old spot (Err fault) new = Stops step refuses old (calls_left f root spot) fault new
