-- What is left to read of a forest, where one node after the other is walked, and which node would be the first that is not.
use Rattle.std.specs.Prelude.{◌≡◌, ℕ, Bool, true, false, List, [], ◌∷◌, reverse, Option, Some, None}
use Rattle.markup.specs.Forest.{Forest, children_of}
use Rattle.markup.specs.declared.attributes.Attribute.{Attribute}
use Rattle.markup.specs.declared.names.QualName.{QualName}
use Rattle.html_rules.specs.Choice.{choose}
use Rattle.html_faithful.specs.Harmless.{Made, and_then}
use Rattle.html_faithful.specs.Spots.{Spot}
use Rattle.html_faithful.specs.Walk.{Parent}
use Rattle.html_faithful_walk.specs.First.{Any, Beginning, Comes, First, NoMore, Outcome, Point, Raw, Reads, Through, at_start, behind}
use Rattle.html_faithful_walk.specs.First.{entered, entered_by, left}
use Rattle.html_faithful_walk.specs.First.{may_end}
use Rattle.html_faithful_walk.specs.Left.{Walk, descends}
use Rattle.html_faithful_walk.specs.Steps.{parent_of}
use Rattle.html_faithful_walk.specs.Walking.{finish_by}
use Rattle.html_faithful_walk.specs.declared.stand.After.{After}
use Rattle.html_faithful_walk.specs.declared.stand.Inside.{Inside}
use Rattle.html_faithful_walk.specs.declared.stand.Inside.TheVariants as inside
use Rattle.html_faithful_walk.specs.declared.stand.Stand.{Stand}
use Rattle.html_faithful_walk.specs.declared.walker.Level.{Level}

-- POINTS IN THE CODE

abbrev pub comes_of : Inside → Comes
comes_of inside.Start = Beginning
comes_of inside.Any = Any
comes_of (inside.Raw kind name) = Raw kind name.now.local
comes_of inside.Done = NoMore

abbrev pub point_of : Stand → Spot → Point
point_of stand p = record {
  parent = parent_of stand.parent;
  after_text = stand.after_text;
  drops = stand.drops;
  comes = comes_of stand.inside;
  spot = p;
}

abbrev pub point_if : Bool → Point → Option Point
point_if goes_on at = choose goes_on (λ _. Some at) (λ _. None)

-- behind the last child of an element
abbrev pub left_by : After → Point → Option Point
left_by after last = choose (may_end last.comes)
    (λ _. and_then (finish_by after.finishes last.spot) (λ p. Some (behind (parent_of after.parent) p))) (λ _. None)

-- the start tag of an element is read or not, and what comes after its last child is its end
abbrev pub IsEntered : Bool → QualName → List Attribute → Bool → Point → Point → Option After → Type 0
IsEntered scripting name attributes template old new None = entered scripting name attributes template old ≡ None
IsEntered scripting name attributes template old new (Some after) = (entered scripting name attributes template old ≡ Some new)
    × ((last : Point) → left_by after last ≡ left name old.parent last)

abbrev pub IsEnteredBy : Bool → QualName → Made → Parent → Point → Option After → Type 0
IsEnteredBy scripting name made parent new None = entered_by scripting name made parent ≡ None
IsEnteredBy scripting name made parent new (Some after) = (entered_by scripting name made parent ≡ Some new)
    × ((last : Point) → left_by after last ≡ left name parent last)

-- WHAT IS LEFT

abbrev pub ByEnd : Option Point → ℕ → Outcome → (Point → Outcome → Type 0) → Type 0
ByEnd None n o up = o ≡ First n
ByEnd (Some next) n o up = up next o

-- from what came of the nodes in a node to what comes of all
abbrev pub Went : Option After → ℕ → Outcome → Outcome → (Point → Outcome → Type 0) → Type 0
Went behind n (First m) o up = o ≡ First m
Went None n (Through last) o up = up last o
Went (Some after) n (Through last) o up = ByEnd (left_by after last) n o up

-- what comes of all that is left; the level that waits last comes first
abbrev pub LeftOf : Bool → Forest → List Level → List ℕ → Point → Outcome → Type 0
LeftOf scripting f [] ns at o = Reads scripting f ns at o
LeftOf scripting f (level ∷ levels) ns at o = (x : Outcome) × (Reads scripting f ns at x
    × Went level.behind level.node x o (λ at o. LeftOf scripting f levels level.rest at o))

abbrev pub LeftAt : Bool → Forest → Walk → Outcome → Type 0
LeftAt scripting f w o = LeftOf scripting f (reverse w.levels) w.nodes (point_of w.stand w.spot) o

-- a node is taken: what comes of what is left then comes of what was left with it, or it is the first that is not read
abbrev pub IsPast : Bool → Forest → ℕ → Walk → Walk → Bool → Type 0
IsPast scripting f n old new true = (o : Outcome) → LeftAt scripting f new o → LeftAt scripting f (record old { nodes = n ∷ old.nodes }) o
IsPast scripting f n old new false = LeftAt scripting f (record old { nodes = n ∷ old.nodes }) (First n)

-- the start tag of an element is taken, and what stands in it comes next
abbrev pub IsTagTaken : Bool → Forest → (n inner : ℕ) → QualName → List Attribute → Bool → Walk → Walk → Bool → Type 0
IsTagTaken scripting f n inner name attributes template old new false =
    entered scripting name attributes template (point_of old.stand old.spot) ≡ None
IsTagTaken scripting f n inner name attributes template old new true = (after : After)
    × (IsEntered scripting name attributes template (point_of old.stand old.spot) (point_of new.stand new.spot) (Some after)
    × descends f n inner (Some after) old.nodes old.levels new.nodes new.levels)

-- where some nodes end
abbrev pub IsUpward : Option After → Point → Point → Bool → Type 0
IsUpward None old new goes_on = (new ≡ old) × (goes_on ≡ true)
IsUpward (Some after) old new goes_on = left_by after old ≡ point_if goes_on new

-- all that is left leads to what comes of the document
abbrev pub Leads : Bool → Forest → Walk → Type 0
Leads scripting f w = (o : Outcome) → LeftAt scripting f w o → Reads scripting f (children_of f 0) (at_start scripting) o
