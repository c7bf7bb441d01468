-- Trees in the document and in the root, from a spot where they are faithful on.
use Rattle.std.specs.Prelude.{◌≡◌, ℕ, Bool, true, false, List, IfSome}
use Rattle.markup.specs.Forest.{Forest, IsParent, Place, Last}
use Rattle.markup.specs.Named.{IsTree}
use Rattle.markup.specs.Trees.{Trees}
use Rattle.html_rules.specs.Conditions.{is_nonempty}
use Rattle.html_rules.specs.Rules.{Settled}
use Rattle.html_rules.specs.Stack.{root_number}
use Rattle.html_rules.specs.State.{Open, State}
use Rattle.html_faithful.specs.Inside.{trees_taken}
use Rattle.html_faithful.specs.Keeping.{IsAt}
use Rattle.html_faithful.specs.Planting.{IsKeptTree, planted}
use Rattle.html_faithful.specs.Spots.{Spot}
use Rattle.html_faithful.specs.Texts.{place_in}
use Rattle.html_faithful.specs.Waiting.{IsBetween, Pause, is_untyped, is_waiting}
use Rattle.html_faithful.specs.Walk.{OfCurrent, OfDocument, OfRoot, Parent, walk}

-- where the nodes go that stand in the parent: last in the document, in the root, or in the current node
abbrev pub IsPlaceOf : Parent → Place → List Open → Type 0
IsPlaceOf OfDocument place xs = place ≡ Last 0
IsPlaceOf OfRoot place xs = (place ≡ Last (root_number xs)) × (is_nonempty xs ≡ true)
IsPlaceOf OfCurrent place xs = place ≡ place_in xs

-- in an element inside the root as much is open as before
abbrev pub IsOpenAs : Parent → List Open → List Open → Type 0
IsOpenAs OfCurrent xs ys = ys ≡ xs
IsOpenAs parent xs ys = Unit {0}

-- in the document no text waits
abbrev pub IsStill : Parent → Pause → Type 0
IsStill OfDocument pause = is_waiting pause ≡ false
IsStill parent pause = Unit {0}

-- All is settled; and once the white space that waits was put, the forest has grown so, and the state stands at the spot where the
-- walk ends.
pub record IsRooted (parent : Parent) (place : Place) (grow : Forest → Forest) (s : State) (left : Settled) (after : Spot) : Type 0 where
  pub is_done : left.is_settled ≡ true
  pub waits : Pause
  pub still : IsStill parent waits
  -- where there is a root no doctype is missed
  pub begun : is_untyped waits ≡ false
  pub rested : State
  pub between : IsBetween waits left.state rested
  pub now : IsAt rested after
  pub tree : rested.forest ≡ grow s.forest
  pub kept : IsKeptTree s.forest rested.forest
  pub is_place : IsPlaceOf parent place rested.open_elems
  pub is_open : IsOpenAs parent s.open_elems rested.open_elems

-- Trees that stand in the document, in the root or deeper are put just there.
abbrev pub AreTreesPlanted : Type 0
AreTreesPlanted = (scripting : Bool) (parent : Parent) (trees : Trees) (n : ℕ) (after_text drops : Bool) (before : Settled)
    (p : Spot) → IsAt before.state p
    → before.state.ignore_lf ≡ drops → before.is_settled ≡ true → IsTree before.state.forest → IsParent before.state.forest n
    → IsPlaceOf parent (Last n) before.state.open_elems
    → IfSome (walk scripting parent after_text drops trees p)
    (λ after. IsRooted parent (Last n) (planted (Last n) trees) before.state (trees_taken trees before) after)
