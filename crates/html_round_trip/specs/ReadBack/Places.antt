-- Where plain trees stand, as the rows of the rules ask for it.
use Rattle.std.specs.Prelude.{◌≡◌, ℕ, ◌<◌, Bool, true, false, List, [], ◌∷◌, None, is_some, codes, ◌⊎◌}
use Rattle.markup.specs.Forest.{Forest, IsParent, node_count}
use Rattle.markup.specs.Named.{IsTree}
use Rattle.html_plain.specs.declared.place.PlainPlace.{PlainPlace}
use Rattle.html_plain.specs.declared.place.PlainPlace.TheVariants.{InFlow, InLine, InList}
use Rattle.html_rules.specs.Formatting.{last_named}
use Rattle.html_rules.specs.Reset.{mode_of_open}
use Rattle.html_rules.specs.Shape.{has_root}
use Rattle.html_rules.specs.Stack.{in_scope, is_open, item_name, open_templates}
use Rattle.html_rules.specs.State.{Entry, Element, Marker, Open, State, current_is, is_in}
use Rattle.html_rules.specs.declared.tag_set.TagSet.TheVariants as set
use Rattle.html_round_trip.specs.ReadBack.States.{Home, OfBody, OfCell, mode_in}

-- FORESTS

-- a tree without errors, with a node in which others may stand
pub record IsGood (f : Forest) (n : ℕ) : Type 0 where
  pub tree : IsTree f
  pub parent : IsParent f n
  pub silent : f.errors ≡ 0

-- ENTRIES OF FORMATTING ELEMENTS

-- the same entries, but for some that left since the last marker
abbrev pub Drops : List Entry → List Entry → Type 0
Drops [] left = left ≡ []
Drops (Marker ∷ entries) left = left ≡ Marker ∷ entries
Drops (Element n tag ∷ entries) left = Drops entries left ⊎ ((rest : List Entry) × ((left ≡ Element n tag ∷ rest) × Drops entries rest))

-- no entries since the last marker
abbrev pub IsBare : List Entry → Type 0
IsBare [] = Unit {0}
IsBare (Marker ∷ entries) = Unit {0}
IsBare (Element n tag ∷ entries) = ⊥

-- all numbers are below m
abbrev pub AreBelow : ℕ → List Entry → Type 0
AreBelow m [] = Unit {0}
AreBelow m (Marker ∷ entries) = AreBelow m entries
AreBelow m (Element n tag ∷ entries) = (n < m) × AreBelow m entries

-- all since the last marker are open
abbrev pub AreOpen : List Open → List Entry → Type 0
AreOpen stack [] = Unit {0}
AreOpen stack (Marker ∷ entries) = Unit {0}
AreOpen stack (Element n tag ∷ entries) = (is_open n stack ≡ true) × AreOpen stack entries

-- no link is among those since the last marker
abbrev pub HasNoLink : List Entry → Type 0
HasNoLink entries = is_some (last_named (codes "a") entries) ≡ false

-- OPEN ELEMENTS

abbrev pub has_cell : Home → List Open → Bool
has_cell OfBody stack = true
has_cell OfCell stack = in_scope set.TableScope (is_in set.TdTh) stack

-- the root is `html`, no template is open, and a cell is, where its flow is read
pub record IsHome (b : Home) (stack : List Open) : Type 0 where
  pub root : has_root stack ≡ true
  pub templates : open_templates stack ≡ 0
  pub cell : has_cell b stack ≡ true

-- the root is `html`, and no template is open
pub record IsRooted (stack : List Open) : Type 0 where
  pub root : has_root stack ≡ true
  pub templates : open_templates stack ≡ 0

-- a reset gives the mode, and no paragraph is open
pub record TakesBlocks (b : Home) (stack : List Open) : Type 0 where
  pub back : (s : State) → mode_of_open s stack ≡ mode_in b
  pub no_paragraph : in_scope set.ButtonScope (is_in set.P) stack ≡ false

abbrev pub TakesThere : PlainPlace → Home → List Open → Type 0
TakesThere InFlow b stack = TakesBlocks b stack × (current_is (is_in set.HeadingTag) stack ≡ false)
TakesThere InList b stack = TakesBlocks b stack × (item_name set.Li stack ≡ None)
TakesThere place b stack = Unit {0}

abbrev pub ListsThere : PlainPlace → List Entry → Type 0
ListsThere (InLine true) entries = Unit {0}
ListsThere (InLine false) entries = HasNoLink entries
ListsThere place entries = IsBare entries

-- a state's parts are those of a place in flow
pub record Fits (place : PlainPlace) (b : Home) (f : Forest) (stack : List Open) (entries : List Entry) : Type 0 where
  pub home : IsHome b stack
  pub takes : TakesThere place b stack
  pub below : AreBelow (node_count f) entries
  pub all_open : AreOpen stack entries
  pub lists : ListsThere place entries
