-- Listed elements that are to be opened again.
use Rattle.std.specs.Prelude.{◌≡◌, ◌++◌, ◌∷◌, [], ℕ, Bool, true, false, not, List, length, Option, Some, None}
use Rattle.std.specs.List.{list_all}
use Rattle.markup.specs.Forest.{Forest, node_count}
use Rattle.html_tokens.specs.declared.tags.Tag.{Tag}
use Rattle.html_rules.specs.Formatting.{list_current}
use Rattle.html_rules.specs.Places.{insert_element_for}
use Rattle.html_rules.specs.Stack.{is_open}
use Rattle.html_rules.specs.State.{Entry, Element, Marker, Open, State}
use Rattle.html_stack.specs.Stacks.{Stacked, joined}

-- whether the element of an entry is to be opened again: it is not open
abbrev pub waits : List Open → Entry → Bool
waits xs Marker = false
waits xs (Element n tag) = not (is_open n xs)

-- the newest of these entries, if there is one, stays as it is
abbrev pub IsSettled : List Open → List Entry → Type 0
IsSettled xs [] = Unit {0}
IsSettled xs (entry ∷ entries) = waits xs entry ≡ false

-- entries that wait, newer than so many that stay
pub record IsDivided (xs : List Open) (entries : List Entry) (count : ℕ) : Type 0 where
  pub waiting : List Entry
  pub settled : List Entry
  pub parts : entries ≡ waiting ++ settled
  pub size : length settled ≡ count
  pub wait : list_all (waits xs) waiting ≡ true
  pub stay : IsSettled xs settled

-- an entry's element was inserted again, and the entry stands for the new one
pub record IsAgain (foster : Bool) (old new : Stacked) (f g : Forest) (newer : List Entry) (tag : Tag) (older : List Entry) : Type 0 where
  pub entries : new.active_formatting ≡ newer ++ Element (node_count f) tag ∷ older
  pub step : (s : State) → s.foster_parenting ≡ foster
      → joined s (record new { active_formatting = Element (node_count f) tag ∷ older }) g ≡ list_current tag
      (insert_element_for tag (joined s (record old { active_formatting = older }) f))

-- an entry with so many older ones has a tag
pub record HasEntry (entries : List Entry) (place : ℕ) (tag : Tag) : Type 0 where
  pub newer : List Entry
  pub older : List Entry
  pub number : ℕ
  pub parts : entries ≡ newer ++ Element number tag ∷ older
  pub size : length older ≡ place

-- a tag is that of an entry, or there is a marker
abbrev pub IsSaidAt : List Entry → ℕ → Option Tag → Type 0
IsSaidAt entries place None = (newer older : List Entry) (n : ℕ) (tag : Tag) → entries ≡ newer ++ Element n tag ∷
    older → length older ≡ place → ⊥
IsSaidAt entries place (Some tag) = HasEntry entries place tag
