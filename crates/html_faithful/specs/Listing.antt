-- The list of active formatting elements between tokens: the formatting elements of the path, but for those that equal ones drove out,
-- with markers where the path has marked elements.
use Rattle.std.specs.Prelude.{◌≡◌, Bool, true, false, List, [], ◌∷◌, codes, is_some}
use Rattle.html_tokens.specs.declared.tags.Tag.{Tag}
use Rattle.html_rules.specs.Choice.{choose}
use Rattle.html_rules.specs.Formatting.{after_marker, last_named, with_room, without_entry}
use Rattle.html_rules.specs.Stack.{is_open}
use Rattle.html_rules.specs.State.{Entry, Element, Marker, Open, State, is_in}
use Rattle.html_rules.specs.declared.tag_set.TagSet.TheVariants as set
use Rattle.html_faithful.specs.Spots.{is_marked}
use Rattle.html_faithful.specs.Steps.{Adopts, is_settled}

-- an `a` is open since the last marked element
abbrev pub link_open : List Open → Bool
link_open [] = false
link_open (x ∷ xs) = choose (is_marked x) (λ _. false) (λ _. choose (is_in set.A x) (λ _. true) (λ _. link_open xs))

-- such an `a` is listed
abbrev pub ListsLinks : List Open → List Entry → Type 0
ListsLinks xs es = is_some (last_named (codes "a") es) ≡ link_open xs

pub data Lists : List Open → List Entry → Type 0 where
  Empty : Lists [] []
  -- an element that is not listed, or no longer; links are never driven out
  Bare : {x : Open} {xs : List Open} {es : List Entry} → is_marked x ≡ false → is_in set.A x ≡ false → Lists xs es → Lists (x ∷ xs) es
  Listed : {x : Open} {tag : Tag} {xs : List Open} {es : List Entry} → is_marked x ≡ false → tag.name ≡ x.name
      → is_in set.FormattingEnd x ≡ true → Lists xs es → Lists (x ∷ xs) (Element x.number tag ∷ es)
  Marked : {x : Open} {xs : List Open} {es : List Entry} → is_marked x ≡ true → Lists xs es → Lists (x ∷ xs) (Marker ∷ es)

-- no two open elements have one number
abbrev pub AreApart : List Open → Type 0
AreApart [] = Unit {0}
AreApart (x ∷ xs) = (is_open x.number xs ≡ false) × AreApart xs

-- Then nothing would be opened again, and the end tag of the current node takes the adoption agency no further than that.
pub record AreListsHarmless : Type 0 where
  pub links : (s : State) → Lists s.open_elems s.active_formatting → ListsLinks s.open_elems s.active_formatting
  pub settled : (s : State) → Lists s.open_elems s.active_formatting → is_settled s.open_elems s.active_formatting ≡ true
  pub adopts : (s : State) → Lists s.open_elems s.active_formatting → AreApart s.open_elems → Adopts s

-- The list stays so where elements are opened and closed: a formatting element, a marked one, any other.
pub record AreListsKept : Type 0 where
  pub formatting : (x : Open) (tag : Tag) (xs : List Open) (es : List Entry) → is_marked x ≡ false → tag.name ≡ x.name
      → is_in set.FormattingEnd x ≡ true → (is_in set.A x ≡ true → link_open xs ≡ false) → Lists xs es
      → Lists (x ∷ xs) (Element x.number tag ∷ with_room tag es)
  pub formatting_left : (x : Open) (xs : List Open) (es : List Entry) → AreApart (x ∷ xs) → is_marked x ≡ false → Lists (x ∷ xs) es
      → Lists xs (without_entry x.number es)
  pub marked : (x : Open) (xs : List Open) (es : List Entry) → is_marked x ≡ true → Lists xs es → Lists (x ∷ xs) (Marker ∷ es)
  pub marked_left : (x : Open) (xs : List Open) (es : List Entry) → is_marked x ≡ true → Lists (x ∷ xs) es → Lists xs (after_marker es)
  pub other : (x : Open) (xs : List Open) (es : List Entry) → is_marked x ≡ false → is_in set.A x ≡ false → Lists xs es → Lists (x ∷ xs) es
  pub other_left : (x : Open) (xs : List Open) (es : List Entry) → is_marked x ≡ false → is_in set.FormattingEnd x ≡ false
      → Lists (x ∷ xs) es
      → Lists xs es
