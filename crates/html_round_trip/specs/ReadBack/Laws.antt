-- What it means that a text is read in flow, or in a part of a table, and that the state comes back. Throughout `n` and `top` are the
-- current node, `os` what is open below it, `last` the name of the last start tag, `f` the forest, `es` the entries of formatting
-- elements, and `ok` whether a frameset may still come.
use Rattle.std.specs.Prelude.{◌≡◌, ℕ, ◌≤◌, Bool, true, List, [], ◌∷◌, ◌++◌, Option}
use Rattle.std.specs.List.{list_all}
use Rattle.markup.specs.Escape.{end_tag, start_tag}
use Rattle.markup.specs.Forest.{Forest, node_count, put_text}
use Rattle.markup.specs.Forest.Place.{Last}
use Rattle.markup.specs.declared.attributes.Attribute.{Attribute}
use Rattle.html_plain.specs.Elements.{spelled}
use Rattle.html_plain.specs.Grammar.{is_white}
use Rattle.html_plain.specs.declared.elements.PlainElement.{PlainElement}
use Rattle.html_plain.specs.declared.elements.PlainElement.TheVariants.{Break}
use Rattle.html_rules.specs.State.{Entry, Open, State}
use Rattle.html_tokens.specs.Laws.{in_data}
use Rattle.html_tokens.specs.Table.{Row}
use Rattle.html_round_trip.specs.ReadBack.Places.{Drops, IsGood}
use Rattle.html_round_trip.specs.ReadBack.Runs.{Reads}
use Rattle.html_round_trip.specs.ReadBack.States.{Around, Home, Part, at, mode_in, mode_of_part, opened, part_element, waiting_at}

-- what is written of an element whose children are written so
abbrev pub element_text : PlainElement → List Attribute → List ℕ → List ℕ
element_text Break attrs inner = start_tag (spelled Break) attrs
element_text k attrs inner = start_tag (spelled k) attrs ++ (inner ++ end_tag (spelled k))

-- In flow a text is read quietly that leaves this forest. The state comes back, but for whether a frameset may still come, and
-- for entries of formatting elements that equal ones drove out.
pub record ReadsInFlow (rows : List Row) (o : Around) (head : Option ℕ) (b : Home) (n : ℕ) (top : PlainElement)
    (os : List Open) (last : Option (List ℕ)) (f : Forest) (es : List Entry) (ok : Bool) (text : List ℕ) (g : Forest) : Type 0 where
  pub last_tag : Option (List ℕ)
  pub entries : List Entry
  pub frameset_ok : Bool
  pub drops : Drops es entries
  pub reads : Reads rows (in_data last) (at o head (mode_in b) f (opened n top ∷ os) es ok) text (in_data last_tag)
      (at o head (mode_in b) g (opened n top ∷ os) entries frameset_ok)

-- a state in a part of a table, where some text waits, or none
abbrev pub held : Around → Option ℕ → Part → Forest → List Open → List Entry → Bool → List ℕ → State
held o head part f stack es ok [] = at o head (mode_of_part part) f stack es ok
held o head part f stack es ok (c ∷ text) = waiting_at o head (mode_of_part part) f stack es ok (c ∷ text)

-- In a part of a table a text is read quietly. The state comes back, but for white space that waits; the forest with that is this one.
pub record ReadsInPart (rows : List Row) (o : Around) (head : Option ℕ) (part : Part) (n : ℕ) (os : List Open)
    (last : Option (List ℕ)) (f : Forest) (es : List Entry) (ok : Bool) (waiting text : List ℕ) (g : Forest) : Type 0 where
  pub last_tag : Option (List ℕ)
  pub frameset_ok : Bool
  pub forest : Forest
  pub still_waiting : List ℕ
  pub white : list_all is_white still_waiting ≡ true
  pub good : IsGood forest n
  pub more : node_count f ≤ node_count forest
  pub whole : put_text forest (Last n) still_waiting ≡ g
  pub reads : Reads rows (in_data last) (held o head part f (opened n (part_element part) ∷ os) es ok waiting) text
      (in_data last_tag) (held o head part forest (opened n (part_element part) ∷ os) es frameset_ok still_waiting)

-- An element in a part of a table is read quietly. The state comes back, with this forest, and no text waits.
pub record ReadsElementInPart (rows : List Row) (o : Around) (head : Option ℕ) (part : Part) (n : ℕ)
    (os : List Open) (last : Option (List ℕ)) (f : Forest) (es : List Entry) (ok : Bool) (waiting text : List ℕ) (g : Forest) : Type 0 where
  pub last_tag : Option (List ℕ)
  pub frameset_ok : Bool
  pub reads : Reads rows (in_data last) (held o head part f (opened n (part_element part) ∷ os) es ok waiting) text
      (in_data last_tag) (at o head (mode_of_part part) g (opened n (part_element part) ∷ os) es frameset_ok)
