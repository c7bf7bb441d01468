-- What the rules make of each tag of the plain forms, and of text, in tables.
use Rattle.std.proofs.Common.{◌≡◌, ℕ, Bool, false, List, [], ◌∷◌, ◌++◌, Option, refl}
use Rattle.markup.specs.Forest.{Forest}
use Rattle.markup.specs.declared.attributes.Attribute.{Attribute}
use Rattle.html_plain.specs.Elements.{spelled}
use Rattle.html_plain.specs.declared.elements.CellKind.{CellKind}
use Rattle.html_plain.specs.declared.elements.CellKind.TheVariants.{Data, Header}
use Rattle.html_plain.specs.declared.elements.PlainElement.TheVariants.{Table, TableBody, Row, Cell}
use Rattle.html_rules.specs.Actions.{restore_mode, save_mode, keep_text, set_mode, insert_pending_text}
use Rattle.html_rules.specs.ForeignContent.{is_foreign}
use Rattle.html_rules.specs.Formatting.{clear_active_formatting_to_marker, push_marker}
use Rattle.html_rules.specs.Names as names
use Rattle.html_rules.specs.Places.{insert_element}
use Rattle.html_rules.specs.Reset.{reset_insertion_mode}
use Rattle.html_rules.specs.Rules.{Again, Finished, rows, turn, turn_of, using_rules_for}
use Rattle.html_rules.specs.Sets.{names_of}
use Rattle.html_rules.specs.Stack.{expect_to_close, generate_implied_end_tags, pop_but_root, pop_until, pop_until_current}
use Rattle.html_rules.specs.State.{Entry, Marker, Open, State}
use Rattle.html_rules.specs.declared.insertion_mode.InsertionMode.TheVariants as mode
use Rattle.html_round_trip.specs.Slices.Forms.{end_token, start_token}
use Rattle.html_tokens.specs.declared.tags.Tag.{Tag}
use Rattle.html_tokens.specs.declared.token.Token.TheVariants.{CharacterTokens, TagToken}
use Rattle.html_round_trip.specs.ReadBack.States.{Around, Part, OfTable, OfBodies, OfRow, at, mode_of_part, opened}
use Rattle.html_round_trip.specs.ReadBack.States.{part_element, waiting_at}

module _ (o : Around) (head : Option ℕ) (n : ℕ) (f : Forest) (os : List Open) (es : List Entry) (ok : Bool) where
  abbrev inside : Part → State
  inside part = at o head (mode_of_part part) f (opened n (part_element part) ∷ os) es ok

  abbrev inside_waiting : Part → List ℕ → State
  inside_waiting part text = waiting_at o head (mode_of_part part) f (opened n (part_element part) ∷ os) es ok text

  module _ (attrs : List Attribute) where
    pub start-table_body : turn (start_token (spelled TableBody) attrs) (inside OfTable) ≡ turn_of
        (set_mode mode.InTableBody (insert_element names.Html (spelled TableBody) attrs false (inside OfTable))) (Finished false)
    unfolding turn is_foreign using_rules_for rows names_of pop_until_current
    start-table_body = refl

    pub start-row : turn (start_token (spelled Row) attrs) (inside OfBodies) ≡ turn_of
        (set_mode mode.InRow (insert_element names.Html (spelled Row) attrs false (inside OfBodies))) (Finished false)
    unfolding turn is_foreign using_rules_for rows names_of pop_until_current
    start-row = refl

    pub start-cell : (kind : CellKind) → turn (start_token (spelled (Cell kind)) attrs) (inside OfRow) ≡ turn_of
        (push_marker (set_mode mode.InCell (insert_element names.Html (spelled (Cell kind)) attrs false (inside OfRow)))) (Finished false)
    unfolding turn is_foreign using_rules_for rows names_of pop_until_current
    start-cell Data = refl
    start-cell Header = refl

  pub end-cell : (kind : CellKind) → turn (end_token (spelled (Cell kind)))
      (at o head mode.InCell f (opened n (Cell kind) ∷ os) (Marker ∷ es) ok) ≡ turn_of (at o head mode.InRow f os es ok) (Finished false)
  unfolding turn is_foreign using_rules_for rows names_of generate_implied_end_tags expect_to_close pop_until
      clear_active_formatting_to_marker set_mode
  end-cell Data = refl
  end-cell Header = refl

  pub end-row : turn (end_token (spelled Row)) (inside OfRow) ≡ turn_of (at o head mode.InTableBody f os es ok) (Finished false)
  unfolding turn is_foreign using_rules_for rows names_of pop_until_current pop_but_root set_mode
  end-row = refl

  pub end-table_body : turn (end_token (spelled TableBody)) (inside OfBodies) ≡ turn_of (at o head mode.InTable f os es ok) (Finished false)
  unfolding turn is_foreign using_rules_for rows names_of pop_until_current pop_but_root set_mode
  end-table_body = refl

  pub end-table : turn (end_token (spelled Table)) (inside OfTable) ≡ turn_of
      (reset_insertion_mode (at o head mode.InTable f os es ok)) (Finished false)
  unfolding turn is_foreign using_rules_for rows names_of pop_until
  end-table = refl

  -- the first character of a text
  pub first-character : (c : ℕ) (part : Part) → turn (CharacterTokens (c ∷ [])) (inside part) ≡ turn_of (inside_waiting part []) Again
  unfolding turn is_foreign using_rules_for rows names_of save_mode set_mode
  first-character c OfTable = refl
  first-character c OfBodies = refl
  first-character c OfRow = refl

  -- every other one
  pub next-character : (c : ℕ) (part : Part) (text : List ℕ) → turn (CharacterTokens (c ∷ []))
      (inside_waiting part text) ≡ turn_of (inside_waiting part (text ++ c ∷ [])) (Finished false)
  unfolding turn is_foreign using_rules_for rows keep_text
  next-character c OfTable text = refl
  next-character c OfBodies text = refl
  next-character c OfRow text = refl

  -- what waits is told before a tag is taken
  pub tag-place_after_text : (tag : Tag) (part : Part) (text : List ℕ) → turn (TagToken tag)
      (inside_waiting part text) ≡ turn_of (restore_mode (insert_pending_text (inside_waiting part text))) Again
  unfolding turn is_foreign using_rules_for rows
  tag-place_after_text tag OfTable text = refl
  tag-place_after_text tag OfBodies text = refl
  tag-place_after_text tag OfRow text = refl
