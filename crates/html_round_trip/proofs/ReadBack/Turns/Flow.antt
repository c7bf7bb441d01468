-- What the rules make of each tag of the plain forms, in flow: one turn, as the words of its row.
use Rattle.std.proofs.Common.{◌≡◌, ℕ, Bool, true, false, List, [], ◌∷◌, Option, refl}
use Rattle.std.specs.Prelude.{codes, is_some}
use Rattle.markup.specs.Forest.{Forest}
use Rattle.markup.specs.declared.attributes.Attribute.{Attribute}
use Rattle.html_plain.specs.Elements.{spelled}
use Rattle.html_plain.specs.declared.elements.Format.TheVariants.{Bold, Italic, Emphasis, Code}
use Rattle.html_plain.specs.declared.elements.Level.{Level}
use Rattle.html_plain.specs.declared.elements.Level.TheVariants.{One, Two, Three, Four, Five, Six}
use Rattle.html_plain.specs.declared.elements.ListKind.TheVariants.{Unordered, Ordered}
use Rattle.html_plain.specs.declared.elements.PlainElement.{PlainElement}
use Rattle.html_plain.specs.declared.elements.PlainElement.TheVariants.{Paragraph, Heading, Division, List as ListElement, Item}
use Rattle.html_plain.specs.declared.elements.PlainElement.TheVariants.{Table, Break, Formatted, Link}
use Rattle.html_rules.specs.Actions.{frameset_not_ok, frameset_not_ok_unless_white, set_mode}
use Rattle.html_rules.specs.Adoption.{adoption_agency, handle_misnested_a_tags}
use Rattle.html_rules.specs.Choice.{choose}
use Rattle.html_rules.specs.ForeignContent.{is_foreign}
use Rattle.html_rules.specs.Formatting.{create_formatting_element_for, last_named, reconstruct_active_formatting_elements}
use Rattle.html_rules.specs.Names as names
use Rattle.html_rules.specs.Places.{append_comment, append_text, insert_element, put_element}
use Rattle.html_rules.specs.Rules.{Finished, rows, turn, turn_of, using_rules_for}
use Rattle.html_rules.specs.Sets.{names_of}
use Rattle.html_rules.specs.Stack.{close_item, close_p_element, close_p_element_in_button_scope, expect_to_close}
use Rattle.html_rules.specs.Stack.{generate_implied_end_except, generate_implied_end_tags, parse_error, pop_but_root, pop_until}
use Rattle.html_rules.specs.State.{Entry, Open, State, current_is, is_in}
use Rattle.html_rules.specs.declared.insertion_mode.InsertionMode.TheVariants as mode
use Rattle.html_rules.specs.declared.tag_set.TagSet.TheVariants as set
use Rattle.html_round_trip.specs.Slices.Forms.{end_token, start_token}
use Rattle.html_tokens.specs.declared.token.Token.TheVariants.{CharacterTokens, CommentToken}
use Rattle.html_round_trip.specs.ReadBack.States.{Around, Home, OfBody, OfCell, at, mode_in, opened, tag_of}

-- elements that only close a paragraph where they begin
abbrev pub is_simple_block : PlainElement → Bool
is_simple_block Paragraph = true
is_simple_block Division = true
is_simple_block (ListElement kind) = true
is_simple_block _ = false

-- elements whose end tag only closes them
abbrev pub is_simply_ended : PlainElement → Bool
is_simply_ended Paragraph = true
is_simply_ended Division = true
is_simply_ended (ListElement kind) = true
is_simply_ended (Heading level) = true
is_simply_ended Item = true
is_simply_ended _ = false

abbrev pub is_format : PlainElement → Bool
is_format (Formatted format) = true
is_format _ = false

-- formatting elements, and links
abbrev pub is_formatting : PlainElement → Bool
is_formatting (Formatted format) = true
is_formatting Link = true
is_formatting _ = false

-- what is left of a state where a heading begins
abbrev pub after_heading : State → State
after_heading s = choose (current_is (is_in set.HeadingTag) s.open_elems) (λ _. pop_but_root (parse_error s)) (λ _. s)

-- and where a link begins
abbrev pub after_link : State → State
after_link s = choose (is_some (last_named (codes "a") s.active_formatting)) (λ _. handle_misnested_a_tags s) (λ _. s)

module _ (o : Around) (head : Option ℕ) (n : ℕ) (top : PlainElement) (f : Forest) (os : List Open) (es : List Entry)
    (ok : Bool) (attrs : List Attribute) where
  abbrev here : Home → State
  here b = at o head (mode_in b) f (opened n top ∷ os) es ok

  pub start-block : (k : PlainElement) → is_simple_block k ≡ true → (b : Home)
      → turn (start_token (spelled k) attrs) (here b) ≡ turn_of
      (insert_element names.Html (spelled k) attrs false (close_p_element_in_button_scope (here b))) (Finished false)
  unfolding turn is_foreign using_rules_for rows names_of
  start-block Paragraph h OfBody = refl
  start-block Paragraph h OfCell = refl
  start-block Division h OfBody = refl
  start-block Division h OfCell = refl
  start-block (ListElement Unordered) h OfBody = refl
  start-block (ListElement Unordered) h OfCell = refl
  start-block (ListElement Ordered) h OfBody = refl
  start-block (ListElement Ordered) h OfCell = refl
  start-block k h b = absurd (cc)

  pub start-heading : (level : Level) (b : Home) → turn (start_token (spelled (Heading level)) attrs)
      (here b) ≡ turn_of (insert_element names.Html (spelled (Heading level)) attrs false
      (after_heading (close_p_element_in_button_scope (here b)))) (Finished false)
  unfolding turn is_foreign using_rules_for rows names_of
  start-heading One OfBody = refl
  start-heading One OfCell = refl
  start-heading Two OfBody = refl
  start-heading Two OfCell = refl
  start-heading Three OfBody = refl
  start-heading Three OfCell = refl
  start-heading Four OfBody = refl
  start-heading Four OfCell = refl
  start-heading Five OfBody = refl
  start-heading Five OfCell = refl
  start-heading Six OfBody = refl
  start-heading Six OfCell = refl

  pub start-item : (b : Home) → turn (start_token (spelled Item) attrs) (here b) ≡ turn_of
      (insert_element names.Html (spelled Item) attrs false
      (close_p_element_in_button_scope (close_item set.Li (frameset_not_ok (here b))))) (Finished false)
  unfolding turn is_foreign using_rules_for rows names_of
  start-item OfBody = refl
  start-item OfCell = refl

  pub start-table : (b : Home) → turn (start_token (spelled Table) attrs) (here b) ≡ turn_of
      (set_mode mode.InTable (frameset_not_ok
      (insert_element names.Html (spelled Table) attrs false (close_p_element_in_button_scope (here b))))) (Finished false)
  unfolding turn is_foreign using_rules_for rows names_of
  start-table OfBody = refl
  start-table OfCell = refl

  pub start-format : (k : PlainElement) → is_format k ≡ true → (b : Home) → turn (start_token (spelled k) attrs)
      (here b) ≡ turn_of (create_formatting_element_for (tag_of k attrs) (reconstruct_active_formatting_elements (here b))) (Finished false)
  unfolding turn is_foreign using_rules_for rows names_of
  start-format (Formatted Bold) h OfBody = refl
  start-format (Formatted Bold) h OfCell = refl
  start-format (Formatted Italic) h OfBody = refl
  start-format (Formatted Italic) h OfCell = refl
  start-format (Formatted Emphasis) h OfBody = refl
  start-format (Formatted Emphasis) h OfCell = refl
  start-format (Formatted Code) h OfBody = refl
  start-format (Formatted Code) h OfCell = refl
  start-format k h b = absurd (cc)

  pub start-link : (b : Home) → turn (start_token (spelled Link) attrs) (here b) ≡ turn_of
      (create_formatting_element_for (tag_of Link attrs) (reconstruct_active_formatting_elements (after_link (here b)))) (Finished false)
  unfolding turn is_foreign using_rules_for rows names_of
  start-link OfBody = refl
  start-link OfCell = refl

  pub start-break : (b : Home) → turn (start_token (spelled Break) attrs) (here b) ≡ turn_of
      (frameset_not_ok (put_element names.Html (spelled Break) attrs false
      (reconstruct_active_formatting_elements (here b)))) (Finished true)
  unfolding turn is_foreign using_rules_for rows names_of
  start-break OfBody = refl
  start-break OfCell = refl

  pub character-there : (c : ℕ) (b : Home) → turn (CharacterTokens (c ∷ [])) (here b) ≡ turn_of
      (append_text (c ∷ []) (frameset_not_ok_unless_white (c ∷ []) (reconstruct_active_formatting_elements (here b)))) (Finished false)
  unfolding turn is_foreign using_rules_for rows names_of
  character-there c OfBody = refl
  character-there c OfCell = refl

  pub comment-there : (text : List ℕ) (b : Home) → turn (CommentToken text) (here b) ≡ turn_of
      (append_comment text (here b)) (Finished false)
  unfolding turn is_foreign using_rules_for rows names_of
  comment-there text OfBody = refl
  comment-there text OfCell = refl

module _ (o : Around) (head : Option ℕ) (n : ℕ) (f : Forest) (os : List Open) (es : List Entry) (ok : Bool) where
  abbrev within : PlainElement → Home → State
  within k b = at o head (mode_in b) f (opened n k ∷ os) es ok

  pub end-simple : (k : PlainElement) → is_simply_ended k ≡ true → (b : Home) → turn (end_token (spelled k))
      (within k b) ≡ turn_of (at o head (mode_in b) f os es ok) (Finished false)
  unfolding turn is_foreign using_rules_for rows names_of generate_implied_end_tags generate_implied_end_except
      expect_to_close pop_until close_p_element close_p_element_in_button_scope
  end-simple Paragraph h OfBody = refl
  end-simple Paragraph h OfCell = refl
  end-simple Division h OfBody = refl
  end-simple Division h OfCell = refl
  end-simple (ListElement Unordered) h OfBody = refl
  end-simple (ListElement Unordered) h OfCell = refl
  end-simple (ListElement Ordered) h OfBody = refl
  end-simple (ListElement Ordered) h OfCell = refl
  end-simple (Heading One) h OfBody = refl
  end-simple (Heading One) h OfCell = refl
  end-simple (Heading Two) h OfBody = refl
  end-simple (Heading Two) h OfCell = refl
  end-simple (Heading Three) h OfBody = refl
  end-simple (Heading Three) h OfCell = refl
  end-simple (Heading Four) h OfBody = refl
  end-simple (Heading Four) h OfCell = refl
  end-simple (Heading Five) h OfBody = refl
  end-simple (Heading Five) h OfCell = refl
  end-simple (Heading Six) h OfBody = refl
  end-simple (Heading Six) h OfCell = refl
  end-simple Item h OfBody = refl
  end-simple Item h OfCell = refl
  end-simple k h b = absurd (cc)

  pub end-formatting : (k : PlainElement) → is_formatting k ≡ true → (b : Home) → turn (end_token (spelled k))
      (within k b) ≡ turn_of (adoption_agency (spelled k) (within k b)) (Finished false)
  unfolding turn is_foreign using_rules_for rows names_of
  end-formatting (Formatted Bold) h OfBody = refl
  end-formatting (Formatted Bold) h OfCell = refl
  end-formatting (Formatted Italic) h OfBody = refl
  end-formatting (Formatted Italic) h OfCell = refl
  end-formatting (Formatted Emphasis) h OfBody = refl
  end-formatting (Formatted Emphasis) h OfCell = refl
  end-formatting (Formatted Code) h OfBody = refl
  end-formatting (Formatted Code) h OfCell = refl
  end-formatting Link h OfBody = refl
  end-formatting Link h OfCell = refl
  end-formatting k h b = absurd (cc)
