-- What the steps of the rules do to states of plain documents.
use Rattle.std.proofs.Common.{◌≡◌, ℕ, Bool, true, false, List, [], ◌∷◌, Option, None, refl, ap}
use Rattle.markup.specs.Forest.{Forest, node_count, put_new, put_text}
use Rattle.markup.specs.Forest.Place.{Last}
use Rattle.markup.specs.declared.attributes.Attribute.{Attribute}
use Rattle.html_plain.specs.Elements.{spelled}
use Rattle.html_plain.specs.declared.elements.Format.TheVariants.{Bold, Italic, Emphasis, Code}
use Rattle.html_plain.specs.declared.elements.PlainElement.{PlainElement}
use Rattle.html_plain.specs.declared.elements.PlainElement.TheVariants.{Formatted, Link}
use Rattle.html_round_trip.proofs.Planting.PlainTrees.{no-template}
use Rattle.html_rules.specs.Adoption.{adoption_agency, adoption_turn, adoption_turns}
use Rattle.html_rules.specs.Formatting.{create_formatting_element_for, is_listed, reconstruct_active_formatting_elements, with_room}
use Rattle.html_rules.specs.Names as names
use Rattle.html_rules.specs.Places.{append_comment, append_text, insert_element, put_element}
use Rattle.html_rules.specs.Reset.{mode_of_open, reset_insertion_mode}
use Rattle.html_rules.specs.Stack.{close_item, close_p_element_in_button_scope, in_scope, item_name, pop}
use Rattle.html_rules.specs.State.{Entry, Element, Marker, Open, State, current_is, is_in}
use Rattle.html_rules.specs.declared.insertion_mode.InsertionMode.{InsertionMode}
use Rattle.html_rules.specs.declared.tag_set.TagSet.TheVariants as set
use Rattle.html_round_trip.specs.ReadBack.Places.{AreOpen, HasNoLink}
use Rattle.html_round_trip.specs.ReadBack.States.{Around, at, comment_node, element_node, opened, tag_of}
use Rattle.html_round_trip.proofs.ReadBack.Stacks.{no-template_open, same}
use Rattle.html_round_trip.proofs.ReadBack.Turns.Flow.{after_heading, after_link, is_formatting}

module _ (o : Around) (head : Option ℕ) (m : InsertionMode) where
  -- an element is put into the current node, and opened
  pub inserted : (k : PlainElement) (attrs : List Attribute) (n : ℕ) (top : PlainElement) (f : Forest)
      (os : List Open) (es : List Entry) (ok : Bool)
      → insert_element names.Html (spelled k) attrs false (at o head m f (opened n top ∷ os) es ok)
      ≡ at o head m (put_new f (Last n) (element_node k attrs)) (opened (node_count f) k ∷ opened n top ∷ os) es ok
  unfolding insert_element
  inserted k attrs n top f os es ok = rw (no-template k, no-template_open n top) refl

  -- the same, and it is not opened
  pub put-alone : (k : PlainElement) (attrs : List Attribute) (n : ℕ) (top : PlainElement) (f : Forest)
      (os : List Open) (es : List Entry) (ok : Bool)
      → put_element names.Html (spelled k) attrs false (at o head m f (opened n top ∷ os) es ok)
      ≡ at o head m (put_new f (Last n) (element_node k attrs)) (opened n top ∷ os) es ok
  unfolding put_element
  put-alone k attrs n top f os es ok = rw (no-template k, no-template_open n top) refl

  pub appended : (text : List ℕ) (n : ℕ) (top : PlainElement) (f : Forest) (os : List Open) (es : List Entry) (ok : Bool)
      → append_text text (at o head m f (opened n top ∷ os) es ok) ≡ at o head m (put_text f (Last n) text) (opened n top ∷ os) es ok
  unfolding append_text
  appended text n top f os es ok = rw (no-template_open n top) refl

  pub commented : (text : List ℕ) (n : ℕ) (top : PlainElement) (f : Forest) (os : List Open) (es : List Entry) (ok : Bool)
      → append_comment text (at o head m f (opened n top ∷ os) es ok) ≡ at o head m
      (put_new f (Last n) (comment_node text)) (opened n top ∷ os) es ok
  unfolding append_comment
  commented text n top f os es ok = rw (no-template_open n top) refl

  -- no paragraph is closed
  pub none-closed : (f : Forest) (stack : List Open) (es : List Entry) (ok : Bool) → in_scope set.ButtonScope
      (is_in set.P) stack ≡ false → close_p_element_in_button_scope (at o head m f stack es ok) ≡ at o head m f stack es ok
  unfolding close_p_element_in_button_scope
  none-closed f stack es ok h = rw h refl

  pub no-item_closed : (f : Forest) (stack : List Open) (es : List Entry) (ok : Bool)
      → item_name set.Li stack ≡ None → close_item set.Li (at o head m f stack es ok) ≡ at o head m f stack es ok
  unfolding close_item
  no-item_closed f stack es ok h = rw h refl

  pub no-heading : (f : Forest) (stack : List Open) (es : List Entry) (ok : Bool)
      → current_is (is_in set.HeadingTag) stack ≡ false → after_heading (at o head m f stack es ok) ≡ at o head m f stack es ok
  no-heading f stack es ok h = rw h refl

  pub no-link : (f : Forest) (stack : List Open) (es : List Entry) (ok : Bool) → HasNoLink es
      → after_link (at o head m f stack es ok) ≡ at o head m f stack es ok
  no-link f stack es ok h = rw h refl

  -- nothing is reconstructed
  pub reconstructed : (f : Forest) (stack : List Open) (es : List Entry) (ok : Bool) → AreOpen stack es
      → reconstruct_active_formatting_elements (at o head m f stack es ok) ≡ at o head m f stack es ok
  unfolding reconstruct_active_formatting_elements
  reconstructed f stack [] ok h = refl
  reconstructed f stack (Marker ∷ es) ok h = refl
  reconstructed f stack (Element n tag ∷ es) ok h = rw h.0 refl

  -- a formatting element is opened and listed
  pub formatted : (k : PlainElement) (attrs : List Attribute) (n : ℕ) (top : PlainElement) (f : Forest)
      (os : List Open) (es : List Entry) (ok : Bool)
      → create_formatting_element_for (tag_of k attrs) (at o head m f (opened n top ∷ os) es ok)
      ≡ at o head m (put_new f (Last n) (element_node k attrs)) (opened (node_count f) k ∷ opened n top ∷ os)
      (Element (node_count f) (tag_of k attrs) ∷ with_room (tag_of k attrs) es) ok
  unfolding create_formatting_element_for
  formatted k attrs n top f os es ok = rw (inserted k attrs n top f os (with_room (tag_of k attrs) es) ok) refl

  pub reset-to : (to : InsertionMode) (f : Forest) (stack : List Open) (es : List Entry) (ok : Bool)
      → ((s : State) → mode_of_open s stack ≡ to) → reset_insertion_mode (at o head m f stack es ok) ≡ at o head to f stack es ok
  unfolding reset_insertion_mode
  reset-to to f stack es ok h = ap (λ (to : InsertionMode). at o head to f stack es ok) (h (at o head m f stack es ok))

  -- THE ADOPTION AGENCY

  module _ (attrs : List Attribute) (n : ℕ) (f : Forest) (os : List Open) (es : List Entry) (ok : Bool) where
    -- the current node leaves stack and list
    pub adopted : (k : PlainElement) → is_formatting k ≡ true → adoption_agency (spelled k)
        (at o head m f (opened n k ∷ os) (Element n (tag_of k attrs) ∷ es) ok) ≡ at o head m f os es ok
    unfolding adoption_agency adoption_turns adoption_turn
    adopted (Formatted Bold) h = rw (same n, same n) refl
    adopted (Formatted Italic) h = rw (same n, same n) refl
    adopted (Formatted Emphasis) h = rw (same n, same n) refl
    adopted (Formatted Code) h = rw (same n, same n) refl
    adopted Link h = rw (same n, same n) refl
    adopted k h = absurd (cc)

    -- it leaves the stack, where it is not listed
    pub popped : (k : PlainElement) → is_formatting k ≡ true → is_listed n es ≡ false → adoption_agency (spelled k)
        (at o head m f (opened n k ∷ os) es ok) ≡ at o head m f os es ok
    unfolding adoption_agency pop
    popped (Formatted Bold) h none = rw none refl
    popped (Formatted Italic) h none = rw none refl
    popped (Formatted Emphasis) h none = rw none refl
    popped (Formatted Code) h none = rw none refl
    popped Link h none = rw none refl
    popped k h none = absurd (cc)
