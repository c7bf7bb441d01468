-- What plain documents are written with is read back.
use Rattle.std.specs.Prelude.{◌≡◌, ℕ, true, List}
use Rattle.std.specs.List.{list_all}
use Rattle.markup.specs.declared.attributes.Attribute.{Attribute}
use Rattle.html_plain.specs.Elements.{spelled}
use Rattle.html_plain.specs.Grammar.{are_plain_attributes, is_plain_comment, is_plain_text}
use Rattle.html_plain.specs.declared.elements.PlainElement.{PlainElement}
use Rattle.html_plain.specs.declared.elements.PlainElement.TheVariants.{Title}
use Rattle.html_tokens.specs.Laws.{has_no_null}
use Rattle.html_round_trip.specs.Slices.Forms.{AreReadBack, has_no_return, is_letter_name, is_read_comment, is_tag_name}

-- plain elements have names of tags, a title's of letters alone; plain attributes, texts and comments are among those that are
-- read back, and have no carriage return
pub record ArePlainFormsRead : Type 0 where
  pub names : (k : PlainElement) → is_tag_name (spelled k) ≡ true
  pub title : is_letter_name (spelled Title) ≡ true
  pub attributes : (attributes : List Attribute) → are_plain_attributes attributes ≡ true → AreReadBack attributes
  pub values : (attributes : List Attribute) → are_plain_attributes attributes ≡ true
      → list_all (λ a. has_no_return a.value) attributes ≡ true
  pub texts : (text : List ℕ) → is_plain_text text ≡ true → (has_no_null text ≡ true) × (has_no_return text ≡ true)
  pub comments : (text : List ℕ) → is_plain_comment text ≡ true → (is_read_comment text ≡ true) × (has_no_return text ≡ true)
