-- What is written of plain trees is made of scalar values, so it is a text in UTF-8.
use lib.Utf8.{scalar, scalars, low_scalar}
use Rattle.std.proofs.Common.{◌≡◌, ◌∙◌, ℕ, ◌<◌, Bool, true, false, List, [], ◌∷◌, ◌++◌, refl, ap, sym, subst, arith, nat_eq}
use Rattle.std.proofs.Common.{codes, cond, encode_utf8_all}
use Rattle.std.specs.Prelude.{◌&&◌, is_none, not}
use Rattle.std.specs.Char.{is_ascii_lowercase}
use Rattle.std.specs.List.{list_all}
use Rattle.std.specs.Str.{IsUtf8, chars}
use Rattle.std.proofs.lemmas.Bool.{and_from, and_parts}
use Rattle.std.proofs.lemmas.Bool.Decides.{nat_tests}
use Rattle.std.proofs.lemmas.Str.{chars-encodes}
use Rattle.markup.specs.Escape.{InValue, end_tag, escape, escape_value, escaped, escaped_by, escaped_in, start_tag}
use Rattle.markup.specs.Escape.{written_attribute, written_attributes, written_comment}
use Rattle.markup.specs.Trees.{Trees, Nothing, Text, Comment, ProcessingInstruction, Doctype, Element, written}
use Rattle.markup.specs.declared.attributes.Attribute.{Attribute}
use Rattle.html_plain.specs.Elements.{place_after_element, place_after_text, html_name, inside, spelled}
use Rattle.html_plain.specs.Grammar.{IsPlain, are_distinct, are_plain_attributes, is_empty, is_name_character}
use Rattle.html_plain.specs.Grammar.{is_plain_attribute, is_plain_character, is_plain_name, is_unprefixed}
use Rattle.html_plain.specs.Laws.{is_void, text_of}
use Rattle.html_plain.specs.declared.elements.PlainElement.{PlainElement}
use Rattle.html_plain.specs.declared.elements.PlainElement.TheVariants.{Break}
use Rattle.html_plain.specs.declared.place.PlainPlace.{PlainPlace}
use Rattle.html_plain.proofs.WrittenForms.{break-written, element-written}
use Rattle.html_round_trip.specs.Slices.Forms.{is_no_text, is_tag_name}
use Rattle.html_round_trip.proofs.Slices.Attributes.{as-written}
use Rattle.html_round_trip.proofs.Slices.PlainForms.{comment-characters, names-of_tags}
use Rattle.html_round_trip.proofs.ReadBack.Forms.{nothing-in_break}

both : (a b : List ℕ) → scalars a ≡ true → scalars b ≡ true → scalars (a ++ b) ≡ true
both [] b h k = k
both (c ∷ a) b h k = let p = and_parts (scalar c) (scalars a) h in and_from (scalar c) (scalars (a ++ b)) p.0 (both a b p.1 k)

-- TEXTS AND VALUES

escaped-scalars : (a b d e : Bool) (c : ℕ) → scalar c ≡ true → scalars (escaped_by a b d e c) ≡ true
escaped-scalars true b d e c h = refl
escaped-scalars false true d e c h = refl
escaped-scalars false false true e c h = refl
escaped-scalars false false false true c h = refl
escaped-scalars false false false false c h = and_from (scalar c) true h refl

value-by : (q : Bool) (c : ℕ) → scalar c ≡ true → scalars (cond q (codes "&quot;") (escaped c)) ≡ true
value-by true c h = refl
value-by false c h = escaped-scalars _ _ _ _ c h

plain-scalar : (c : ℕ) → is_plain_character c ≡ true → scalar c ≡ true
plain-scalar c h = (and_parts (not (nat_eq c 0) && not (nat_eq c 13)) (scalar c) h).1

plain-scalars : (text : List ℕ) → list_all is_plain_character text ≡ true → scalars text ≡ true
plain-scalars [] h = refl
plain-scalars (c ∷ text) h =
    let p = and_parts (is_plain_character c) (list_all is_plain_character text) h in
    and_from (scalar c) (scalars text) (plain-scalar c p.0) (plain-scalars text p.1)

text-scalars : (text : List ℕ) → list_all is_plain_character text ≡ true → scalars (escape text) ≡ true
text-scalars [] h = refl
text-scalars (c ∷ text) h =
    let p = and_parts (is_plain_character c) (list_all is_plain_character text) h in
    both (escaped c) (escape text) (escaped-scalars _ _ _ _ c (plain-scalar c p.0)) (text-scalars text p.1)

value-scalars : (value : List ℕ) → list_all is_plain_character value ≡ true → scalars (escape_value value) ≡ true
value-scalars [] h = refl
value-scalars (c ∷ value) h =
    let p = and_parts (is_plain_character c) (list_all is_plain_character value) h in
    both (escaped_in InValue c) (escape_value value) (value-by _ c (plain-scalar c p.0)) (value-scalars value p.1)

-- NAMES

name-scalar : (c : ℕ) → is_name_character c ≡ true → scalar c ≡ true
name-scalar c h = let less : c < 55296 = grind (arith, nat_tests) in low_scalar c less

name-scalars : (name : List ℕ) → list_all is_name_character name ≡ true → scalars name ≡ true
name-scalars [] h = refl
name-scalars (c ∷ name) h = let p = and_parts (is_name_character c) (list_all is_name_character name) h in
    and_from (scalar c) (scalars name) (name-scalar c p.0) (name-scalars name p.1)

tag-scalars : (name : List ℕ) → is_tag_name name ≡ true → scalars name ≡ true
tag-scalars [] h = refl
tag-scalars (c ∷ name) h =
    let p = and_parts (is_ascii_lowercase c) (list_all is_name_character name) h in
    let lower : is_ascii_lowercase c ≡ true = p.0 in
    let less : c < 55296 = grind (arith, nat_tests) in
    and_from (scalar c) (scalars name) (low_scalar c less) (name-scalars name p.1)

-- TAGS

filled : (name : List ℕ) → is_plain_name name ≡ true → list_all is_name_character name ≡ true
filled name h = (and_parts (not (is_empty name)) (list_all is_name_character name) h).1

no-text : (t : List ℕ) → is_empty t ≡ true → is_no_text t ≡ true
no-text [] h = refl
no-text (c ∷ t) h = absurd (cc)

attribute-scalars : (a : Attribute) → is_plain_attribute a ≡ true → scalars (written_attribute a) ≡ true
attribute-scalars a h =
    let p = and_parts (is_plain_name a.name.local && is_unprefixed a.name) (list_all is_plain_character a.value) h in
    let q = and_parts (is_plain_name a.name.local) (is_unprefixed a.name) p.0 in
    let r = and_parts (is_none a.name.prefix) (is_empty a.name.ns) q.1 in
    ap scalars (as-written a (and_from (is_none a.name.prefix) (is_no_text a.name.ns) r.0 (no-text a.name.ns r.1)))
    ∙ both a.name.local (61 ∷ 34 ∷ (escape_value a.value ++ 34 ∷ []))
    (name-scalars a.name.local (filled a.name.local q.0)) (both (escape_value a.value) (34 ∷ []) (value-scalars a.value p.1) refl)

attributes-scalars : (attributes : List Attribute) → list_all is_plain_attribute attributes ≡ true
    → scalars (written_attributes attributes) ≡ true
attributes-scalars [] h = refl
attributes-scalars (a ∷ rest) h =
    let p = and_parts (is_plain_attribute a) (list_all is_plain_attribute rest) h in
    both (written_attribute a) (written_attributes rest) (attribute-scalars a p.0) (attributes-scalars rest p.1)

start-scalars : (k : PlainElement) (attributes : List Attribute) → are_plain_attributes attributes ≡ true
    → scalars (start_tag (spelled k) attributes) ≡ true
start-scalars k attributes h =
    let p = and_parts (list_all is_plain_attribute attributes) (are_distinct attributes) h in
    both (spelled k) (written_attributes attributes ++ 62 ∷ []) (tag-scalars (spelled k) (names-of_tags k))
    (both (written_attributes attributes) (62 ∷ []) (attributes-scalars attributes p.0) refl)

end-scalars : (k : PlainElement) → scalars (end_tag (spelled k)) ≡ true
end-scalars k = both (spelled k) (62 ∷ []) (tag-scalars (spelled k) (names-of_tags k)) refl

-- TREES

module _ (sc : Bool) where
  whole-scalars : (k : PlainElement) → is_void k ≡ false → (attributes : List Attribute)
      → are_plain_attributes attributes ≡ true → (kids rest : Trees) → scalars (text_of sc kids) ≡ true → scalars (text_of sc rest) ≡ true
      → scalars (text_of sc (Element (html_name (spelled k)) attributes false kids rest)) ≡ true
  whole-scalars k void attributes plain kids rest inner more =
      ap scalars (element-written k void sc attributes kids rest)
      ∙ both (start_tag (spelled k) attributes) (text_of sc kids ++ (end_tag (spelled k) ++ text_of sc rest))
      (start-scalars k attributes plain)
      (both (text_of sc kids) (end_tag (spelled k) ++ text_of sc rest) inner
      (both (end_tag (spelled k)) (text_of sc rest) (end-scalars k) more))

  element-scalars : (place : PlainPlace) (k : PlainElement) (attributes : List Attribute)
      → are_plain_attributes attributes ≡ true → (kids rest : Trees) → IsPlain (inside place k) false kids
      → scalars (text_of sc kids) ≡ true → scalars (text_of sc rest) ≡ true
      → scalars (text_of sc (Element (html_name (spelled k)) attributes false kids rest)) ≡ true
  element-scalars place Break attributes plain kids rest is inner more =
      ap (λ kids. scalars (text_of sc (Element (html_name (spelled Break)) attributes false kids rest))) (nothing-in_break false kids is)
      ∙ (ap scalars (break-written sc attributes rest) ∙ both (start_tag (spelled Break) attributes)
      (text_of sc rest) (start-scalars Break attributes plain) more)
  element-scalars place k attributes plain kids rest is inner more = whole-scalars k refl attributes plain kids rest inner more

  trees-scalars : (trees : Trees) (place : PlainPlace) (after_text : Bool) → IsPlain place after_text trees
      → scalars (text_of sc trees) ≡ true
  unfolding written
  trees-scalars Nothing place after_text h = refl
  trees-scalars (Text text rest) place after_text h =
      let p = and_parts (not (is_empty text)) (list_all is_plain_character text) h.1 in
      both (escape text) (text_of sc rest) (text-scalars text p.1) (trees-scalars rest (place_after_text place) true h.3)
  trees-scalars (Comment text rest) place after_text h =
      both (written_comment text) (text_of sc rest)
      (both text (codes "-->") (plain-scalars text (comment-characters text h.1).1) refl) (trees-scalars rest place false h.2)
  trees-scalars (ProcessingInstruction target text rest) place after_text h = absurd h
  trees-scalars (Doctype name public_id system_id rest) place after_text h = rw h.1 (trees-scalars rest _ false h.4)
  trees-scalars (Element name attributes template kids rest) place after_text h =
      let k = h.0 in
      let w = h.1 in
      subst (λ x. scalars (text_of sc (Element x attributes template kids rest)) ≡ true) (sym w.0)
      (subst (λ x. scalars (text_of sc (Element (html_name (spelled k)) attributes x kids rest)) ≡ true) (sym w.1)
      (element-scalars place k attributes w.3 kids rest w.4 (trees-scalars kids (inside place k) false w.4)
      (trees-scalars rest (place_after_element place) false w.5)))

  -- the bytes of what is written of plain trees
  pub trees-utf8 : (trees : Trees) (place : PlainPlace) (after_text : Bool) → IsPlain place after_text trees
      → IsUtf8 (encode_utf8_all (text_of sc trees)) × (chars (encode_utf8_all (text_of sc trees)) ≡ text_of sc trees)
  trees-utf8 trees place after_text h =
      let are = trees-scalars trees place after_text h in
      ((text_of sc trees, (are, refl)), chars-encodes (text_of sc trees) are)
