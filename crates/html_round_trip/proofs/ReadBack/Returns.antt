-- What is written of plain trees has no carriage return, so it is its own normal text.
use Rattle.std.proofs.Common.{◌≡◌, ◌∙◌, ℕ, Bool, true, false, List, [], ◌∷◌, ◌++◌, refl, ap, sym, subst}
use Rattle.std.specs.Prelude.{nat_eq, not}
use Rattle.std.proofs.lemmas.Bool.{and_parts}
use Rattle.markup.specs.Escape.{end_tag, escape, start_tag, written_comment}
use Rattle.markup.specs.Trees.{Trees, Nothing, Text, Comment, ProcessingInstruction, Doctype, Element, written}
use Rattle.markup.specs.declared.attributes.Attribute.{Attribute}
use Rattle.html_plain.specs.Elements.{place_after_element, place_after_text, html_name, inside, spelled}
use Rattle.html_plain.specs.Grammar.{IsPlain, are_plain_attributes}
use Rattle.html_plain.specs.Laws.{is_void, text_of}
use Rattle.html_plain.specs.declared.elements.PlainElement.{PlainElement}
use Rattle.html_plain.specs.declared.elements.PlainElement.TheVariants.{Break}
use Rattle.html_plain.specs.declared.place.PlainPlace.{PlainPlace}
use Rattle.html_plain.proofs.WrittenForms.{break-written, element-written}
use Rattle.html_round_trip.specs.Slices.Forms.{has_no_return}
use Rattle.html_round_trip.proofs.Slices.PlainForms.{attributes-read, comments-read, names-of_tags, texts-read, values-read}
use Rattle.html_round_trip.proofs.Slices.Returns.{comment-no_return, end-no_return, start-no_return, text-no_return}
use Rattle.html_tokens.specs.NormalText.{normal_text}
use Rattle.html_tokens.proofs.NewlineLaws.{newlines-own}
use Rattle.html_round_trip.proofs.ReadBack.Forms.{nothing-in_break}

joined : (a b : List ℕ) → has_no_return a ≡ true → has_no_return b ≡ true → has_no_return (a ++ b) ≡ true
joined [] b h k = k
joined (c ∷ a) b h k = let p = and_parts (not (nat_eq c 13)) (has_no_return a) h in rw p.0 (joined a b p.1 k)

start-none : (k : PlainElement) (attrs : List Attribute) → are_plain_attributes attrs ≡ true
    → has_no_return (start_tag (spelled k) attrs) ≡ true
start-none k attrs plain = start-no_return (spelled k) attrs (names-of_tags k) (attributes-read attrs plain).each (values-read attrs plain)

end-none : (k : PlainElement) → has_no_return (end_tag (spelled k)) ≡ true
end-none k = end-no_return (spelled k) (names-of_tags k)

module _ (sc : Bool) where
  whole-none : (k : PlainElement) → is_void k ≡ false → (attrs : List Attribute) → are_plain_attributes attrs ≡ true
      → (kids rest : Trees) → has_no_return (text_of sc kids) ≡ true → has_no_return (text_of sc rest) ≡ true
      → has_no_return (text_of sc (Element (html_name (spelled k)) attrs false kids rest)) ≡ true
  whole-none k void attrs plain kids rest inner more =
      ap has_no_return (element-written k void sc attrs kids rest)
      ∙ joined (start_tag (spelled k) attrs) (text_of sc kids ++ (end_tag (spelled k) ++ text_of sc rest)) (start-none k attrs plain)
      (joined (text_of sc kids) (end_tag (spelled k) ++ text_of sc rest) inner
      (joined (end_tag (spelled k)) (text_of sc rest) (end-none k) more))

  element-none : (place : PlainPlace) (k : PlainElement) (attrs : List Attribute)
      → are_plain_attributes attrs ≡ true → (kids rest : Trees) → IsPlain (inside place k) false kids
      → has_no_return (text_of sc kids) ≡ true → has_no_return (text_of sc rest) ≡ true
      → has_no_return (text_of sc (Element (html_name (spelled k)) attrs false kids rest)) ≡ true
  element-none place Break attrs plain kids rest is inner more =
      ap (λ kids. has_no_return (text_of sc (Element (html_name (spelled Break)) attrs false kids rest))) (nothing-in_break false kids is)
      ∙ (ap has_no_return (break-written sc attrs rest) ∙ joined (start_tag (spelled Break) attrs) (text_of sc rest)
      (start-none Break attrs plain) more)
  element-none place k attrs plain kids rest is inner more = whole-none k refl attrs plain kids rest inner more

  pub trees-none : (trees : Trees) (place : PlainPlace) (after_text : Bool) → IsPlain place after_text trees
      → has_no_return (text_of sc trees) ≡ true
  unfolding written
  trees-none Nothing place after_text h = refl
  trees-none (Text text rest) place after_text h = joined (escape text) (text_of sc rest)
      (text-no_return text (texts-read text h.1).1) (trees-none rest (place_after_text place) true h.3)
  trees-none (Comment text rest) place after_text h = joined (written_comment text) (text_of sc rest)
      (comment-no_return text (comments-read text h.1).1) (trees-none rest place false h.2)
  trees-none (ProcessingInstruction target text rest) place after_text h = absurd h
  trees-none (Doctype name public_id system_id rest) place after_text h = rw h.1 (trees-none rest _ false h.4)
  trees-none (Element name attributes template kids rest) place after_text h =
      let k = h.0 in
      let w = h.1 in
      subst (λ x. has_no_return (text_of sc (Element x attributes template kids rest)) ≡ true) (sym w.0)
      (subst (λ x. has_no_return (text_of sc (Element (html_name (spelled k)) attributes x kids rest)) ≡ true) (sym w.1)
      (element-none place k attributes w.3 kids rest w.4 (trees-none kids (inside place k) false w.4)
      (trees-none rest (place_after_element place) false w.5)))

-- a text that begins with "<" has no byte order mark at its front
pub own-normal : (b : Bool) (t : List ℕ) → has_no_return (60 ∷ t) ≡ true → normal_text b (60 ∷ t) ≡ 60 ∷ t
own-normal true t h = newlines-own (60 ∷ t) h
own-normal false t h = newlines-own (60 ∷ t) h
