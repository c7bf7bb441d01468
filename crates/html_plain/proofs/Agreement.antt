-- The plain grammar by cases is what is computed.
use Rattle.std.proofs.Common.{◌≡◌, ◌∙◌, ℕ, Bool, true, false, List, [], ◌∷◌, Option, Some, None, refl, ap}
use Rattle.std.specs.Prelude.{◌&&◌, not, codes}
use Rattle.std.specs.Str.{bytes_eq}
use Rattle.std.proofs.lemmas.Bool.{and_parts, not-true}
use Rattle.std.proofs.lemmas.Slice.Eq.{bytes_eq-Decides}
use Rattle.markup.specs.Trees.{Trees, Nothing, Text, Comment, ProcessingInstruction, Doctype, Element}
use Rattle.markup.specs.declared.attributes.Attribute.{Attribute}
use Rattle.markup.specs.declared.names.QualName.{QualName}
use Rattle.html_plain.specs.Elements.{place_after_element, place_after_text, element_of, holds, html_name, inside, spelled}
use Rattle.html_plain.specs.Elements.{takes_comments, text_kind}
use Rattle.html_plain.specs.Grammar.{IsPlain, are_plain_attributes, is_empty, is_first, is_plain, is_plain_comment}
use Rattle.html_plain.specs.Grammar.{is_plain_doctype, is_plain_start, is_plain_text, is_some_and, takes_text}
use Rattle.html_plain.specs.declared.elements.PlainElement.{PlainElement}
use Rattle.html_plain.specs.declared.place.PlainPlace.{PlainPlace}
use Rattle.html_plain.specs.declared.place.PlainPlace.TheVariants as place
use Rattle.html_plain.proofs.Names.{element-named, named-element}

first-is : (pl : PlainPlace) → is_first pl ≡ true → pl ≡ place.BeforeDoctype
first-is place.BeforeDoctype h = refl
first-is place.BeforeRoot h = absurd cc
first-is place.AfterRoot h = absurd cc
first-is place.BeforeHead h = absurd cc
first-is place.AfterHead h = absurd cc
first-is place.BeforeBody h = absurd cc
first-is place.AfterBody h = absurd cc
first-is place.InHead h = absurd cc
first-is place.AfterTitle h = absurd cc
first-is place.InTitle h = absurd cc
first-is place.InFlow h = absurd cc
first-is (place.InLine in_link) h = absurd cc
first-is place.InList h = absurd cc
first-is place.InTable h = absurd cc
first-is place.InTableBody h = absurd cc
first-is place.InRow h = absurd cc
first-is place.InBreak h = absurd cc

empty-is : (t : List ℕ) → is_empty t ≡ true → t ≡ []
empty-is [] h = refl
empty-is (c ∷ t) h = absurd cc

-- COMPUTED, BY CASES

element-cases : (pl : PlainPlace) (name : QualName) (attributes : List Attribute) (template : Bool)
    (kids rest : Trees) (o : Option PlainElement) → element_of name ≡ o
    → ((k : PlainElement) → is_plain (inside pl k) false kids ≡ true → IsPlain (inside pl k) false kids)
    → (is_plain (place_after_element pl) false rest ≡ true → IsPlain (place_after_element pl) false rest)
    → is_some_and o (λ k. is_plain_start pl attributes template k
    && (is_plain (inside pl k) false kids && is_plain (place_after_element pl) false rest)) ≡ true
    → IsPlain pl false (Element name attributes template kids rest)
element-cases pl name attributes template kids rest None e f g h = absurd cc
element-cases pl name attributes template kids rest (Some k) e f g h =
    let p = and_parts (is_plain_start pl attributes template k)
    (is_plain (inside pl k) false kids && is_plain (place_after_element pl) false rest) h in
    let q = and_parts (is_plain (inside pl k) false kids) (is_plain (place_after_element pl) false rest) p.1 in
    let r = and_parts (holds pl k) (not template && are_plain_attributes attributes) p.0 in
    let u = and_parts (not template) (are_plain_attributes attributes) r.1 in
    (k, (element-named name k e, not-true template u.0, r.0, u.1, f k q.0, g q.1))

pub computed-cases : (pl : PlainPlace) (after_text : Bool) (trees : Trees) → is_plain pl after_text trees ≡ true
    → IsPlain pl after_text trees
unfolding is_plain
computed-cases pl after_text Nothing h = h
computed-cases pl after_text (Text text rest) h =
    let p = and_parts (not after_text && (is_plain_text text && takes_text (text_kind pl) text))
    (is_plain (place_after_text pl) true rest) h in
    let q = and_parts (not after_text) (is_plain_text text && takes_text (text_kind pl) text) p.0 in
    let r = and_parts (is_plain_text text) (takes_text (text_kind pl) text) q.1 in
    (not-true after_text q.0, r.0, r.1, computed-cases (place_after_text pl) true rest p.1)
computed-cases pl after_text (Comment text rest) h =
    let p = and_parts (takes_comments pl && is_plain_comment text) (is_plain pl false rest) h in
    let q = and_parts (takes_comments pl) (is_plain_comment text) p.0 in
    (q.0, q.1, computed-cases pl false rest p.1)
computed-cases pl after_text (ProcessingInstruction target text rest) h = absurd cc
computed-cases pl after_text (Doctype name public_id system_id rest) h =
    let p = and_parts (is_first pl && is_plain_doctype name public_id system_id) (is_plain place.BeforeRoot false rest) h in
    let q = and_parts (is_first pl) (is_plain_doctype name public_id system_id) p.0 in
    let r = and_parts (bytes_eq name (codes "html")) (is_empty public_id && is_empty system_id) q.1 in
    let u = and_parts (is_empty public_id) (is_empty system_id) r.1 in (
      first-is pl q.0,
      (bytes_eq-Decides name (codes "html")).0 r.0,
      empty-is public_id u.0,
      empty-is system_id u.1,
      computed-cases place.BeforeRoot false rest p.1,
    )
computed-cases pl after_text (Element name attributes template kids rest) h =
    element-cases pl name attributes template kids rest (element_of name) refl
    (λ k i. computed-cases (inside pl k) false kids i) (λ i. computed-cases (place_after_element pl) false rest i) h

-- BY CASES, COMPUTED

element-computed : (pl : PlainPlace) (name : QualName) (attributes : List Attribute) (template : Bool)
    (inner outer : PlainElement → Bool) (k : PlainElement) → name ≡ html_name (spelled k) → template ≡ false
    → holds pl k ≡ true → are_plain_attributes attributes ≡ true → inner k ≡ true → outer k ≡ true
    → is_some_and (element_of name) (λ k. is_plain_start pl attributes template k && (inner k && outer k)) ≡ true
element-computed pl name attributes template inner outer k e t h a i o =
    ap (λ n. is_some_and (element_of n) (λ k. is_plain_start pl attributes template k && (inner k && outer k))) e
    ∙ (ap (λ n. is_some_and n (λ k. is_plain_start pl attributes template k && (inner k && outer k)))
    (named-element k) ∙ (rw (t, h, a, i, o) refl))

pub cases-computed : (pl : PlainPlace) (after_text : Bool) (trees : Trees) → IsPlain pl after_text trees
    → is_plain pl after_text trees ≡ true
unfolding is_plain
cases-computed pl after_text Nothing h = h
cases-computed pl after_text (Text text rest) h = rw (h.0, h.1, h.2) (cases-computed (place_after_text pl) true rest h.3)
cases-computed pl after_text (Comment text rest) h = rw (h.0, h.1) (cases-computed pl false rest h.2)
cases-computed pl after_text (ProcessingInstruction target text rest) h = absurd h
cases-computed pl after_text (Doctype name public_id system_id rest) h = rw (h.0, h.1, h.2, h.3)
    (cases-computed place.BeforeRoot false rest h.4)
cases-computed pl after_text (Element name attributes template kids rest) h =
    let k = h.0 in
    let w = h.1 in
    element-computed pl name attributes template (λ k. is_plain (inside pl k) false kids)
    (λ k. is_plain (place_after_element pl) false rest) k w.0 w.1 w.2 w.3
    (cases-computed (inside pl k) false kids w.4) (cases-computed (place_after_element pl) false rest w.5)
