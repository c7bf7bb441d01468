-- Plain names, attributes and texts are among those that are read back.
use lib.Utf8.{scalar}
use Rattle.std.proofs.Common.{◌≡◌, ◌∙◌, ℕ, true, List, [], ◌∷◌, refl, sym, ap}
use Rattle.std.specs.Prelude.{◌&&◌, not, is_none, nat_eq}
use Rattle.std.specs.List.{list_all}
use Rattle.std.proofs.lemmas.Bool.{and_from, and_parts}
use Rattle.markup.specs.Attributes as markup
use Rattle.markup.specs.Attributes.{has_local_name}
use Rattle.markup.specs.declared.attributes.Attribute.{Attribute}
use Rattle.html_tokens.specs.Clean.{is_clean_in_comment}
use Rattle.html_tokens.specs.Laws.{are_distinct, has_no_null, is_not_null}
use Rattle.html_plain.specs.Elements.{spelled}
use Rattle.html_plain.specs.Grammar.{are_plain_attributes, is_comment_character, is_empty, is_plain_attribute}
use Rattle.html_plain.specs.Grammar.{is_plain_character, is_plain_comment, is_plain_name, is_plain_text, is_unprefixed}
use Rattle.html_plain.specs.declared.elements.PlainElement.{PlainElement}
use Rattle.html_plain.proofs.Names.{each-element}
use Rattle.html_round_trip.specs.Slices.Forms.{AreReadBack, has_no_return, is_attribute_name, is_no_text, is_read_attribute}
use Rattle.html_round_trip.specs.Slices.Forms.{is_read_comment, is_tag_name}

pub names-of_tags : (k : PlainElement) → is_tag_name (spelled k) ≡ true
names-of_tags k = each-element (λ k. is_tag_name (spelled k)) refl k

no-null : (t : List ℕ) → list_all is_plain_character t ≡ true → has_no_null t ≡ true
no-null [] h = refl
no-null (c ∷ t) h =
    let p = and_parts (is_plain_character c) (list_all is_plain_character t) h in
    let q = and_parts (not (nat_eq c 0) && not (nat_eq c 13)) (scalar c) p.0 in
    and_from (is_not_null c) (has_no_null t) (and_parts (not (nat_eq c 0)) (not (nat_eq c 13)) q.0).0 (no-null t p.1)

no-return : (t : List ℕ) → list_all is_plain_character t ≡ true → has_no_return t ≡ true
no-return [] h = refl
no-return (c ∷ t) h =
    let p = and_parts (is_plain_character c) (list_all is_plain_character t) h in
    let q = and_parts (not (nat_eq c 0) && not (nat_eq c 13)) (scalar c) p.0 in
    and_from (not (nat_eq c 13)) (has_no_return t) (and_parts (not (nat_eq c 0)) (not (nat_eq c 13)) q.0).1 (no-return t p.1)

pub texts-read : (text : List ℕ) → is_plain_text text ≡ true → (has_no_null text ≡ true) × (has_no_return text ≡ true)
texts-read text h = let p = and_parts (not (is_empty text)) (list_all is_plain_character text) h in (no-null text p.1, no-return text p.1)

comment-character : (c : ℕ) → is_comment_character c ≡ true → (is_clean_in_comment c ≡ true) × (is_plain_character c ≡ true)
comment-character c h =
    let p = and_parts (is_plain_character c && not (nat_eq c 45) && not (nat_eq c 60)) (not (nat_eq c 62)) h in
    let q = and_parts (is_plain_character c && not (nat_eq c 45)) (not (nat_eq c 60)) p.0 in
    let r = and_parts (is_plain_character c) (not (nat_eq c 45)) q.0 in
    let u = and_parts (not (nat_eq c 0) && not (nat_eq c 13)) (scalar c) r.0 in
    let null = (and_parts (not (nat_eq c 0)) (not (nat_eq c 13)) u.0).0 in
    (and_from _ _ (and_from _ _ (and_from _ _ r.1 q.1) p.1) null, r.0)

pub comment-characters : (t : List ℕ) → is_plain_comment t ≡ true → (is_read_comment t ≡ true) × (list_all is_plain_character t ≡ true)
comment-characters [] h = (refl, refl)
comment-characters (c ∷ t) h =
    let p = and_parts (is_comment_character c) (list_all is_comment_character t) h in
    let one = comment-character c p.0 in
    let more = comment-characters t p.1 in (
      and_from (is_clean_in_comment c) (is_read_comment t) one.0 more.0,
      and_from (is_plain_character c)
          (list_all is_plain_character t) one.1 more.1,
    )

pub comments-read : (text : List ℕ) → is_plain_comment text ≡ true → (is_read_comment text ≡ true) × (has_no_return text ≡ true)
comments-read text h = let p = comment-characters text h in (p.0, no-return text p.1)

name-read : (n : List ℕ) → is_plain_name n ≡ true → is_attribute_name n ≡ true
name-read [] h = absurd cc
name-read (c ∷ n) h = h

empty-no_text : (t : List ℕ) → is_empty t ≡ true → is_no_text t ≡ true
empty-no_text [] h = refl
empty-no_text (c ∷ t) h = absurd cc

one-read : (a : Attribute) → is_plain_attribute a ≡ true → is_read_attribute a ≡ true
one-read a h =
    let p = and_parts (is_plain_name a.name.local && is_unprefixed a.name) (list_all is_plain_character a.value) h in
    let q = and_parts (is_plain_name a.name.local) (is_unprefixed a.name) p.0 in
    let r = and_parts (is_none a.name.prefix) (is_empty a.name.ns) q.1 in
    and_from _ _ (and_from _ _ (name-read a.name.local q.0) (and_from _ _ r.0 (empty-no_text a.name.ns r.1))) (no-null a.value p.1)

each-read : (attributes : List Attribute) → list_all is_plain_attribute attributes ≡ true → list_all is_read_attribute attributes ≡ true
each-read [] h = refl
each-read (a ∷ rest) h =
    let p = and_parts (is_plain_attribute a) (list_all is_plain_attribute rest) h in
    and_from (is_read_attribute a) (list_all is_read_attribute rest) (one-read a p.0) (each-read rest p.1)

distinct-same : (attributes : List Attribute) → markup.are_distinct attributes ≡ are_distinct attributes
distinct-same [] = refl
distinct-same (a ∷ rest) = ap (λ b. not (has_local_name a.name.local rest) && b) (distinct-same rest)

pub attributes-read : (attributes : List Attribute) → are_plain_attributes attributes ≡ true → AreReadBack attributes
attributes-read attributes h =
    let p = and_parts (list_all is_plain_attribute attributes) (markup.are_distinct attributes) h in
    record { each = each-read attributes p.0; distinct = sym (distinct-same attributes) ∙ p.1 }

each-value : (attributes : List Attribute) → list_all is_plain_attribute attributes ≡ true
    → list_all (λ a. has_no_return a.value) attributes ≡ true
each-value [] h = refl
each-value (a ∷ rest) h =
    let p = and_parts (is_plain_attribute a) (list_all is_plain_attribute rest) h in
    and_from (has_no_return a.value) (list_all (λ b. has_no_return b.value) rest)
    (no-return a.value (and_parts _ (list_all is_plain_character a.value) p.0).1) (each-value rest p.1)

pub values-read : (attributes : List Attribute) → are_plain_attributes attributes ≡ true
    → list_all (λ a. has_no_return a.value) attributes ≡ true
values-read attributes h = each-value attributes (and_parts (list_all is_plain_attribute attributes) (markup.are_distinct attributes) h).0
