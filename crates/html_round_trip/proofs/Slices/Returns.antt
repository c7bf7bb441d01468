-- Written forms have no carriage return, so they are their own normal text.
use Rattle.markup.specs.declared.attributes.Attribute.{Attribute}
use Rattle.std.proofs.Common.{◌≡◌, ℕ, Bool, true, false, nat_eq, List, [], ◌∷◌, ◌++◌, ◌∙◌, ap, refl, arith}
use Rattle.std.specs.Prelude.{◌&&◌, is_none, not, cond, codes}
use Rattle.std.specs.List.{list_all}
use Rattle.std.proofs.lemmas.Bool.{and_parts}
use Rattle.std.proofs.lemmas.Bool.Decides.{nat_tests}
use Rattle.html_tokens.specs.Clean.{is_clean_in_name}
use Rattle.html_tokens.specs.Laws.{has_no_null}
use Rattle.html_round_trip.proofs.Slices.Attributes.{as-written, quoted}
use Rattle.html_round_trip.specs.Slices.Forms.{is_no_text, is_tag_name, is_attribute_name, is_read_attribute, has_no_return}
use Rattle.markup.specs.Escape.{InValue, end_tag, escape, escape_value, escaped, escaped_by, escaped_in, start_tag}
use Rattle.markup.specs.Escape.{written_attribute, written_attributes, written_comment}
use Rattle.html_round_trip.proofs.Slices.Items.{clean-tag}

joined : (a b : List ℕ) → has_no_return a ≡ true → has_no_return b ≡ true → has_no_return (a ++ b) ≡ true
joined [] b h k = k
joined (c ∷ a) b h k = let p = and_parts (not (nat_eq c 13)) (has_no_return a) h in rw p.0 (joined a b p.1 k)

name-no_return : (n : List ℕ) → list_all is_clean_in_name n ≡ true → has_no_return n ≡ true
name-no_return [] h = refl
name-no_return (c ∷ n) h =
    let p = and_parts (is_clean_in_name c) (list_all is_clean_in_name n) h in
    let one : nat_eq c 13 ≡ false = grind (arith, nat_tests) in
    rw one (name-no_return n p.1)

escaped-by : (a b d e : Bool) (c : ℕ) → not (nat_eq c 13) ≡ true → has_no_return (escaped_by a b d e c) ≡ true
escaped-by true b d e c h = refl
escaped-by false true d e c h = refl
escaped-by false false true e c h = refl
escaped-by false false false true c h = refl
escaped-by false false false false c h = rw h refl

pub text-no_return : (cs : List ℕ) → has_no_return cs ≡ true → has_no_return (escape cs) ≡ true
text-no_return [] h = refl
text-no_return (c ∷ cs) h = let p = and_parts (not (nat_eq c 13)) (has_no_return cs) h in joined (escaped c)
    (escape cs) (escaped-by _ _ _ _ c p.0) (text-no_return cs p.1)

value-by : (q : Bool) (c : ℕ) → not (nat_eq c 13) ≡ true → has_no_return (cond q (codes "&quot;") (escaped c)) ≡ true
value-by true c h = refl
value-by false c h = escaped-by _ _ _ _ c h

pub value-no_return : (cs : List ℕ) → has_no_return cs ≡ true → has_no_return (escape_value cs) ≡ true
value-no_return [] h = refl
value-no_return (c ∷ cs) h = let p = and_parts (not (nat_eq c 13)) (has_no_return cs) h in
    joined (escaped_in InValue c) (escape_value cs) (value-by _ c p.0) (value-no_return cs p.1)

quoted-no_return : (n v : List ℕ) → is_attribute_name n ≡ true → has_no_return v ≡ true → has_no_return (quoted n v) ≡ true
quoted-no_return [] v h k = absurd cc
quoted-no_return (c ∷ n) v h k = joined (c ∷ n) (61 ∷ 34 ∷ (escape_value v ++ 34 ∷ [])) (name-no_return (c ∷ n) h)
    (joined (escape_value v) (34 ∷ []) (value-no_return v k) refl)

attribute-no_return : (a : Attribute) → is_read_attribute a ≡ true → has_no_return a.value ≡ true
    → has_no_return (written_attribute a) ≡ true
attribute-no_return a h k =
    let p = and_parts (is_attribute_name a.name.local && (is_none a.name.prefix && is_no_text a.name.ns)) (has_no_null a.value) h in
    let q = and_parts (is_attribute_name a.name.local) (is_none a.name.prefix && is_no_text a.name.ns) p.0 in
    ap has_no_return (as-written a q.1) ∙ quoted-no_return a.name.local a.value q.0 k

pub attributes-no_return : (attrs : List Attribute) → list_all is_read_attribute attrs ≡ true
    → list_all (λ a. has_no_return a.value) attrs ≡ true → has_no_return (written_attributes attrs) ≡ true
attributes-no_return [] h k = refl
attributes-no_return (a ∷ rest) h k =
    let p = and_parts (is_read_attribute a) (list_all is_read_attribute rest) h in
    let q = and_parts (has_no_return a.value) (list_all (λ b. has_no_return b.value) rest) k in
    joined (written_attribute a) (written_attributes rest) (attribute-no_return a p.0 q.0) (attributes-no_return rest p.1 q.1)

pub comment-no_return : (text : List ℕ) → has_no_return text ≡ true → has_no_return (written_comment text) ≡ true
comment-no_return text h = joined text (codes "-->") h refl

tag-name : (n : List ℕ) → is_tag_name n ≡ true → has_no_return n ≡ true
tag-name [] h = refl
tag-name (c ∷ n) h = name-no_return (c ∷ n) (clean-tag c n h)

pub start-no_return : (name : List ℕ) (attrs : List Attribute) → is_tag_name name ≡ true
    → list_all is_read_attribute attrs ≡ true → list_all (λ a. has_no_return a.value) attrs ≡ true
    → has_no_return (start_tag name attrs) ≡ true
start-no_return name attrs h k l = joined name (written_attributes attrs ++ 62 ∷ []) (tag-name name h)
    (joined (written_attributes attrs) (62 ∷ []) (attributes-no_return attrs k l) refl)

pub end-no_return : (name : List ℕ) → is_tag_name name ≡ true → has_no_return (end_tag name) ≡ true
end-no_return name h = joined name (62 ∷ []) (tag-name name h) refl
