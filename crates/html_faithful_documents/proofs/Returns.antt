-- What is written of faithful trees has no U+000D, so it is its own normal text (HTML Standard, section 13.2.3.5).
use Rattle.std.proofs.Common.{◌≡◌, ◌∙◌, ℕ, Bool, true, false, nat_eq, not, List, [], ◌∷◌, ◌++◌, refl, ap, arith}
use Rattle.std.specs.Prelude.{◌&&◌, ◌||◌, codes, cond, map}
use Rattle.std.specs.Char.{to_ascii_lowercase}
use Rattle.std.specs.List.{list_all}
use Rattle.std.proofs.lemmas.Bool.{and_parts}
use Rattle.std.proofs.lemmas.Bool.Decides.{nat_tests}
use Rattle.markup.specs.Escape.{end_tag, escape, escape_value, start_tag, written_attribute, written_attributes, written_comment}
use Rattle.markup.specs.Trees.{Entry, Trees, Nothing, Text, Comment, ProcessingInstruction, Doctype, Element, end_of, entry_under, written}
use Rattle.markup.specs.declared.attributes.Attribute.{Attribute}
use Rattle.html_tokens.specs.Laws.{are_distinct}
use Rattle.html_round_trip.specs.Slices.Forms.{has_no_return}
use Rattle.html_round_trip.proofs.Slices.Returns.{comment-no_return, text-no_return, value-no_return}
use Rattle.html_faithful.specs.Forms.{are_told, has_no_end, is_attribute_name, is_comment_text, is_kept}
use Rattle.html_faithful.specs.Forms.{is_odd_in_name, is_tag_name}
use Rattle.html_faithful.specs.Forms.{lowered, told_attribute}
use Rattle.html_tokens.specs.Characters.{begins}
use Rattle.html_faithful_documents.specs.Written.{AreForms}
use Rattle.html_faithful_documents.proofs.Names.{ArePlain, IsPlain, plain-first, tag-plain}
use Rattle.html_faithful_documents.proofs.StartTags.{as-written, quoted, written_name}

pub joined : (a b : List ℕ) → has_no_return a ≡ true → has_no_return b ≡ true → has_no_return (a ++ b) ≡ true
joined [] b h k = k
joined (c ∷ a) b h k = let p = and_parts (not (nat_eq c 13)) (has_no_return a) h in rw p.0 (joined a b p.1 k)

kept-returns : (text : List ℕ) → is_kept text ≡ true → has_no_return text ≡ true
kept-returns [] h = refl
kept-returns (c ∷ cs) h =
    let p = and_parts (not (nat_eq c 0) && not (nat_eq c 13)) (is_kept cs) h in
    let q = and_parts (not (nat_eq c 0)) (not (nat_eq c 13)) p.0 in
    rw q.1 (kept-returns cs p.1)

plain-one : (c : ℕ) → IsPlain c → not (nat_eq c 13) ≡ true
plain-one c h = grind (arith, nat_tests)

plain-returns : (n : List ℕ) → ArePlain n → has_no_return n ≡ true
plain-returns [] h = refl
plain-returns (c ∷ n) h =
    let p = and_parts (not (is_odd_in_name (to_ascii_lowercase c))) (list_all (λ c. not (is_odd_in_name c)) (lowered n)) h in
    rw (plain-one c p.0) (plain-returns n p.1)

tag-returns : (n : List ℕ) → is_tag_name (lowered n) ≡ true → has_no_return n ≡ true
tag-returns [] h = refl
tag-returns (c ∷ n) h = plain-returns (c ∷ n) (tag-plain c n h)

name-returns : (n : List ℕ) → is_attribute_name (lowered n) ≡ true → has_no_return n ≡ true
name-returns [] h = refl
name-returns (c ∷ n) h = plain-returns (c ∷ n) (plain-first (c ∷ n) h)

quoted-returns : (n v : List ℕ) → has_no_return n ≡ true → has_no_return v ≡ true → has_no_return (quoted n v) ≡ true
quoted-returns n v h k =
    joined n (61 ∷ 34 ∷ (escape_value v ++ 34 ∷ [])) h (joined (escape_value v) (34 ∷ []) (value-no_return v k) refl)

attributes-return : (attributes : List Attribute)
    → list_all (λ a. is_attribute_name a.name.local && is_kept a.value) (map told_attribute attributes) ≡ true
    → has_no_return (written_attributes attributes) ≡ true
attributes-return [] h = refl
attributes-return (a ∷ rest) h =
    let x = told_attribute a in
    let p = and_parts (is_attribute_name x.name.local && is_kept a.value)
    (list_all (λ a. is_attribute_name a.name.local && is_kept a.value) (map told_attribute rest)) h in
    let q = and_parts (is_attribute_name x.name.local) (is_kept a.value) p.0 in
    joined (written_attribute a) (written_attributes rest)
    (ap has_no_return (as-written a) ∙ quoted-returns (written_name a) a.value (name-returns (written_name a) q.0)
    (kept-returns a.value q.1))
    (attributes-return rest p.1)

start-returns : (name : List ℕ) (attributes : List Attribute) → is_tag_name (lowered name) ≡ true
    → are_told (map told_attribute attributes) ≡ true → has_no_return (start_tag name attributes) ≡ true
start-returns name attributes h k =
    let told = map told_attribute attributes in
    let p = and_parts (list_all (λ a. is_attribute_name a.name.local && is_kept a.value) told) (are_distinct told) k in
    joined name (written_attributes attributes ++ 62 ∷ []) (tag-returns name h)
    (joined (written_attributes attributes) (62 ∷ []) (attributes-return attributes p.0) refl)

end-by : (b : Bool) (name : List ℕ) → is_tag_name (lowered name) ≡ true → has_no_return (cond b [] (end_tag name)) ≡ true
end-by true name h = refl
end-by false name h = joined name (62 ∷ []) (tag-returns name h) refl

start-by : (b : Bool) (name : List ℕ) (attributes : List Attribute) → is_tag_name (lowered name) ≡ true
    → are_told (map told_attribute attributes) ≡ true → has_no_return (cond b [] (start_tag name attributes)) ≡ true
start-by true name attributes h k = refl
start-by false name attributes h k = start-returns name attributes h k

text-by : (b : Bool) (text : List ℕ) → is_kept text ≡ true → has_no_return (cond b text (escape text)) ≡ true
text-by true text h = kept-returns text h
text-by false text h = text-no_return text (kept-returns text h)

pub comment-returns : (text : List ℕ) → is_comment_text text ≡ true → has_no_return (written_comment text) ≡ true
comment-returns text h =
    let p = and_parts (is_kept text && has_no_end text)
    (not (begins (codes ">") (text ++ codes "-->") || begins (codes "->") (text ++ codes "-->"))) h in
    comment-no_return text (kept-returns text (and_parts (is_kept text) (has_no_end text) p.0).0)

pub trees-return : (scripting : Bool) (under : Entry) (trees : Trees) → AreForms trees
    → has_no_return (written scripting under trees) ≡ true
unfolding written
trees-return scripting under Nothing f = refl
trees-return scripting under (Text text rest) f =
    joined (cond under.raw_text text (escape text)) (written scripting under rest) (text-by under.raw_text text f.1)
    (trees-return scripting under rest f.2)
trees-return scripting under (Comment text rest) f =
    joined (written_comment text) (written scripting under rest) (comment-returns text f.0) (trees-return scripting under rest f.1)
trees-return scripting under (ProcessingInstruction target text rest) f = absurd f
trees-return scripting under (Doctype name public_id system_id rest) f = absurd f
trees-return scripting under (Element name attributes template kids rest) f =
    let own = entry_under scripting under name in
    let later = joined (end_of own name) (written scripting under rest) (end-by own.ignores_children name.local f.0)
    (trees-return scripting under rest f.3) in
    joined (cond under.ignores_children [] (start_tag name.local attributes))
    (written scripting own kids ++ (end_of own name ++ written scripting under rest))
    (start-by under.ignores_children name.local attributes f.0 f.1)
    (joined (written scripting own kids) (end_of own name ++ written scripting under rest) (trees-return scripting own kids f.2) later)
