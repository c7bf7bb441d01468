-- The items of written forms.
use Rattle.std.proofs.Common.{◌≡◌, ◌∙◌, ℕ, suc, ◌+◌, Bool, true, false, nat_eq, List, [], ◌∷◌, ◌++◌, length, Option, Some, refl, ap, arith}
use Rattle.std.proofs.Math.Seq.{take-append_seam, drop-append_seam}
use Rattle.std.specs.Prelude.{codes, map}
use Rattle.std.specs.Char.{is_ascii_lowercase, is_ascii_alphabetic, to_ascii_lowercase}
use Rattle.std.specs.List.{list_all}
use Rattle.std.proofs.lemmas.Bool.{and_parts}
use Rattle.std.proofs.lemmas.Bool.Decides.{nat_tests}
use Rattle.html_tokens.specs.declared.tags.Tag.{Tag}
use Rattle.html_tokens.specs.declared.tags.TagKind.{TagKind}
use Rattle.html_tokens.specs.declared.tags.TagKind.TheVariants.{StartTag, EndTag}
use Rattle.html_tokens.specs.declared.token.Token.TheVariants.{CharacterTokens}
use Rattle.html_tokens.specs.Characters
use Rattle.html_tokens.specs.Clean.{is_clean_in_name}
use Rattle.html_tokens.specs.Item.{Stand, InTag, moved, marked, longer, longer_by, silent, clean_item}
use Rattle.html_tokens.specs.Items.{item}
use Rattle.html_tokens.specs.Laws.{in_data, has_no_null, ReadsEscapes}
use Rattle.html_tokens.specs.Table.{Row}
use Rattle.html_tokens.specs.Tags
use Rattle.html_round_trip.proofs.Slices.References.{amp-faultless, lt-faultless, gt-faultless, nbsp-faultless}
use Rattle.html_round_trip.specs.Slices.Forms.{is_letter_name, is_tag_name, in_tag, in_rcdata, TextPlace, Data, Escapable}
use Rattle.html_round_trip.specs.Slices.Forms.{in_text, doctype_token}
use Rattle.markup.specs.Escape.{escape_value}
use Rattle.html_round_trip.proofs.Slices.Names.{ends-tag, ends-attribute, null, odd-in_name, odd-first, white, slash, close}
use Rattle.html_round_trip.proofs.Slices.Names.{lowered-one, lower-clean, lower-letter, run-name, none-odd, lowered-name}
use Rattle.html_round_trip.proofs.Slices.Names.{longer_by-silent}
use Rattle.html_round_trip.proofs.Slices.Values.{value-whole}

-- NAMES OF TAGS

-- a tag's name, with what ends it after
name-after : (st : Stand) (kind : TagKind) (n : List ℕ) (x : ℕ) (u : List ℕ) → list_all is_clean_in_name n ≡ true
    → Characters.ends_tag_name x ≡ true
    → Tags.name_after st (Tags.named kind []) (n ++ x ∷ u) ≡ silent (length n) (moved st (InTag (Tags.named kind n)))
name-after st kind n x u h k =
    rw (
      run-name Characters.ends_tag_name ends-tag n x u h k,
      take-append_seam n (x ∷ u),
      none-odd Characters.is_null null n h,
      lowered-name n h,
    ) refl

pub clean-tag : (c : ℕ) (n : List ℕ) → is_tag_name (c ∷ n) ≡ true → list_all is_clean_in_name (c ∷ n) ≡ true
clean-tag c n h =
    let p = and_parts (is_ascii_lowercase c) (list_all is_clean_in_name n) h in
    rw (lower-clean c p.0) p.1

pub start-item : (rows : List Row) (cdata : Bool) (last : Option (List ℕ)) (c : ℕ) (n : List ℕ) (x : ℕ) (u : List ℕ)
    → is_tag_name (c ∷ n) ≡ true → Characters.ends_tag_name x ≡ true
    → item rows cdata (in_data last) 60 ((c ∷ n) ++ x ∷ u) ≡ silent (suc (length (c ∷ n))) (in_tag last (Tags.named StartTag (c ∷ n)))
start-item rows cdata last c n x u h k =
    let p = and_parts (is_ascii_lowercase c) (list_all is_clean_in_name n) h in
    rw (lower-letter c p.0) (ap (λ i. longer i) (name-after (in_data last) StartTag (c ∷ n) x u (clean-tag c n h) k))

pub end-item : (rows : List Row) (cdata : Bool) (last : Option (List ℕ)) (c : ℕ) (n : List ℕ) (x : ℕ) (u : List ℕ)
    → is_tag_name (c ∷ n) ≡ true → Characters.ends_tag_name x ≡ true
    → item rows cdata (in_data last) 60 (47 ∷ ((c ∷ n) ++ x ∷ u)) ≡ silent (suc (suc (length (c ∷ n))))
    (in_tag last (Tags.named EndTag (c ∷ n)))
end-item rows cdata last c n x u h k =
    let p = and_parts (is_ascii_lowercase c) (list_all is_clean_in_name n) h in
    rw (lower-letter c p.0) (ap (λ i. longer (longer i)) (name-after (in_data last) EndTag (c ∷ n) x u (clean-tag c n h) k))

-- ATTRIBUTES

quoted-is : (rows : List Row) → ReadsEscapes rows → (st : Stand) (tag : Tag) (name v u : List ℕ)
    → has_no_null v ≡ true → Tags.lacks_space u ≡ false
    → Tags.quoted_after rows 34 st tag name [] (escape_value v ++ 34 ∷ u) ≡ silent (suc (length (escape_value v)))
    (moved st (InTag (Tags.with_attribute tag name v)))
quoted-is rows reads st tag name v u h k =
    rw (value-whole rows reads v u h, drop-append_seam (escape_value v) (34 ∷ u), k) refl

attribute-after : (rows : List Row) → ReadsEscapes rows → (st : Stand) (tag : Tag) (c : ℕ) (n v u : List ℕ)
    → list_all is_clean_in_name n ≡ true → has_no_null v ≡ true → Tags.lacks_space u ≡ false
    → Tags.attribute_after rows st tag (c ∷ []) (n ++ 61 ∷ 34 ∷ (escape_value v ++ 34 ∷ u)) ≡ silent
    (length n + suc (suc (suc (length (escape_value v))))) (moved st (InTag (Tags.with_attribute tag (c ∷ n) v)))
attribute-after rows reads st tag c n v u h k l =
    let rest = 61 ∷ 34 ∷ (escape_value v ++ 34 ∷ u) in
    rw (
      run-name Characters.ends_attribute_name ends-attribute n 61 (34 ∷ (escape_value v ++ 34 ∷ u)) h refl,
      take-append_seam n rest,
      none-odd Tags.is_odd_in_name odd-in_name n h,
      lowered-name n h,
      drop-append_seam n rest,
    )
    (ap (λ i. longer_by (length n) (longer (longer i))) (quoted-is rows reads st tag (c ∷ n) v u k l) ∙ longer_by-silent (length n) _ _)

pub attribute-item : (rows : List Row) → ReadsEscapes rows → (cdata : Bool) (last : Option (List ℕ)) (tag : Tag)
    (c : ℕ) (n v u : List ℕ) → list_all is_clean_in_name (c ∷ n) ≡ true → has_no_null v ≡ true → Tags.lacks_space u ≡ false
    → item rows cdata (in_tag last tag) c (n ++ 61 ∷ 34 ∷ (escape_value v ++ 34 ∷ u)) ≡ silent
    (suc (length n + suc (suc (suc (length (escape_value v)))))) (in_tag last (Tags.with_attribute tag (c ∷ n) v))
attribute-item rows reads cdata last tag c n v u h k l =
    let p = and_parts (is_clean_in_name c) (list_all is_clean_in_name n) h in
    rw (white c p.0, slash c p.0, close c p.0, odd-first c p.0, lowered-one c p.0)
    (ap (λ i. marked false (longer i)) (attribute-after rows reads (in_tag last tag) tag c n v u p.1 k l))

-- TEXT

pub plain-item : (rows : List Row) (cdata : Bool) (place : TextPlace) (last : Option (List ℕ)) (c : ℕ) (u : List ℕ)
    → nat_eq c 60 ≡ false → nat_eq c 38 ≡ false → nat_eq c 0 ≡ false
    → item rows cdata (in_text place last) c u ≡ clean_item (CharacterTokens (c ∷ [])) 1 (in_text place last)
plain-item rows cdata Data last c u e f g = rw (e, f, g) refl
plain-item rows cdata Escapable last c u e f g = rw (e, f, g) refl

pub amp-item : (rows : List Row) → ReadsEscapes rows → (cdata : Bool) (place : TextPlace) (last : Option (List ℕ)) (u : List ℕ)
    → item rows cdata (in_text place last) 38 (codes "amp;" ++ u) ≡ clean_item (CharacterTokens (38 ∷ [])) 5 (in_text place last)
amp-item rows reads cdata Data last u = rw (amp-faultless rows reads u, reads.amp false u) refl
amp-item rows reads cdata Escapable last u = rw (amp-faultless rows reads u, reads.amp false u) refl

pub lt-item : (rows : List Row) → ReadsEscapes rows → (cdata : Bool) (place : TextPlace) (last : Option (List ℕ)) (u : List ℕ)
    → item rows cdata (in_text place last) 38 (codes "lt;" ++ u) ≡ clean_item (CharacterTokens (60 ∷ [])) 4 (in_text place last)
lt-item rows reads cdata Data last u = rw (lt-faultless rows reads u, reads.lt false u) refl
lt-item rows reads cdata Escapable last u = rw (lt-faultless rows reads u, reads.lt false u) refl

pub gt-item : (rows : List Row) → ReadsEscapes rows → (cdata : Bool) (place : TextPlace) (last : Option (List ℕ)) (u : List ℕ)
    → item rows cdata (in_text place last) 38 (codes "gt;" ++ u) ≡ clean_item (CharacterTokens (62 ∷ [])) 4 (in_text place last)
gt-item rows reads cdata Data last u = rw (gt-faultless rows reads u, reads.gt false u) refl
gt-item rows reads cdata Escapable last u = rw (gt-faultless rows reads u, reads.gt false u) refl

pub nbsp-item : (rows : List Row) → ReadsEscapes rows → (cdata : Bool) (place : TextPlace) (last : Option (List ℕ)) (u : List ℕ)
    → item rows cdata (in_text place last) 38 (codes "nbsp;" ++ u) ≡ clean_item (CharacterTokens (0xA0 ∷ [])) 6 (in_text place last)
nbsp-item rows reads cdata Data last u = rw (nbsp-faultless rows reads u, reads.nbsp false u) refl
nbsp-item rows reads cdata Escapable last u = rw (nbsp-faultless rows reads u, reads.nbsp false u) refl

-- THE FITTING END TAG

pub letters-of : (n : List ℕ) → list_all is_ascii_lowercase n ≡ true → list_all is_ascii_alphabetic n ≡ true
letters-of [] h = refl
letters-of (c ∷ n) h =
    let p = and_parts (is_ascii_lowercase c) (list_all is_ascii_lowercase n) h in
    rw (lower-letter c p.0) (letters-of n p.1)

-- a name of letters is a tag's name
letters-clean : (n : List ℕ) → list_all is_ascii_lowercase n ≡ true → list_all is_clean_in_name n ≡ true
letters-clean [] h = refl
letters-clean (c ∷ n) h =
    let p = and_parts (is_ascii_lowercase c) (list_all is_ascii_lowercase n) h in
    rw (lower-clean c p.0) (letters-clean n p.1)

pub letters-tag : (c : ℕ) (n : List ℕ) → is_letter_name (c ∷ n) ≡ true → is_tag_name (c ∷ n) ≡ true
letters-tag c n h =
    let p = and_parts (is_ascii_lowercase c) (list_all is_ascii_lowercase n) h in
    rw p.0 (letters-clean n p.1)

lower-same : (c : ℕ) → is_ascii_lowercase c ≡ true → nat_eq (to_ascii_lowercase c) (to_ascii_lowercase c) ≡ true
lower-same c h = grind (arith, nat_tests)

pub begins-own : (n : List ℕ) (x : ℕ) (u : List ℕ) → list_all is_ascii_lowercase n ≡ true
    → Characters.ends_tag_name x ≡ true → Characters.begins_name (map to_ascii_lowercase n) (n ++ x ∷ u) ≡ true
begins-own [] x u h k = k
begins-own (c ∷ n) x u h k =
    let p = and_parts (is_ascii_lowercase c) (list_all is_ascii_lowercase n) h in
    rw (lower-same c p.0) (begins-own n x u p.1 k)

pub fitting-item : (rows : List Row) (cdata : Bool) (c : ℕ) (n : List ℕ) (x : ℕ) (u : List ℕ)
    → is_tag_name (c ∷ n) ≡ true → list_all is_ascii_lowercase (c ∷ n) ≡ true → Characters.ends_tag_name x ≡ true
    → item rows cdata (in_rcdata (Some (c ∷ n))) 60 (47 ∷ ((c ∷ n) ++ x ∷ u)) ≡ silent (suc (suc (length (c ∷ n))))
    (in_tag (Some (c ∷ n)) (Tags.named EndTag (c ∷ n)))
fitting-item rows cdata c n x u h l k =
    rw (letters-of (c ∷ n) l, begins-own (c ∷ n) x u l k)
    (ap (λ i. longer (longer i)) (name-after (in_rcdata (Some (c ∷ n))) EndTag (c ∷ n) x u (clean-tag c n h) k))

pub doctype-item : (rows : List Row) (cdata : Bool) (last : Option (List ℕ)) (u : List ℕ)
    → item rows cdata (in_data last) 60 (codes "!DOCTYPE html>" ++ u) ≡ clean_item (doctype_token (codes "html")) 15 (in_data last)
doctype-item rows cdata last u = refl
