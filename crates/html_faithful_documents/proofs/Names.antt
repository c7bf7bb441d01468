-- Names of tags and attributes, as they are read.
use Rattle.std.proofs.Common.{◌≡◌, ◌∙◌, ℕ, zero, suc, ◌+◌, true, false, not, List, [], ◌∷◌, ◌++◌, length, refl}
use Rattle.std.proofs.Common.{ap, arith}
use Rattle.std.proofs.Common.{take, Option, None}
use Rattle.std.proofs.Math.Seq.{take-append_seam}
use Rattle.std.specs.Prelude.{◌&&◌}
use Rattle.std.specs.Char.{is_ascii_alphabetic, is_ascii_lowercase, to_ascii_lowercase}
use Rattle.std.specs.List.{list_all}
use Rattle.std.proofs.lemmas.Bool.{and_parts}
use Rattle.std.proofs.lemmas.Bool.Decides.{nat_tests}
use Rattle.html_tokens.specs.Characters
use Rattle.html_tokens.specs.Characters.{ends_attribute_name, ends_tag_name, run}
use Rattle.html_tokens.specs.Item.{InTag, Item, Stand, longer, longer_by, moved, silent}
use Rattle.html_tokens.specs.Tags
use Rattle.html_tokens.specs.declared.tags.TagKind.{TagKind}
use Rattle.html_tokens.specs.declared.token.Token.{Token}
use Rattle.html_faithful.specs.Forms.{is_error_in_name, is_odd_in_name, is_tag_name, lowered}
use Rattle.html_faithful_documents.specs.Slices.{IsItem}

-- ITEMS

pub silent-item : (n : ℕ) (st : Stand) → IsItem (silent n st) None n st
silent-item n st = record { gives = refl; takes = refl; leaves = refl }

pub longer-item : (i : Item) (token : Option Token) (n : ℕ) (st : Stand) → IsItem i token n st → IsItem (longer i) token (suc n) st
longer-item i token n st h = record { gives = h.gives; takes = ap suc h.takes; leaves = h.leaves }

pub longer_by-item : (k : ℕ) (i : Item) (token : Option Token) (n m : ℕ) (st : Stand) → IsItem i token n st → k + n ≡ m
    → IsItem (longer_by k i) token m st
longer_by-item zero i token n m st h e = record { gives = h.gives; takes = h.takes ∙ (omega arith); leaves = h.leaves }
longer_by-item (suc k) i token n zero st h e = absurd (omega arith)
longer_by-item (suc k) i token n (suc m) st h e =
    longer-item (longer_by k i) token m st (longer_by-item k i token n m st h (omega arith))

-- CHARACTERS

abbrev pub IsPlain : ℕ → Type 0
IsPlain c = not (is_odd_in_name (to_ascii_lowercase c)) ≡ true

abbrev pub IsPlainFirst : ℕ → Type 0
IsPlainFirst c = (not (is_odd_in_name (to_ascii_lowercase c)) && not (is_error_in_name (to_ascii_lowercase c))) ≡ true

pub tag-goes_on : (c : ℕ) → IsPlain c → ends_tag_name c ≡ false
tag-goes_on c h = grind (arith, nat_tests)

pub lowers-one : (c : ℕ) → IsPlain c → Characters.lowered c ≡ to_ascii_lowercase c
lowers-one c h = grind (arith, nat_tests)

pub attribute-goes_on : (c : ℕ) → IsPlainFirst c → ends_attribute_name c ≡ false
attribute-goes_on c h = grind (arith, nat_tests)

pub first-letter : (c : ℕ) → is_ascii_lowercase (to_ascii_lowercase c) ≡ true → is_ascii_alphabetic c ≡ true
first-letter c h = grind (arith, nat_tests)

pub first-plain : (c : ℕ) → is_ascii_lowercase (to_ascii_lowercase c) ≡ true → IsPlain c
first-plain c h = grind (arith, nat_tests)

-- ALL OF A NAME

abbrev pub ArePlain : List ℕ → Type 0
ArePlain n = list_all (λ c. not (is_odd_in_name c)) (lowered n) ≡ true

abbrev pub ArePlainFirst : List ℕ → Type 0
ArePlainFirst n = list_all (λ c. not (is_odd_in_name c) && not (is_error_in_name c)) (lowered n) ≡ true

pub run-name : (n : List ℕ) (x : ℕ) (u : List ℕ) → ArePlain n → ends_tag_name x ≡ true → run ends_tag_name (n ++ x ∷ u) ≡ length n
run-name [] x u h k = rw k refl
run-name (c ∷ n) x u h k =
    let p = and_parts (not (is_odd_in_name (to_ascii_lowercase c))) (list_all (λ c. not (is_odd_in_name c)) (lowered n)) h in
    rw (tag-goes_on c p.0) (ap suc (run-name n x u p.1 k))

pub run-attribute : (n : List ℕ) (x : ℕ) (u : List ℕ) → ArePlainFirst n → ends_attribute_name x ≡ true
    → run ends_attribute_name (n ++ x ∷ u) ≡ length n
run-attribute [] x u h k = rw k refl
run-attribute (c ∷ n) x u h k =
    let p = and_parts (not (is_odd_in_name (to_ascii_lowercase c)) && not (is_error_in_name (to_ascii_lowercase c)))
    (list_all (λ c. not (is_odd_in_name c) && not (is_error_in_name c)) (lowered n)) h in
    rw (attribute-goes_on c p.0) (ap suc (run-attribute n x u p.1 k))

pub lowers-name : (n : List ℕ) → ArePlain n → Characters.all_lowered n ≡ lowered n
lowers-name [] h = refl
lowers-name (c ∷ n) h =
    let p = and_parts (not (is_odd_in_name (to_ascii_lowercase c))) (list_all (λ c. not (is_odd_in_name c)) (lowered n)) h in
    rw (lowers-one c p.0, lowers-name n p.1) refl

pub plain-first : (n : List ℕ) → ArePlainFirst n → ArePlain n
plain-first [] h = refl
plain-first (c ∷ n) h =
    let odd = not (is_odd_in_name (to_ascii_lowercase c)) in
    let p = and_parts (odd && not (is_error_in_name (to_ascii_lowercase c)))
    (list_all (λ c. not (is_odd_in_name c) && not (is_error_in_name c)) (lowered n)) h in
    let q = and_parts odd (not (is_error_in_name (to_ascii_lowercase c))) p.0 in
    rw q.0 (plain-first n p.1)

-- NAMES OF TAGS

pub tag-plain : (c : ℕ) (n : List ℕ) → is_tag_name (lowered (c ∷ n)) ≡ true → ArePlain (c ∷ n)
tag-plain c n h =
    let p = and_parts (is_ascii_lowercase (to_ascii_lowercase c)) (list_all (λ c. not (is_odd_in_name c)) (lowered n)) h in
    rw (first-plain c p.0) p.1

-- a tag's name, with what ends it after
pub name-item : (st : Stand) (kind : TagKind) (n : List ℕ) (x : ℕ) (u : List ℕ) → ArePlain n → ends_tag_name x ≡ true
    → IsItem (Tags.name_after st (Tags.named kind []) (n ++ x ∷ u)) None (length n) (moved st (InTag (Tags.named kind (lowered n))))
name-item st kind n x u h k =
    let run_is : run ends_tag_name (n ++ x ∷ u) ≡ length n = run-name n x u h k in
    let taken : Characters.all_lowered (take (run ends_tag_name (n ++ x ∷ u)) (n ++ x ∷ u)) ≡ lowered n =
    ap (λ m. Characters.all_lowered (take m (n ++ x ∷ u))) run_is
    ∙ (ap Characters.all_lowered (take-append_seam n (x ∷ u)) ∙ lowers-name n h) in
    record { gives = refl; takes = run_is; leaves = ap (λ name. moved st (InTag (Tags.named kind name))) taken }
