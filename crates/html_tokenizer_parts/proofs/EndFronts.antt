-- The letters that are held of the end tag of raw text begin its name.
use Rattle.std.proofs.Common.{◌≡◌, ◌∙◌, ℕ, ◌<◌, length, true, false, nat_eq, List, [], ◌∷◌, ◌++◌, Option, Some, None, refl, sym, ap, arith}
use Rattle.std.specs.Prelude.{◌&&◌, slice_index}
use Rattle.std.specs.Char.{to_ascii_lowercase, is_ascii_alphabetic}
use Rattle.std.specs.List.{list_all}
use Rattle.std.specs.Str.{chars, IsUtf8}
use Rattle.std.proofs.Math.Utf8.{encodes, encode}
use Rattle.std.proofs.lemmas.Bool.{and_from, eqb-true}
use Rattle.std.proofs.lemmas.Str.{encodes-chars, encode_ascii, char_from_byte}
use Rattle.html_tokens.specs.RawText.{is_fitting_end}
use Rattle.html_tokenizer_parts.specs.Words.{BeginsEnd, BeginsName, begins_any_case, begins_end, ends_raw_text, has_next, same_any_case}
use Rattle.html_tokenizer_parts.proofs.RawKinds.{next-shift, unfit-empty}
use Rattle.html_tokenizer_parts.proofs.Words.{and_parts, letter-ascii, letter-of, self-eq}

-- a name whose bytes go on by a letter at their front begins with it
first-letter : (bs rest : List ℕ) (n c : ℕ) → is_ascii_alphabetic c ≡ true → bs ≡ encode n ++ rest
    → has_next bs [] c ≡ true → nat_eq (to_ascii_lowercase n) (to_ascii_lowercase c) ≡ true
first-letter [] rest n c l e h = absurd cc
first-letter (x ∷ bs) rest n c l e h =
    let same : nat_eq (to_ascii_lowercase x) (to_ascii_lowercase c) ≡ true = (and_parts _ _ h).1 in
    let small : x < 128 = letter-ascii x (letter-of x c l (eqb-true _ _ same)) in
    let is : n ≡ x = char_from_byte (x ∷ bs) rest n e small (omega arith) in
    ap (λ n. nat_eq (to_ascii_lowercase n) (to_ascii_lowercase c)) is ∙ same

-- a name that begins with letters and goes on by one more begins with both
next-begins : (name word : List ℕ) (c : ℕ) → list_all is_ascii_alphabetic word ≡ true → is_ascii_alphabetic c ≡ true
    → has_next (encodes name) word c ≡ true → begins_any_case name word ≡ true → begins_any_case name (word ++ c ∷ []) ≡ true
next-begins [] [] c w l h f = absurd cc
next-begins [] (d ∷ word) c w l h f = absurd cc
next-begins (n ∷ name) [] c w l h f = rw (first-letter (encode n ++ encodes name) (encodes name) n c l refl h) refl
next-begins (n ∷ name) (d ∷ word) c w l h f =
    let p = and_parts _ _ w in
    let q = and_parts _ _ f in
    let small : n < 128 = letter-ascii n (letter-of n d p.0 (eqb-true _ _ q.0)) in
    let own : has_next (n ∷ encodes name) (d ∷ word) c ≡ true = rw (encode_ascii n small) at h in
    let shifted : has_next (encodes name) word c ≡ true =
    ap (λ b. b && nat_eq (to_ascii_lowercase (slice_index (encodes name) (length word))) (to_ascii_lowercase c))
    (sym (next-shift (length word) (length (encodes name)))) ∙ own in
    rw (q.0, next-begins name word c p.1 l shifted q.1) refl

begins-front : (name word : List ℕ) (c : ℕ) → begins_any_case name (word ++ c ∷ []) ≡ true → begins_end (Some name) (word ++ c ∷ []) ≡ true
begins-front name [] c h = h
begins-front name (d ∷ word) c h = h

front-begins : (name word : List ℕ) → begins_end (Some name) word ≡ true → begins_any_case name word ≡ true
front-begins name [] h = refl
front-begins name (d ∷ word) h = h

-- the same of the bytes of a name
pub name-begins : (bytes name word : List ℕ) (c : ℕ) → IsUtf8 bytes → chars bytes ≡ name
    → list_all is_ascii_alphabetic word ≡ true → is_ascii_alphabetic c ≡ true → has_next bytes word c ≡ true
    → begins_end (Some name) word ≡ true → begins_end (Some name) (word ++ c ∷ []) ≡ true
name-begins bytes name word c u e w l h f =
    let spelt : encodes name ≡ bytes = ap encodes (sym e) ∙ encodes-chars bytes u in
    begins-front name word c (next-begins name word c w l (ap (λ b. has_next b word c) spelt ∙ h) (front-begins name word f))

-- where the name does not begin with a letter, no fitting end tag stands there
pub open-apart : (last : Option (List ℕ)) (word : List ℕ) (c : ℕ) → word ≡ []
    → (ends_raw_text last word c ≡ false → (t : List ℕ) → is_fitting_end last (47 ∷ (word ++ c ∷ t)) ≡ false)
    → (t : List ℕ) → is_fitting_end last (47 ∷ c ∷ t) ≡ false
open-apart last word c e = rw e (λ h. h (unfit-empty last c))

pub same-itself : (name : List ℕ) → same_any_case name name ≡ true
same-itself [] = refl
same-itself (c ∷ cs) = rw (self-eq (to_ascii_lowercase c), same-itself cs) refl

-- a name that begins with a word is that word and the rest of the name
name-behind : (name word : List ℕ) → begins_any_case name word ≡ true → BeginsName name word
name-behind name [] h = record { more = name; whole = same-itself name }
name-behind [] (d ∷ word) h = absurd cc
name-behind (c ∷ name) (d ∷ word) h =
    let p = and_parts (nat_eq (to_ascii_lowercase c) (to_ascii_lowercase d)) (begins_any_case name word) h in
    let rest = name-behind name word p.1 in
    record {
      more = rest.more;
      whole = and_from (nat_eq (to_ascii_lowercase c) (to_ascii_lowercase d))
          (same_any_case name (word ++ rest.more)) p.0 rest.whole;
    }

-- letters that may be held begin the name
pub holds-front : (last : Option (List ℕ)) (letters : List ℕ) → begins_end last letters ≡ true → BeginsEnd last letters
holds-front last [] h = tt
holds-front None (c ∷ cs) h = absurd cc
holds-front (Some name) (c ∷ cs) h = name-behind name (c ∷ cs) h
