-- Words of letters, as characters and as bytes.
use Rattle.std.proofs.Common.{◌≡◌, ◌∙◌, ℕ, ◌≤◌, ◌<◌, length, Bool, true, false, nat_eq, List, [], ◌∷◌, ◌++◌, map, refl, sym, ap, arith}
use Rattle.std.specs.Prelude.{◌&&◌, nat_lt, slice_index, codes, IsTrue, ◌↔◌}
use Rattle.std.specs.Char.{to_ascii_lowercase, is_ascii_alphabetic}
use Rattle.std.specs.List.{list_all}
use Rattle.std.specs.Str.{chars, IsUtf8, IsAscii}
use Rattle.std.proofs.Math.Utf8.{encodes, encode}
use Rattle.std.proofs.lemmas.Bool.Decides.{nat_tests, same_from_decides}
use Rattle.std.proofs.lemmas.Bool.{eqb-true}
use Rattle.std.proofs.lemmas.Str.{encodes-chars, encode_ascii, char_from_byte, encodes-IsAscii, length-encode, len_utf8_bounds}
use Rattle.std.proofs.lemmas.Str.Ascii.{IsAscii-nil, IsAscii-cons}
use Rattle.html_tokenizer_parts.specs.Words.{has_next, same_any_case}

-- both of what holds together
pub and_parts : (a b : Bool) → (a && b) ≡ true → (a ≡ true) × (b ≡ true)
and_parts true b h = (refl, h)
and_parts false b h = absurd cc

pub letter-ascii : (c : ℕ) → is_ascii_alphabetic c ≡ true → c < 128
letter-ascii c h = grind (arith, nat_tests)

-- what has a letter's lower case is a letter
pub letter-of : (c d : ℕ) → is_ascii_alphabetic d ≡ true → to_ascii_lowercase c ≡ to_ascii_lowercase d → is_ascii_alphabetic c ≡ true
letter-of c d h e = grind (arith, nat_tests)

pub letters-ascii : (w : List ℕ) → list_all is_ascii_alphabetic w ≡ true → IsAscii w
letters-ascii [] h = IsAscii-nil
letters-ascii (c ∷ w) h =
    let p = and_parts _ _ h in
    IsAscii-cons c w (letter-ascii c p.0) (letters-ascii w p.1)

-- a word of letters is its own bytes
pub letters-bytes : (bs : List ℕ) → IsUtf8 bs → list_all is_ascii_alphabetic (chars bs) ≡ true → bs ≡ chars bs
letters-bytes bs u h = sym (encodes-chars bs u) ∙ encodes-IsAscii (chars bs) (letters-ascii (chars bs) h)

cons_same : (a b : ℕ) (x y : List ℕ) → a ≡ b → x ≡ y → (a ∷ x) ≡ (b ∷ y)
cons_same a b x y e f = rw (e, f) refl

cons_parts : (a b : ℕ) (x y : List ℕ) → (a ∷ x) ≡ (b ∷ y) → (a ≡ b) × (x ≡ y)
cons_parts a b x y e = (cc, cc)

same-bytes : (name w : List ℕ) → list_all is_ascii_alphabetic w ≡ true → same_any_case name w ≡ true
    → map to_ascii_lowercase (encodes name) ≡ map to_ascii_lowercase w
same-bytes [] [] h e = refl
same-bytes [] (d ∷ w) h e = absurd cc
same-bytes (c ∷ name) [] h e = absurd cc
same-bytes (c ∷ name) (d ∷ w) h e =
    let p = and_parts _ _ h in
    let q = and_parts _ _ e in
    let same : to_ascii_lowercase c ≡ to_ascii_lowercase d = eqb-true _ _ q.0 in
    let small : c < 128 = letter-ascii c (letter-of c d p.0 same) in
    rw (encode_ascii c small) (cons_same _ _ _ _ same (same-bytes name w p.1 q.1))

lowered-small : (x d : ℕ) → is_ascii_alphabetic d ≡ true → to_ascii_lowercase x ≡ to_ascii_lowercase d → x < 128
lowered-small x d h e = letter-ascii x (letter-of x d h e)

-- bytes that begin with a letter in any case begin with that character
first-char : (bs rest : List ℕ) (c d : ℕ) (w : List ℕ) → is_ascii_alphabetic d ≡ true → bs ≡ encode c ++ rest
    → map to_ascii_lowercase bs ≡ map to_ascii_lowercase (d ∷ w) → c < 128
first-char [] rest c d w h e f = absurd cc
first-char (x ∷ bs) rest c d w h e f =
    let small : x < 128 = lowered-small x d h (cons_parts _ _ _ _ f).0 in
    let same : c ≡ x = char_from_byte (x ∷ bs) rest c e small (omega arith) in
    rw same small

not_nothing : (a rest : List ℕ) → 1 ≤ length a → map to_ascii_lowercase (a ++ rest) ≡ [] → ⊥
not_nothing [] rest l e = omega arith
not_nothing (x ∷ a) rest l e = cc

some_byte : (c : ℕ) (rest : List ℕ) → map to_ascii_lowercase (encode c ++ rest) ≡ [] → ⊥
some_byte c rest e =
    let l : 1 ≤ length (encode c) = rw (length-encode c) (len_utf8_bounds c).0 in
    not_nothing (encode c) rest l e

pub self-eq : (n : ℕ) → nat_eq n n ≡ true
self-eq n = grind (arith, nat_tests)

same-chars : (name w : List ℕ) → list_all is_ascii_alphabetic w ≡ true → map to_ascii_lowercase (encodes name) ≡ map
    to_ascii_lowercase w → same_any_case name w ≡ true
same-chars [] [] h e = refl
same-chars [] (d ∷ w) h e = absurd cc
same-chars (c ∷ name) [] h e = absurd (some_byte c (encodes name) e)
same-chars (c ∷ name) (d ∷ w) h e =
    let p = and_parts _ _ h in
    let small : c < 128 = first-char (encode c ++ encodes name) (encodes name) c d w p.0 refl e in
    let f : map to_ascii_lowercase (c ∷ encodes name) ≡ map to_ascii_lowercase (d ∷ w) = rw (encode_ascii c small) at e in
    let q = cons_parts _ _ _ _ f in
    rw (q.0, same-chars name w p.1 q.1, self-eq (to_ascii_lowercase d)) refl

-- what a test of bytes says of the letters
pub letters-same : (result : Bool) (name bs w : List ℕ) → IsUtf8 name → IsUtf8 bs → chars bs ≡ w
    → list_all is_ascii_alphabetic w ≡ true
    → (IsTrue result ↔ (map to_ascii_lowercase name ≡ map to_ascii_lowercase bs)) → result ≡ same_any_case (chars name) w
letters-same result name bs w v u e h test =
    let own : bs ≡ w = letters-bytes bs u (ap (list_all is_ascii_alphabetic) e ∙ h) ∙ e in
    let spelt : encodes (chars name) ≡ name = encodes-chars name v in
    same_from_decides {P = map to_ascii_lowercase name ≡ map to_ascii_lowercase bs} result (same_any_case (chars name) w) (test.0, test.1) (
      λ s. ap (map to_ascii_lowercase) (sym spelt) ∙ same-bytes (chars name) w h s ∙ ap (map to_ascii_lowercase) (sym own),
      λ s. same-chars (chars name) w h (ap (map to_ascii_lowercase) spelt ∙ s ∙ ap (map to_ascii_lowercase) own),
    )

-- the name "script", read from its bytes
pub script-chars : chars (codes "script") ≡ codes "script"
unfolding chars
script-chars = refl

-- a word of letters, as its bytes
pub own-letters : (bytes word : List ℕ) → IsUtf8 bytes → chars bytes ≡ word → list_all is_ascii_alphabetic word ≡ true → bytes ≡ word
own-letters bytes word u e h = letters-bytes bytes u (ap (list_all is_ascii_alphabetic) e ∙ h) ∙ e

-- what a name has after a word, by the place
pub next-none : (name word bytes : List ℕ) (c : ℕ) → bytes ≡ word → length name ≤ length bytes → false ≡ has_next name word c
next-none name word bytes c e l =
    let short : length name ≤ length word = rw (← e) l in
    let none : nat_lt (length word) (length name) ≡ false = grind (arith, nat_tests) in
    sym (ap (λ b. b && nat_eq (to_ascii_lowercase (slice_index name (length word))) (to_ascii_lowercase c)) none)

pub next-some : (name word bytes : List ℕ) (c : ℕ) → bytes ≡ word → length bytes < length name
    → nat_eq (to_ascii_lowercase (slice_index name (length bytes))) (to_ascii_lowercase c) ≡ has_next name word c
next-some name word bytes c e l =
    let some : nat_lt (length bytes) (length name) ≡ true = grind (arith, nat_tests) in
    sym (ap (λ b. b && nat_eq (to_ascii_lowercase (slice_index name (length bytes))) (to_ascii_lowercase c)) some)
    ∙ ap (λ w. has_next name w c) e
