-- Texts in any case: what their bytes say of their characters.
use Rattle.std.proofs.Common.{◌≡◌, ◌∙◌, ℕ, zero, suc, ◌<◌, ◌≤◌, Bool, true, false, List, [], ◌∷◌, ◌++◌, length, map, refl, sym}
use Rattle.std.proofs.Common.{ap, subst, arith, inl, inr, nat_eq, drop, get_or, Some}
use Rattle.std.specs.Prelude.{◌&&◌, ◌==◌, ◌↔◌, IsTrue, encode_utf8, encode_utf8_all}
use Rattle.std.specs.Char.{to_ascii_lowercase}
use Rattle.std.specs.List.{list_all, list_any}
use Rattle.std.specs.Str.{IsUtf8, bytes_eq, chars}
use Rattle.std.proofs.lemmas.Bool.{and_parts, cases_lt, eqb-true, ltb-true}
use Rattle.std.proofs.lemmas.Bool.Decides.{nat_tests, same_from_decides}
use Rattle.std.proofs.lemmas.List.{append-nil, length-append, map-append}
use Rattle.std.proofs.lemmas.Slice.Eq.{bytes_eq-Decides}
use Rattle.std.proofs.lemmas.Str.{char_from_byte, encode_ascii, encodes-chars, encodes_same, inside_one, len_utf8_bounds, length-encode}
use Rattle.markup.specs.Plain.{is_plain}
use Rattle.html_tokens.specs.Characters.{begins, begins_any_case, begins_by}
use Rattle.html_rules.specs.Doctypes.{begins_with_one, lowered}
use denote.Bor.{Bor}

-- what is not ASCII isn't ASCII in lower case either
pub high-lowered : (c w : ℕ) → 128 ≤ c → w < 128 → nat_eq w (to_ascii_lowercase c) ≡ false
high-lowered c w h l = grind (arith, nat_tests)

self-eq : (n : ℕ) → nat_eq n n ≡ true
self-eq n = grind (arith, nat_tests)

-- a text whose first character is not ASCII begins with no word of ASCII
begins-high : (c : ℕ) (rest : List ℕ) (w : ℕ) (ws bs : List ℕ) → bs ≡ encode_utf8 c ++ rest → 128 ≤ c → w < 128
    → begins_any_case (w ∷ ws) bs ≡ false
begins-high c rest w ws [] e high small = refl
begins-high c rest w ws (b ∷ bs) e high small =
    let above : 128 ≤ b = elim (cases_lt b 128) [
      | inl low ↦ let is : c ≡ b = char_from_byte (b ∷ bs) rest c e low (omega arith) in omega (arith, is, high, low)
      | inr up ↦ up
    ] in
    rw (high-lowered b w above small) refl

begins-encoded : (w cs : List ℕ) → is_plain w ≡ true → begins_any_case w (encode_utf8_all cs) ≡ begins_any_case w cs
begins-encoded [] cs h = refl
begins-encoded (w ∷ ws) [] h = refl
begins-encoded (w ∷ ws) (c ∷ cs) h =
    let parts = and_parts _ _ h in
    let small : w < 128 = ltb-true w 128 parts.0 in
    elim (cases_lt c 128) [
      | inl low ↦ rw (encode_ascii c low, begins-encoded ws cs parts.1) refl
      | inr high ↦ begins-high c (encode_utf8_all cs) w ws (encode_utf8 c ++ encode_utf8_all cs) refl high small
          ∙ sym (rw (high-lowered c w high small) refl)
    ]

-- the bytes of a text begin with a word where its characters do
pub begins-chars : (w bs : List ℕ) → IsUtf8 bs → is_plain w ≡ true → begins_any_case w bs ≡ begins_any_case w (chars bs)
begins-chars w bs u h = subst (λ (xs : List ℕ). begins_any_case w xs ≡ begins_any_case w (chars bs))
    (encodes-chars bs u) (begins-encoded w (chars bs) h)

some-bytes : (c : ℕ) (rest : List ℕ) → 1 ≤ length (encode_utf8 c ++ rest)
some-bytes c rest = rw (length-append (encode_utf8 c) rest, length-encode c) (omega (arith, len_utf8_bounds c))

-- a word that begins a text of as many bytes is the text
all-begun : (w cs : List ℕ) → is_plain w ≡ true → begins_any_case w cs ≡ true → length (encode_utf8_all cs) ≡ length
    w → map to_ascii_lowercase cs ≡ w
all-begun [] [] h b e = refl
all-begun [] (c ∷ cs) h b e = absurd (omega (arith, some-bytes c (encode_utf8_all cs), e))
all-begun (w ∷ ws) [] h b e = absurd cc
all-begun (w ∷ ws) (c ∷ cs) h b e =
    let parts = and_parts _ _ h in
    let small : w < 128 = ltb-true w 128 parts.0 in
    by (nat_eq w (to_ascii_lowercase c)) refl small (all-begun ws cs parts.1) b
  where
    by : (same : Bool) → nat_eq w (to_ascii_lowercase c) ≡ same → w < 128
        → (begins_any_case ws cs ≡ true → length (encode_utf8_all cs) ≡ length ws → map to_ascii_lowercase cs ≡ ws)
        → begins_by same (λ _. begins_any_case ws cs) ≡ true → map to_ascii_lowercase (c ∷ cs) ≡ w ∷ ws
    by true is small rest begun =
        let head : w ≡ to_ascii_lowercase c = eqb-true _ _ is in
        let low : c < 128 = elim (cases_lt c 128) [ inl low ↦ low | inr high ↦ absurd (cc (high-lowered c w high small)) ] in
        let lengths : length (c ∷ encode_utf8_all cs) ≡ suc (length ws) = rw (encode_ascii c low) at e in
        let same : map to_ascii_lowercase cs ≡ ws = rest begun (omega (arith, lengths)) in
        cc
    by false is small rest begun = absurd cc

begun-whole : (w cs : List ℕ) → is_plain w ≡ true → map to_ascii_lowercase cs ≡ w → (begins_any_case w cs ≡ true)
    × (length (encode_utf8_all cs) ≡ length w)
begun-whole [] [] h e = (refl, refl)
begun-whole [] (c ∷ cs) h e = absurd cc
begun-whole (w ∷ ws) [] h e = absurd cc
begun-whole (w ∷ ws) (c ∷ cs) h e =
    let parts = and_parts _ _ h in
    let small : w < 128 = ltb-true w 128 parts.0 in
    let head : to_ascii_lowercase c ≡ w = cc in
    let tail : map to_ascii_lowercase cs ≡ ws = cc in
    let below = begun-whole ws cs parts.1 tail in
    let same : nat_eq w (to_ascii_lowercase c) ≡ true = rw head (self-eq w) in
    let low : c < 128 = elim (cases_lt c 128) [ inl low ↦ low | inr high ↦ absurd (cc (high-lowered c w high small)) ] in
    (rw same below.0, rw (encode_ascii c low) (ap suc below.1))

-- a text is a word in any case if it begins with it and has as many bytes
equals-begins : (w bs : List ℕ) → IsUtf8 bs → is_plain w ≡ true
    → (length bs == length w && begins_any_case w (chars bs)) ≡ bytes_eq (map to_ascii_lowercase (chars bs)) w
equals-begins w bs u h =
    same_from_decides {P = map to_ascii_lowercase (chars bs) ≡ w}
    (length bs == length w && begins_any_case w (chars bs)) (bytes_eq (map to_ascii_lowercase (chars bs)) w) (
      λ e. let parts = and_parts _ _ e in all-begun w (chars bs) h parts.1 (ap length (encodes-chars bs u) ∙ eqb-true _ _ parts.0),
      λ e. let whole = begun-whole w (chars bs) h e in let size : length bs ≡ length w =
          sym (ap length (encodes-chars bs u)) ∙ whole.1 in rw (size, self-eq (length w)) whole.0,
    )
    (bytes_eq-Decides (map to_ascii_lowercase (chars bs)) w)

pub equals-same : (w bs : List ℕ) → IsUtf8 bs → is_plain w ≡ true → length bs ≡ length w
    → begins_any_case w (chars bs) ≡ bytes_eq (map to_ascii_lowercase (chars bs)) w
equals-same w bs u h e = let same : nat_eq (length bs) (length w) ≡ true = rw e (self-eq (length w)) in rw same at (equals-begins w bs u h)

pub equals-other : (w bs : List ℕ) → IsUtf8 bs → is_plain w ≡ true → (length bs ≡ length w → ⊥)
    → false ≡ bytes_eq (map to_ascii_lowercase (chars bs)) w
equals-other w bs u h ne = by (nat_eq (length bs) (length w)) refl where
  by : (b : Bool) → nat_eq (length bs) (length w) ≡ b → false ≡ bytes_eq (map to_ascii_lowercase (chars bs)) w
  by true e = absurd (ne (eqb-true _ _ e))
  by false e = rw e at (equals-begins w bs u h)

-- the lowered text begins with a word where the text does in any case
pub begins-lowered : (w cs : List ℕ) → begins w (map to_ascii_lowercase cs) ≡ begins_any_case w cs
begins-lowered [] cs = refl
begins-lowered (w ∷ ws) [] = refl
begins-lowered (w ∷ ws) (c ∷ cs) = ap (λ b. begins_by (nat_eq w (to_ascii_lowercase c)) (λ _. b)) (begins-lowered ws cs)

any-lowered : (cs : List ℕ) (texts : List (Bor (List ℕ)))
    → list_any (λ (t : Bor (List ℕ)). begins_any_case t.now cs) texts ≡ list_any
    (λ t. begins t (map to_ascii_lowercase cs)) (map (λ (t : Bor (List ℕ)). t.now) texts)
any-lowered cs [] = refl
any-lowered cs (t ∷ texts) = rw (begins-lowered t.now cs, any-lowered cs texts)

-- an identifier begins with one of these in any case
pub begins-one : (cs : List ℕ) (texts : List (Bor (List ℕ)))
    → list_any (λ (t : Bor (List ℕ)). begins_any_case t.now cs) texts ≡ begins_with_one (lowered (Some cs))
    (map (λ (t : Bor (List ℕ)). t.now) texts)
begins-one cs texts = any-lowered cs texts

pub all-at : {X : Type 0} (p : X → Bool) (xs : List X) (d : X) (i : ℕ) → list_all p xs ≡ true → i < length xs → p (get_or xs i d) ≡ true
all-at p [] d i h l = absurd (omega arith)
all-at p (x ∷ xs) d zero h l = (and_parts _ _ h).0
all-at p (x ∷ xs) d (suc i) h l = all-at p xs d i (and_parts _ _ h).1 (omega arith)

begins-nil : (w : List ℕ) (i : ℕ) → i < length w → begins_any_case (drop i w) [] ≡ false
begins-nil [] i l = absurd (omega arith)
begins-nil (x ∷ w) zero l = refl
begins-nil (x ∷ w) (suc i) l = begins-nil w i (omega arith)

-- a word that goes on after the end of a text does not begin it
pub begins-short : (w bs : List ℕ) (i : ℕ) → i < length w → length bs ≤ i → begins_any_case (drop i w) (drop i bs) ≡ false
begins-short [] bs i l h = absurd (omega arith)
begins-short (x ∷ w) [] zero l h = refl
begins-short (x ∷ w) (b ∷ bs) zero l h = absurd (omega arith)
begins-short (x ∷ w) [] (suc i) l h = begins-nil w i (omega arith)
begins-short (x ∷ w) (b ∷ bs) (suc i) l h = begins-short w bs i (omega arith) (omega arith)

-- bytes that are not ASCII are in lower case
lowered-high : (xs : List ℕ) → ((k : ℕ) → k < length xs → 128 ≤ get_or xs k 0) → map to_ascii_lowercase xs ≡ xs
lowered-high [] h = refl
lowered-high (x ∷ xs) h =
    let here : 128 ≤ x = h 0 (omega arith) in
    let same : to_ascii_lowercase x ≡ x = grind (arith, nat_tests) in
    rw (same, lowered-high xs (λ k l. h (suc k) (omega arith))) refl

-- the bytes of a character that is not ASCII aren't either
high-bytes : (c : ℕ) → 128 ≤ c → (k : ℕ) → k < length (encode_utf8 c) → 128 ≤ get_or (encode_utf8 c) k 0
high-bytes c h k l = elim (cases_lt (get_or (encode_utf8 c) k 0) 128) [
  | inl low ↦ let is : c ≡ get_or (encode_utf8 c) k 0 = inside_one c [] (encode_utf8 c) k
      (sym (append-nil (encode_utf8 c))) l low in absurd (omega (arith, is, low, h))
  | inr high ↦ high
]

-- the bytes of a character in lower case are those of the lowered character
lowered-character : (c : ℕ) → map to_ascii_lowercase (encode_utf8 c) ≡ encode_utf8 (to_ascii_lowercase c)
lowered-character c = elim (cases_lt c 128) [
  | inl low ↦ let below : to_ascii_lowercase c < 128 = grind (arith, nat_tests) in
      rw (encode_ascii c low, encode_ascii (to_ascii_lowercase c) below) refl
  | inr high ↦ let same : to_ascii_lowercase c ≡ c = grind (arith, nat_tests) in rw same (lowered-high (encode_utf8 c) (high-bytes c high))
]

lowered-encoded : (cs : List ℕ) → map to_ascii_lowercase (encode_utf8_all cs) ≡ encode_utf8_all (map to_ascii_lowercase cs)
lowered-encoded [] = refl
lowered-encoded (c ∷ cs) = map-append to_ascii_lowercase (encode_utf8 c) (encode_utf8_all cs)
    ∙ rw (lowered-character c, lowered-encoded cs) refl

-- a text in lower case, byte by byte, has the characters in lower case
lowered-bytes : (bs : List ℕ) → IsUtf8 bs → map to_ascii_lowercase bs ≡ encode_utf8_all (map to_ascii_lowercase (chars bs))
lowered-bytes bs u = ap (map to_ascii_lowercase) (sym (encodes-chars bs u)) ∙ lowered-encoded (chars bs)

-- texts whose bytes are the same in lower case are those whose characters are
pub same-lowered : (r : Bool) (xs bs : List ℕ) → IsUtf8 xs → IsUtf8 bs
    → (IsTrue r ↔ (map to_ascii_lowercase xs ≡ map to_ascii_lowercase bs))
    → r ≡ bytes_eq (map to_ascii_lowercase (chars xs)) (map to_ascii_lowercase (chars bs))
same-lowered r xs bs u v h =
    let is = bytes_eq-Decides (map to_ascii_lowercase (chars xs)) (map to_ascii_lowercase (chars bs)) in
    same_from_decides {P = map to_ascii_lowercase xs ≡ map to_ascii_lowercase bs} r
    (bytes_eq (map to_ascii_lowercase (chars xs)) (map to_ascii_lowercase (chars bs))) h (
      λ e. lowered-bytes xs u ∙ ap encode_utf8_all (is.0 e) ∙ sym (lowered-bytes bs v),
      λ e. is.1 (encodes_same (map to_ascii_lowercase (chars xs)) (map to_ascii_lowercase (chars bs))
          (sym (lowered-bytes xs u) ∙ e ∙ lowered-bytes bs v)),
    )
