-- With which bytes control characters and noncharacters begin in UTF-8.
use Rattle.std.proofs.Common.{◌≡◌, ◌∙◌, ℕ, ◌+◌, ◌/◌, ◌<◌, ◌≤◌, Bool, true, false, ◌||◌, cond, List, [], ◌∷◌, ◌++◌, length, take, drop}
use Rattle.std.proofs.Common.{ltb, get_or, refl, sym, ap, subst, arith}
use Rattle.std.specs.Prelude.{encode_utf8, encode_utf8_all, slice_index}
use Rattle.std.specs.List.{list_any}
use Rattle.std.specs.Str.{IsUtf8, IsCharBoundary, chars}
use Rattle.std.proofs.lemmas.Bool.Decides.{nat_tests}
use Rattle.std.proofs.lemmas.List.{take-append-drop, get_or-take, get_or-append-add, length-append, length-take-le}
use Rattle.std.proofs.lemmas.List.Folds.{list_any-append}
use Rattle.std.proofs.lemmas.Str.{chars-append, chars-nil, chars_past_char, encodes-chars, length-encode, len_utf8_bounds, IsUtf8-take}
use Rattle.html_tokens.specs.Forbidden.{is_forbidden}
use Rattle.html_pages.specs.Forbidden.{may_begin_forbidden}

-- the first byte of a character
abbrev lead : ℕ → ℕ
lead c = cond (ltb c 128) c (cond (ltb c 2048) (192 + c / 64) (cond (ltb c 65536) (224 + c / 4096) (240 + c / 262144)))

lead-is : (c : ℕ) (rest : List ℕ) → get_or (encode_utf8 c ++ rest) 0 0 ≡ lead c
unfolding lib.Utf8.encode
lead-is c rest = by (ltb c 128) (ltb c 2048) (ltb c 65536)
  where
    by : (one two three : Bool) → get_or (cond one (c ∷ []) (cond two ((192 + c / 64) ∷ lib.Utf8.next c ∷ [])
        (cond three ((224 + c / 4096) ∷ lib.Utf8.next (c / 64) ∷ lib.Utf8.next c ∷ [])
        ((240 + c / 262144) ∷ lib.Utf8.next (c / 4096) ∷ lib.Utf8.next (c / 64) ∷ lib.Utf8.next c ∷ []))) ++ rest) 0 0
        ≡ cond one c (cond two (192 + c / 64) (cond three (224 + c / 4096) (240 + c / 262144)))
    by true two three = refl
    by false true three = refl
    by false false true = refl
    by false false false = refl

harmless-lead : (c : ℕ) → may_begin_forbidden (lead c) ≡ false → is_forbidden c ≡ false
harmless-lead c h = grind (arith, nat_tests, h)

-- a text none of whose bytes may begin one has none
none-begins : (cs : List ℕ)
    → ((k : ℕ) → k < length (encode_utf8_all cs) → may_begin_forbidden (get_or (encode_utf8_all cs) k 0) ≡ false)
    → list_any is_forbidden cs ≡ false
none-begins [] harmless = refl
none-begins (c ∷ cs) harmless =
    let long = length-append (encode_utf8 c) (encode_utf8_all cs) in
    let some : 0 < length (encode_utf8 c ++ encode_utf8_all cs) = omega (arith, long, length-encode c, (len_utf8_bounds c).0) in
    let first : is_forbidden c ≡ false = harmless-lead c
    (subst (λ b. may_begin_forbidden b ≡ false) (lead-is c (encode_utf8_all cs)) (harmless 0 some)) in
    let rest : list_any is_forbidden cs ≡ false = none-begins cs (λ k l.
    subst (λ b. may_begin_forbidden b ≡ false) (get_or-append-add (encode_utf8 c) (encode_utf8_all cs) k 0)
    (harmless (length (encode_utf8 c) + k) (omega (arith, l, long)))) in
    rw (first, rest) refl

-- a text may be cut before a byte that may begin one
pub cut-before : (bytes : List ℕ) (at : ℕ) → at ≤ length bytes
    → (at < length bytes → may_begin_forbidden (slice_index bytes at) ≡ true) → IsCharBoundary bytes at
cut-before bytes at within begins = (within, λ below above. lead-above (slice_index bytes at) above (begins below))
  where
    lead-above : (b : ℕ) → 128 ≤ b → may_begin_forbidden b ≡ true → 192 ≤ b
    lead-above b above h = grind (arith, nat_tests, above, h)

-- what comes before it has none
pub none-before : (bytes : List ℕ) (at : ℕ) → IsUtf8 bytes → IsCharBoundary bytes at
    → ((k : ℕ) → k < at → may_begin_forbidden (slice_index bytes k) ≡ false)
    → list_any is_forbidden (chars (drop at bytes)) ≡ list_any is_forbidden (chars bytes)
none-before bytes at text cut harmless =
    let front : IsUtf8 (take at bytes) = IsUtf8-take bytes at text cut in
    let long : length (take at bytes) ≡ at = length-take-le at bytes cut.0 in
    let none : list_any is_forbidden (chars (take at bytes)) ≡ false = none-begins (chars (take at bytes))
    (rw (encodes-chars (take at bytes) front)
    (λ k l. rw (get_or-take at bytes k 0 (omega (arith, l, long))) (harmless k (omega (arith, l, long))))) in
    let parts : list_any is_forbidden (chars bytes)
    ≡ (list_any is_forbidden (chars (take at bytes)) || list_any is_forbidden (chars (drop at bytes))) =
    ap (λ bs. list_any is_forbidden (chars bs)) (sym (take-append-drop at bytes))
    ∙ ap (list_any is_forbidden) (chars-append (take at bytes) (drop at bytes) front)
    ∙ list_any-append is_forbidden (chars (take at bytes)) (chars (drop at bytes)) in
    sym (parts ∙ ap (λ b. b || list_any is_forbidden (chars (drop at bytes))) none)

-- it has one if the first character is one or there is one after it
pub any-after : (bytes rest : List ℕ) (c : ℕ) → IsUtf8 bytes → bytes ≡ encode_utf8 c ++ rest
    → list_any is_forbidden (chars bytes) ≡ (is_forbidden c || list_any is_forbidden (chars rest))
any-after bytes rest c text whole = ap (list_any is_forbidden) (chars_past_char bytes rest c text whole)

pub none-in : (bytes : List ℕ) → length bytes ≡ 0 → list_any is_forbidden (chars bytes) ≡ false
none-in [] empty = ap (list_any is_forbidden) chars-nil
none-in (b ∷ bytes) empty = absurd (omega (arith, empty))
