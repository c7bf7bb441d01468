-- Escaping byte by byte, run by run, and what it has to do with escaping characters.
use Rattle.std.proofs.Common.{◌≡◌, ◌≢◌, ◌∙◌, ℕ, zero, suc, ◌+◌, ◌-◌, ◌/◌, ◌%◌, ◌<◌, ◌≤◌, Bool, true, false, cond, List, [], ◌∷◌}
use Rattle.std.proofs.Common.{◌++◌, length, slice_index, take, drop, nat_eq, nat_lt, refl, sym, ap, ap₂, arith, rules, append_assoc}
use Rattle.std.proofs.Common.{encode_utf8_all, length-drop, inl, inr, ◌⊎◌}
use Rattle.std.specs.Prelude.{◌&&◌}
use Rattle.std.proofs.lemmas.Bool.{cases_Bool, cases_eq, cases_lt, eq-eqb, ne_eqb}
use Rattle.std.proofs.lemmas.Bool.Decides.{nat_tests}
use Rattle.std.proofs.lemmas.Grind.{common_steps}
use Rattle.std.proofs.lemmas.List.{get_or-drop, get_or_past, append-nil, drop_all, take_all}
use Rattle.std.proofs.lemmas.Str.{encodes-append}
use Rattle.std.proofs.Math.Seq.{drop-cons}
use Rattle.markup.specs.Escape.{Mode, escape_in, escaped_in}
use Rattle.markup.specs.Escape.Mode.{InText, InValue}
use lib.Utf8.{encode, next}
use Rattle.html_serialize.specs.Bytes.{IsNext, escape_bytes, in_value, is_replaced, place_after, reference_of, written_through}

drop_drop : (xs : List ℕ) (n m : ℕ) → drop m (drop n xs) ≡ drop (n + m) xs
drop_drop xs n m = search (rules, common_steps)

-- bytes that are written as they are
run_of : (mode : Mode) (n : ℕ) (bs : List ℕ) → n ≤ length bs
    → ((i : ℕ) → i < n → is_replaced mode (slice_index bs i) (slice_index bs (suc i)) ≡ false)
    → escape_bytes mode false bs ≡ take n bs ++ escape_bytes mode false (drop n bs)
run_of mode zero bs within clear = refl
run_of mode (suc n) [] within clear = absurd (omega arith)
run_of mode (suc n) (b ∷ bs) within clear =
    let first = clear 0 (omega arith) in
    rw first (ap (λ (xs : List ℕ). b ∷ xs) (run_of mode n bs (omega arith) (λ i less. clear (suc i) (omega arith))))

-- a run up to the next place at which something is replaced
pub escape_bytes-run : (mode : Mode) (bs : List ℕ) (start at : ℕ) → start ≤ at → IsNext (is_replaced mode) bs start
    at → escape_bytes mode false (drop start bs) ≡ take (at - start) (drop start bs) ++ escape_bytes mode false (drop at bs)
escape_bytes-run mode bs start at low is =
    let within = is.within in
    run_of mode (at - start) (drop start bs) (let n = length-drop start bs in omega arith) (λ i less.
    let here = get_or-drop start bs i 0 in
    let behind = get_or-drop start bs (suc i) 0 in
    let next : start + suc i ≡ suc (start + i) = omega arith in
    rw (here, behind, next) (is.clear (start + i) (omega arith) (omega arith)))
    ∙ ap (λ (xs : List ℕ). take (at - start) (drop start bs) ++ escape_bytes mode false xs)
    (drop_drop bs start (at - start) ∙ (let e : start + (at - start) ≡ at = omega arith in ap (λ (n : ℕ). drop n bs) e))

-- bytes in which nothing is replaced
pub escape_bytes-clear : (mode : Mode) (bs : List ℕ) (end : ℕ) → end ≡ length bs → IsNext (is_replaced mode) bs 0 end
    → escape_bytes mode false bs ≡ bs
escape_bytes-clear mode bs end is next =
    run_of mode end bs (omega (arith, is)) (λ i less. next.clear i (omega arith) less)
    ∙ ap₂ (λ (xs ys : List ℕ). xs ++ escape_bytes mode false ys) (take_all end bs (omega (arith, is))) (drop_all end bs (omega (arith, is)))
    ∙ append-nil bs

lt-true : (a b : ℕ) → a < b → nat_lt a b ≡ true
lt-true a b less = grind (arith, nat_tests)

lt-false : (a b : ℕ) → b ≤ a → nat_lt a b ≡ false
lt-false a b more = grind (arith, nat_tests)

-- a character that is escaped, with its second byte if it has one
pub escape_bytes-reference : (mode : Mode) (bs : List ℕ) (at : ℕ) → at < length bs
    → is_replaced mode (slice_index bs at) (slice_index bs (suc at)) ≡ true
    → escape_bytes mode false (drop at bs) ≡ reference_of (slice_index bs at) ++ escape_bytes mode false (drop (place_after bs at) bs)
escape_bytes-reference mode bs at below passes =
    rw (drop-cons bs at 0 below)
    (let next : slice_index (drop (suc at) bs) 0 ≡ slice_index bs (suc at) = get_or-drop (suc at) bs 0 0
    ∙ (let e : suc at + 0 ≡ suc at = omega arith in ap (slice_index bs) e) in
    rw (next, passes, lt-true at (length bs) below)
    (ap (λ (xs : List ℕ). reference_of (slice_index bs at) ++ xs) (behind (nat_eq (slice_index bs at) 0xC2))))
  where
    one : (xs : List ℕ) → escape_bytes mode true xs ≡ escape_bytes mode false (drop 1 xs)
    one [] = refl
    one (x ∷ xs) = refl

    past : drop 1 (drop (suc at) bs) ≡ drop (at + 2) bs
    past = drop_drop bs (suc at) 1 ∙ (let e : suc at + 1 ≡ at + 2 = omega arith in ap (λ (n : ℕ). drop n bs) e)

    behind : (lead : Bool) → escape_bytes mode lead (drop (suc at) bs) ≡ escape_bytes mode false (drop (cond lead (at + 2) (at + 1)) bs)
    behind true = one (drop (suc at) bs) ∙ ap (escape_bytes mode false) past
    behind false = let e : suc at ≡ at + 1 = omega arith in ap (λ (n : ℕ). escape_bytes mode false (drop n bs)) e

-- what is written from a place through the next escaped character, and the rest
pub escape_bytes-through : (mode : Mode) (bs : List ℕ) (start at : ℕ) → start ≤ at → IsNext (is_replaced mode) bs start at
    → escape_bytes mode false (drop start bs) ≡ written_through bs start at ++ escape_bytes mode false (drop (place_after bs at) bs)
escape_bytes-through mode bs start at low is =
    escape_bytes-run mode bs start at low is
    ∙ ap (λ (xs : List ℕ). take (at - start) (drop start bs) ++ xs) (elim (cases_Bool (nat_lt at (length bs))) [
      | inl below ↦ let less : at < length bs = grind (arith, nat_tests) in escape_bytes-reference mode bs at less
          (is.passes less) ∙ rw below refl
      | inr end ↦ rw end refl
    ])
    ∙ sym (append_assoc (take (at - start) (drop start bs))
    (cond (nat_lt at (length bs)) (reference_of (slice_index bs at)) []) (escape_bytes mode false (drop (place_after bs at) bs)))

and_false : (b : Bool) → (b && false) ≡ false
and_false true = refl
and_false false = refl

unreplaced : (mode : Mode) (b next : ℕ) → b ≢ 0x3C → b ≢ 0x3E → b ≢ 0x26 → (in_value mode && nat_eq b 0x22) ≡ false
    → (nat_eq b 0xC2 && nat_eq next 0xA0) ≡ false → is_replaced mode b next ≡ false
unreplaced mode b next lt gt amp quote space = rw (ne_eqb b 0x3C lt, ne_eqb b 0x3E gt, ne_eqb b 0x26 amp, quote, space) refl

-- a byte of a longer character
as_is : (mode : Mode) (b : ℕ) (t : List ℕ) → 128 ≤ b → (b ≡ 0xC2 → slice_index t 0 ≡ 0xA0 → ⊥)
    → escape_bytes mode false (b ∷ t) ≡ b ∷ escape_bytes mode false t
as_is mode b t high apart =
    rw (unreplaced mode b (slice_index t 0) (omega arith) (omega arith) (omega arith)
    (rw (ne_eqb b 0x22 (omega arith)) (and_false (in_value mode))) space) refl
  where
    space : (nat_eq b 0xC2 && nat_eq (slice_index t 0) 0xA0) ≡ false
    space =
        elim (cases_eq b 0xC2) [
          | inl same ↦ rw (ne_eqb (slice_index t 0) 0xA0 (apart same)) (and_false (nat_eq b 0xC2))
          | inr other ↦ rw (ne_eqb b 0xC2 other) refl
        ]

-- the bytes of a character, escaped, before others
abbrev OfChar : Mode → ℕ → List ℕ → Type 0
OfChar mode c t = escape_bytes mode false (encode c ++ t) ≡ encode_utf8_all (escaped_in mode c) ++ escape_bytes mode false t

of_amp : (mode : Mode) (t : List ℕ) → OfChar mode 0x26 t
unfolding encode
of_amp InText t = refl
of_amp InValue t = refl

of_lt : (mode : Mode) (t : List ℕ) → OfChar mode 0x3C t
unfolding encode
of_lt InText t = refl
of_lt InValue t = refl

of_gt : (mode : Mode) (t : List ℕ) → OfChar mode 0x3E t
unfolding encode
of_gt InText t = refl
of_gt InValue t = refl

of_quote : (mode : Mode) (t : List ℕ) → OfChar mode 0x22 t
unfolding encode
of_quote InText t = refl
of_quote InValue t = refl

of_space : (mode : Mode) (t : List ℕ) → OfChar mode 0xA0 t
unfolding encode
of_space InText t = refl
of_space InValue t = refl

-- a character that is not escaped
pub record IsUnescaped (c : ℕ) : Type 0 where
  pub amp : c ≢ 0x26
  pub lt : c ≢ 0x3C
  pub gt : c ≢ 0x3E
  pub quote : c ≢ 0x22
  pub space : c ≢ 0xA0

pub escaped-plain : (mode : Mode) (c : ℕ) → IsUnescaped c → escaped_in mode c ≡ c ∷ []
escaped-plain InText c is = rw (ne_eqb c 0x26 is.amp, ne_eqb c 0x3C is.lt, ne_eqb c 0x3E is.gt, ne_eqb c 0xA0 is.space) refl
escaped-plain InValue c is = rw (
  ne_eqb c 0x22 is.quote,
  ne_eqb c 0x26 is.amp,
  ne_eqb c 0x3C is.lt,
  ne_eqb c 0x3E is.gt,
  ne_eqb c 0xA0 is.space,
) refl

-- its bytes are written as they are
bytes-plain : (mode : Mode) (c : ℕ) (t : List ℕ) → IsUnescaped c → escape_bytes mode false (encode c ++ t) ≡ encode
    c ++ escape_bytes mode false t
unfolding encode
bytes-plain mode c t is =
    elim (cases_lt c 128) [
      | inl one ↦
          rw (lt-true c 128 one)
          (rw (unreplaced mode c (slice_index t 0) is.lt is.gt is.amp
          (rw (ne_eqb c 0x22 is.quote) (and_false (in_value mode))) (rw (ne_eqb c 0xC2 (omega arith)) refl)) refl)
      | inr more ↦ elim (cases_lt c 2048) [
        | inl two ↦
            rw (lt-false c 128 more, lt-true c 2048 two)
            (as_is mode (192 + c / 64) (next c ∷ t) (omega arith) (λ lead space. is.space (of_two lead space))
            ∙ ap (λ (xs : List ℕ). (192 + c / 64) ∷ xs) (behind c t))
        | inr longer ↦ elim (cases_lt c 65536) [
          | inl three ↦
              rw (lt-false c 128 more, lt-false c 2048 longer, lt-true c 65536 three)
              (as_is mode (224 + c / 4096) (next (c / 64) ∷ next c ∷ t) (omega arith)
              (λ (lead : 224 + c / 4096 ≡ 194) _. absurd (omega arith))
              ∙ ap (λ (xs : List ℕ). (224 + c / 4096) ∷ xs) (behind (c / 64) (next c ∷ t)
              ∙ ap (λ (xs : List ℕ). next (c / 64) ∷ xs) (behind c t)))
          | inr four ↦
              rw (lt-false c 128 more, lt-false c 2048 longer, lt-false c 65536 four)
              (as_is mode (240 + c / 262144) (next (c / 4096) ∷ next (c / 64) ∷ next c ∷ t) (omega arith)
              (λ (lead : 240 + c / 262144 ≡ 194) _. absurd (omega arith))
              ∙ ap (λ (xs : List ℕ). (240 + c / 262144) ∷ xs) (behind (c / 4096) (next (c / 64) ∷ next c ∷ t)
              ∙ ap (λ (xs : List ℕ). next (c / 4096) ∷ xs) (behind (c / 64) (next c ∷ t)
              ∙ ap (λ (xs : List ℕ). next (c / 64) ∷ xs) (behind c t))))
        ]
      ]
    ]
  where
    of_two : 192 + c / 64 ≡ 194 → 128 + c % 64 ≡ 160 → c ≡ 160
    of_two lead space = omega arith

    behind : (bits : ℕ) (rest : List ℕ) → escape_bytes mode false (next bits ∷ rest) ≡ next bits ∷ escape_bytes mode false rest
    behind bits rest = as_is mode (next bits) rest (omega arith) (λ (lead : 128 + bits % 64 ≡ 194) _. absurd (omega arith))

of_plain : (mode : Mode) (c : ℕ) (t : List ℕ) → IsUnescaped c → OfChar mode c t
of_plain mode c t is =
    bytes-plain mode c t is ∙ ap (λ (xs : List ℕ). xs ++ escape_bytes mode false t)
    (sym (append-nil (encode c)) ∙ ap encode_utf8_all (sym (escaped-plain mode c is)))

of_char : (mode : Mode) (c : ℕ) (t : List ℕ) → OfChar mode c t
of_char mode c t =
    elim (cases_eq c 0x26) [
      | inl same ↦ rw same (of_amp mode t)
      | inr amp ↦ elim (cases_eq c 0x3C) [
        | inl same ↦ rw same (of_lt mode t)
        | inr lt ↦ elim (cases_eq c 0x3E) [
          | inl same ↦ rw same (of_gt mode t)
          | inr gt ↦ elim (cases_eq c 0x22) [
            | inl same ↦ rw same (of_quote mode t)
            | inr quote ↦ elim (cases_eq c 0xA0) [
              | inl same ↦ rw same (of_space mode t)
              | inr space ↦ of_plain mode c t (record { amp = amp; lt = lt; gt = gt; quote = quote; space = space })
            ]
          ]
        ]
      ]
    ]

-- escaped bytes are the bytes of escaped characters
pub escape_bytes-encodes : (mode : Mode) (cs : List ℕ) → escape_bytes mode false (encode_utf8_all cs) ≡ encode_utf8_all (escape_in mode cs)
escape_bytes-encodes mode [] = refl
escape_bytes-encodes mode (c ∷ cs) =
    of_char mode c (encode_utf8_all cs)
    ∙ ap (λ (bytes : List ℕ). encode_utf8_all (escaped_in mode c) ++ bytes) (escape_bytes-encodes mode cs)
    ∙ sym (encodes-append (escaped_in mode c) (escape_in mode cs))

-- what is found at the end of a search lies within the bytes, with its second byte if it has one
pub place_after-within : (mode : Mode) (bs : List ℕ) (start at : ℕ) → IsNext (is_replaced mode) bs start at → place_after bs at ≤ length bs
place_after-within mode bs start at is =
    elim (cases_lt at (length bs)) [
      | inl below ↦ rw (lt-true at (length bs) below) (by_lead (is.passes below) below (cases_eq (slice_index bs at) 0xC2))
      | inr end ↦ rw (lt-false at (length bs) end) is.within
    ]
  where
    second : (mode : Mode) (b n : ℕ) → is_replaced mode b n ≡ true → b ≡ 0xC2 → n ≡ 0xA0
    second mode b n passes lead =
        elim (cases_eq n 0xA0) [
          | inl same ↦ same
          | inr other ↦
              let none : is_replaced mode b n ≡ false = unreplaced mode b n (omega arith) (omega arith)
              (omega arith) (rw (ne_eqb b 0x22 (omega arith)) (and_false (in_value mode)))
              (rw (ne_eqb n 0xA0 other) (and_false (nat_eq b 0xC2))) in
              absurd cc
        ]

    by_lead : is_replaced mode (slice_index bs at) (slice_index bs (suc at)) ≡ true → at < length bs
        → (slice_index bs at ≡ 0xC2) ⊎ (slice_index bs at ≢ 0xC2) → cond (nat_eq (slice_index bs at) 0xC2) (at + 2) (at + 1) ≤ length bs
    by_lead passes below (inl lead) =
        let is_second : slice_index bs (suc at) ≡ 0xA0 = second mode (slice_index bs at) (slice_index bs (suc at)) passes lead in
        let there : suc at < length bs = elim (cases_lt (suc at) (length bs)) [
          | inl within ↦ within
          | inr past ↦
              absurd (let none : slice_index bs (suc at) ≡ 0 = get_or_past bs (suc at) 0 past in omega arith)
        ] in
        rw (eq-eqb (slice_index bs at) 0xC2 lead) (omega arith)
    by_lead passes below (inr other) = rw (ne_eqb (slice_index bs at) 0xC2 other) (omega arith)

-- it lies after where the search began, if that is not the end
pub place_after-later : (bs : List ℕ) (start at : ℕ) → start ≤ at → start ≤ place_after bs at
place_after-later bs start at low =
    elim (cases_lt at (length bs)) [
      | inl below ↦ rw (lt-true at (length bs) below) (by_lead (nat_eq (slice_index bs at) 0xC2))
      | inr end ↦ rw (lt-false at (length bs) end) low
    ]
  where
    by_lead : (lead : Bool) → start ≤ cond lead (at + 2) (at + 1)
    by_lead true = omega arith
    by_lead false = omega arith
