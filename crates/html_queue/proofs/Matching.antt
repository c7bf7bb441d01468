-- How far a text matches a pattern.
use Rattle.std.proofs.Common.{◌≡◌, ◌<◌, ◌≤◌, ◌+◌, ℕ, suc, Bool, true, false, ◌&&◌, nat_lt, cond, Option, Some, None, List, []}
use Rattle.std.proofs.Common.{◌∷◌, ◌++◌, length, drop, get_or, slice_index, arith, refl, sym, ◌∙◌, ap, inl, inr, below_more}
use Rattle.std.proofs.Common.{add-one}
use Rattle.std.proofs.lemmas.Bool.{cases_lt, lt-ltb, le-ltb}
use Rattle.std.proofs.lemmas.List.{drop_all}
use Rattle.std.proofs.Math.Seq.{drop-cons, drop-append_seam}
use Rattle.std.proofs.Math.ListN.{get_or-eq_default}
use denote.Bor.{Bor}
use mathlib.Core.Bool.{beq}
use Rattle.std.specs.Option.{option_eq}
use Rattle.std.proofs.Common.{subst, take, zero}
use Rattle.std.specs.Prelude.{encode_utf8, encode_utf8_all}
use Rattle.std.specs.Str.{IsUtf8, IsCharBoundary, IsAscii, chars}
use Rattle.std.proofs.lemmas.Str.{chars-append, chars-IsAscii, encodes-chars, length-encode, len_utf8_bounds, encode_ascii}
use Rattle.std.proofs.lemmas.Str.{char_from_byte, IsUtf8-take, IsCharBoundary-start, IsCharBoundary-after_ascii}
use Rattle.std.proofs.lemmas.List.{take-append-drop, get_or-take, length-append, length-take-le}
use Rattle.html_queue.specs.Queue.{Passes}
use Rattle.html_queue.specs.Begins.{begins, Computes, RefusesAbove}

-- the first i bytes match, and are ASCII
pub record MatchesUpTo (post : Bor ℕ → Bor ℕ → Bool → Type 0) (text pattern : List ℕ) (i : ℕ) : Type 0 where
  pub within : i ≤ length text
  pub low : (k : ℕ) → k < i → slice_index text k < 128
  pub same_rest : (same : ℕ → ℕ → Bool) → Computes post same → begins same text pattern ≡ begins same (drop i text) (drop i pattern)

-- a byte that a comparison accepts is ASCII
pub low_of : (post : Bor ℕ → Bor ℕ → Bool → Type 0) (x y : Bor ℕ) → RefusesAbove post → x.now < 256 → y.now < 128
    → post x y true → x.now < 128
low_of post x y refuses fits ascii p = elim (cases_lt x.now 128) [
  | inl low ↦ low
  | inr high ↦ let no : true ≡ false = refuses x y true high fits ascii p in absurd (cc)
]

-- where the first characters are alike the rest decides
pub begins_hit : (same : ℕ → ℕ → Bool) (c p : ℕ) (cs ps : List ℕ) → c < 128 → same c p ≡ true → begins same (c ∷ cs)
    (p ∷ ps) ≡ begins same cs ps
begins_hit same c p cs ps low hit = rw (lt-ltb c 128 low, hit) refl

-- where the first characters differ so do the texts
pub begins_miss : (same : ℕ → ℕ → Bool) (c p : ℕ) (cs ps : List ℕ) → same c p ≡ false → begins same (c ∷ cs) (p ∷ ps) ≡ Some false
begins_miss same c p cs ps miss =
    rw miss (elim (nat_lt c 128) as (λ b. cond (b && false) (begins same cs ps) (Some false) ≡ Some false) [ true ↦ refl | false ↦ refl ])

-- the same at a place within both
pub hit_at : (same : ℕ → ℕ → Bool) (text pattern : List ℕ) (i : ℕ) → i < length text → i < length pattern
    → get_or text i 0 < 128 → same (get_or text i 0) (get_or pattern i 0) ≡ true → begins same (drop i text)
    (drop i pattern) ≡ begins same (drop (i + 1) text) (drop (i + 1) pattern)
hit_at same text pattern i l m low hit = rw (add-one, drop-cons text i 0 l, drop-cons pattern i 0 m)
    (begins_hit same _ _ (drop (suc i) text) (drop (suc i) pattern) low hit)

-- and where they differ at a place within both
pub miss_at : (same : ℕ → ℕ → Bool) (text pattern : List ℕ) (i : ℕ) → i < length text → i < length pattern
    → same (get_or text i 0) (get_or pattern i 0) ≡ false → begins same (drop i text) (drop i pattern) ≡ Some false
miss_at same text pattern i l m miss = rw (drop-cons text i 0 l, drop-cons pattern i 0 m)
    (begins_miss same _ _ (drop (suc i) text) (drop (suc i) pattern) miss)

-- a text that ends before the pattern
pub ends_at : (same : ℕ → ℕ → Bool) (text pattern : List ℕ) (i : ℕ) → length text ≤ i → i < length pattern
    → begins same (drop i text) (drop i pattern) ≡ None
ends_at same text pattern i l m = rw (drop_all i text l, drop-cons pattern i 0 m) refl

-- a pattern all of which was found
pub all_at : (same : ℕ → ℕ → Bool) (text pattern : List ℕ) (i : ℕ) → length pattern ≤ i → begins same (drop i text)
    (drop i pattern) ≡ Some true
all_at same text pattern i l = rw (drop_all i pattern l) refl

-- one more byte matches
pub one_more : (post : Bor ℕ → Bor ℕ → Bool → Type 0) (text pattern : List ℕ) (i : ℕ) (x y : Bor ℕ)
    → RefusesAbove post → i < length text → i < length pattern → x.now ≡ get_or text i 0
    → y.now ≡ get_or pattern i 0 → get_or text i 0 < 256 → get_or pattern i 0 < 128 → post x y true
    → MatchesUpTo post text pattern i → MatchesUpTo post text pattern (i + 1)
one_more post text pattern i x y refuses l m ex ey fits ascii p up =
    let low : x.now < 128 = low_of post x y refuses (omega arith) (omega arith) p in
    record {
      within = omega arith;
      low = below_more _ _ up.low (omega arith);
      same_rest = λ same h.
          let hit : same (get_or text i 0) (get_or pattern i 0) ≡ true = rw (← ex, ← ey) (sym (h x y true (omega arith) (omega arith) p)) in
          up.same_rest same h ∙ hit_at same text pattern i l m (omega arith) hit;
    }

-- the next byte differs
pub differs : (post : Bor ℕ → Bor ℕ → Bool → Type 0) (text pattern : List ℕ) (i : ℕ) (x y : Bor ℕ) → i < length text
    → i < length pattern → x.now ≡ get_or text i 0 → y.now ≡ get_or pattern i 0 → get_or text i 0 < 256
    → get_or pattern i 0 < 128 → post x y false → MatchesUpTo post text pattern i → (same : ℕ → ℕ → Bool)
    → Computes post same → Some false ≡ begins same text pattern
differs post text pattern i x y l m ex ey fits ascii p up same h =
    let miss : same (get_or text i 0) (get_or pattern i 0) ≡ false = rw (← ex, ← ey) (sym (h x y false (omega arith) (omega arith) p)) in
    sym (up.same_rest same h ∙ miss_at same text pattern i l m miss)

-- a character that is not ASCII begins by a byte that is not
pub first_high : (same : ℕ → ℕ → Bool) (c : ℕ) (rest cs : List ℕ) (p : ℕ) (ps bs : List ℕ) → bs ≡ encode_utf8 c
    ++ rest → 128 ≤ c → begins same bs (p ∷ ps) ≡ begins same (c ∷ cs) (p ∷ ps)
first_high same c rest cs p ps [] e high =
    absurd (omega (arith, ap length e, length-append (encode_utf8 c) rest, length-encode c, len_utf8_bounds c))
first_high same c rest cs p ps (b ∷ bs) e high =
    let above : 128 ≤ b = elim (cases_lt b 128) [
      | inl low ↦ let is : c ≡ b = char_from_byte (b ∷ bs) rest c e low (omega arith) in omega (arith, is, high, low)
      | inr up ↦ up
    ] in
    rw (le-ltb b 128 above, le-ltb c 128 high) refl

-- a text begins by an ASCII pattern where its characters do
pub begins-chars : (same : ℕ → ℕ → Bool) (cs ps : List ℕ) → begins same (encode_utf8_all cs) ps ≡ begins same cs ps
begins-chars same cs [] = refl
begins-chars same [] (p ∷ ps) = refl
begins-chars same (c ∷ cs) (p ∷ ps) = elim (cases_lt c 128) [
  | inl low ↦ rw (encode_ascii c low, begins-chars same cs ps) refl
  | inr high ↦ first_high same c (encode_utf8_all cs) cs p ps (encode_utf8 c ++ encode_utf8_all cs) refl high
]

-- the bytes of a text begin with an ASCII pattern where its characters do
pub begins-text : (same : ℕ → ℕ → Bool) (bs ps : List ℕ) → IsUtf8 bs → begins same bs ps ≡ begins same (chars bs) ps
begins-text same bs ps u = subst (λ (xs : List ℕ). begins same xs ps ≡ begins same (chars bs) ps)
    (encodes-chars bs u) (begins-chars same (chars bs) ps)

-- a text may be cut after ASCII bytes that it begins with
pub boundary_after_low : (bs : List ℕ) (n : ℕ) → IsUtf8 bs → n ≤ length bs
    → ((k : ℕ) → k < n → slice_index bs k < 128) → IsCharBoundary bs n
boundary_after_low bs zero u within low = IsCharBoundary-start bs u
boundary_after_low bs (suc n) u within low = rw (← add-one) (IsCharBoundary-after_ascii bs n u (omega arith) (low n (omega arith)))

-- a front of ASCII bytes is ASCII
pub take-IsAscii : (bs : List ℕ) (n : ℕ) → n ≤ length bs → ((k : ℕ) → k < n → slice_index bs k < 128) → IsAscii (take n bs)
take-IsAscii bs n within low i = elim (cases_lt i n) [
  | inl l ↦ rw (get_or-take n bs i 0 l) (low i l)
  | inr past ↦ rw (get_or-eq_default (take n bs) 0 {n = i} (omega (arith, past, length-take-le n bs within))) (omega arith)
]

-- an answer that was found equal to `Some true` is
pub is_some_true : (r : Option Bool) → true ≡ option_eq beq r (Some true) → r ≡ Some true
is_some_true None e = absurd (cc)
is_some_true (Some true) e = refl
is_some_true (Some false) e = absurd (cc)

-- an ASCII beginning of the bytes is taken
pub passes_ascii : (bs more pattern : List ℕ) (n m : ℕ) → IsUtf8 bs → IsAscii pattern → length pattern ≤ length bs
    → ((k : ℕ) → k < length pattern → slice_index bs k < 128) → more ≡ drop (length pattern) bs
    → m ≡ n + length (chars pattern) → Passes (length pattern) (record { characters = chars bs; taken = n })
    (record { characters = chars more; taken = m })
passes_ascii bs more pattern n m u ascii within low g e =
    let w = length pattern in
    let cut : IsCharBoundary bs w = boundary_after_low bs w u within low in
    let long : length (take w bs) ≡ w = length-take-le w bs within in
    let plain : chars (take w bs) ≡ take w bs = chars-IsAscii (take w bs) (take-IsAscii bs w within low) in
    let split : chars bs ≡ take w bs ++ chars (drop w bs) = ap chars (sym (take-append-drop w bs))
    ∙ chars-append (take w bs) (drop w bs) (IsUtf8-take bs w u cut) ∙ ap (λ (xs : List ℕ). xs ++ chars (drop w bs)) plain in
    let rest : drop w (chars bs) ≡ chars (drop w bs) = ap (drop w) split
    ∙ subst (λ (k : ℕ). drop k (take w bs ++ chars (drop w bs)) ≡ chars (drop w bs)) long
    (drop-append_seam (take w bs) (chars (drop w bs))) in
    record {
      within = omega (arith, ap length split, length-append (take w bs) (chars (drop w bs)), long);
      rest = rw g (sym rest);
      counted = rw (chars-IsAscii pattern ascii) at e;
    }
