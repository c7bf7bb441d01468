-- Which of sixteen bytes may begin an escaped character.
use Rattle.std.proofs.Common.{◌≡◌, ◌∙◌, ℕ, suc, ◌+◌, ◌*◌, ◌%◌, ◌^◌, ◌<◌, ◌≤◌, Bool, true, false, ◌||◌, List, [], ◌∷◌, cond, eqb}
use Rattle.std.proofs.Common.{length, map, replicate, slice_index, refl, sym, ap, arith, w8, inl, inr}
use Rattle.std.specs.Simd.Lanes.{zip2, sel_l, mask_l, top}
use Rattle.std.proofs.lemmas.Bool.{cases_eq, cases_lt, or_parts}
use Rattle.std.proofs.lemmas.List.{length-map}
use Rattle.std.proofs.lemmas.Simd.{bitmask_splat, map-map, tops_compared, zip2_splat}
use Rattle.markup.specs.Escape.{Mode}
use Rattle.markup.specs.Escape.Mode.{InText, InValue}
use Rattle.html_serialize.specs.Bytes.{IsClear, IsNext, is_marked, is_replaced, quote_of}

-- a byte, or 0 where it is the one looked for
abbrev cleared : ℕ → ℕ → ℕ
cleared y x = cond (eqb x y) 0 x

select_zeros : (t : ℕ → Bool) (xs : List ℕ) → sel_l (map t xs) (replicate (length xs) 0) xs ≡ map (λ x. cond (t x) 0 x) xs
select_zeros t [] = refl
select_zeros t (x ∷ xs) = ap (λ rest. cond (t x) 0 x ∷ rest) (select_zeros t xs)

-- where a vector equals a byte, its lanes are made 0
abbrev clear : ℕ → ℕ → List ℕ → List ℕ
clear n y xs = sel_l (map (top 7) (zip2 (λ a b. cond (eqb a b) 255 0) xs (replicate n y))) (replicate n 0) xs

clear_lanes : (n y : ℕ) (xs : List ℕ) → length xs ≡ n → clear n y xs ≡ map (cleared y) xs
clear_lanes n y xs long =
    ap (λ ms. sel_l ms (replicate n 0) xs) (tops_compared w8 eqb xs (replicate n y) ∙ zip2_splat eqb xs n y long)
    ∙ ap (λ k. sel_l (map (λ x. eqb x y) xs) (replicate k 0) xs) (sym long)
    ∙ select_zeros (λ x. eqb x y) xs

-- one byte more is made 0
clear_more : (n y : ℕ) (f : ℕ → ℕ) (xs ys : List ℕ) → length xs ≡ n → ys ≡ map f xs → clear n y ys ≡ map (λ x. cleared y (f x)) xs
clear_more n y f xs ys long is = ap (clear n y) is ∙ clear_lanes n y (map f xs) (length-map xs f ∙ long) ∙ map-map (cleared y) f xs

-- a test that 0 passes, after that
passes_or : (P : ℕ → Bool) (y x : ℕ) → P 0 ≡ true → P (cleared y x) ≡ (P x || eqb x y)
passes_or P y x zero = by (eqb x y)
  where
    or_true : (b : Bool) → true ≡ (b || true)
    or_true true = refl
    or_true false = refl

    or_false : (b : Bool) → b ≡ (b || false)
    or_false true = refl
    or_false false = refl

    by : (q : Bool) → P (cond q 0 x) ≡ (P x || q)
    by true = zero ∙ or_true (P x)
    by false = or_false (P x)

abbrev all_cleared : ℕ → ℕ → ℕ
all_cleared quote x = cleared 0xC2 (cleared quote (cleared 0x26 (cleared 0x3E (cleared 0x3C x))))

marked : (quote x : ℕ) → eqb (all_cleared quote x) 0 ≡ is_marked quote x
marked quote x =
    let t1 = λ (b : ℕ). eqb b 0 || eqb b 0xC2 in
    let t2 = λ (b : ℕ). t1 b || eqb b quote in
    let t3 = λ (b : ℕ). t2 b || eqb b 0x26 in
    let t4 = λ (b : ℕ). t3 b || eqb b 0x3E in
    passes_or (λ b. eqb b 0) 0xC2 (cleared quote (cleared 0x26 (cleared 0x3E (cleared 0x3C x)))) refl
    ∙ passes_or t1 quote (cleared 0x26 (cleared 0x3E (cleared 0x3C x))) refl
    ∙ passes_or t2 0x26 (cleared 0x3E (cleared 0x3C x)) refl
    ∙ passes_or t3 0x3E (cleared 0x3C x) refl
    ∙ passes_or t4 0x3C x refl

-- the mask of the lanes that are 0, where those that may begin an escaped character are made 0
pub mask_marked : (n quote : ℕ) (xs : List ℕ) → length xs ≡ n → n ≤ 64
    → mask_l (map (top 7) (zip2 (λ a b. cond (eqb a b) 255 0)
    (clear n 0xC2 (clear n quote (clear n 0x26 (clear n 0x3E (clear n 0x3C xs))))) (replicate n 0))) % 2 ^
    64 ≡ mask_l (map (is_marked quote) xs)
mask_marked n quote xs long small =
    let one = clear_lanes n 0x3C xs long in
    let two = clear_more n 0x3E (cleared 0x3C) xs (clear n 0x3C xs) long one in
    let three = clear_more n 0x26 (λ x. cleared 0x3E (cleared 0x3C x)) xs _ long two in
    let four = clear_more n quote (λ x. cleared 0x26 (cleared 0x3E (cleared 0x3C x))) xs _ long three in
    let all = clear_more n 0xC2 (λ x. cleared quote (cleared 0x26 (cleared 0x3E (cleared 0x3C x)))) xs _ long four in
    ap (λ (ys : List ℕ). mask_l (map (top 7) (zip2 (λ a b. cond (eqb a b) 255 0) ys (replicate n 0))) % 2 ^ 64) all
    ∙ bitmask_splat w8 eqb (map (all_cleared quote) xs) n 0 (length-map xs (all_cleared quote) ∙ long) small
    ∙ ap mask_l (map-map (λ y. eqb y 0) (all_cleared quote) xs)
    ∙ λ i. mask_l (map (λ x. marked quote x i) xs)

-- a byte without a mark is none of those
record IsApart (quote b : ℕ) : Type 0 where
  lt : eqb b 0x3C ≡ false
  gt : eqb b 0x3E ≡ false
  amp : eqb b 0x26 ≡ false
  is_quote : eqb b quote ≡ false
  lead : eqb b 0xC2 ≡ false

apart : (quote b : ℕ) → is_marked quote b ≡ false → IsApart quote b
apart quote b unmarked =
    let one = or_parts (eqb b 0 || eqb b 0xC2 || eqb b quote || eqb b 0x26 || eqb b 0x3E) (eqb b 0x3C) unmarked in
    let two = or_parts (eqb b 0 || eqb b 0xC2 || eqb b quote || eqb b 0x26) (eqb b 0x3E) one.0 in
    let three = or_parts (eqb b 0 || eqb b 0xC2 || eqb b quote) (eqb b 0x26) two.0 in
    let four = or_parts (eqb b 0 || eqb b 0xC2) (eqb b quote) three.0 in
    record { lt = one.1; gt = two.1; amp = three.1; is_quote = four.1; lead = (or_parts (eqb b 0) (eqb b 0xC2) four.0).1 }

-- where no mark is, no escaped character begins
not_replaced : (mode : Mode) (b next : ℕ) → is_marked (quote_of mode) b ≡ false → is_replaced mode b next ≡ false
not_replaced InText b next unmarked = let is = apart 0x26 b unmarked in rw (is.lt, is.gt, is.amp, is.lead) refl
not_replaced InValue b next unmarked = let is = apart 0x22 b unmarked in rw (is.lt, is.gt, is.amp, is.is_quote, is.lead) refl

-- some bytes more without a mark
pub IsClear-unmarked : (mode : Mode) (bytes : List ℕ) (from at count : ℕ) → IsClear mode bytes from at → at + count ≤ length bytes
    → ((k : ℕ) → at ≤ k → k < at + count → is_marked (quote_of mode) (slice_index bytes k) ≡ false) → IsClear mode bytes from (at + count)
IsClear-unmarked mode bytes from at count is within none = record {
  low = let k = is.low in omega arith;
  within = within;
  clear = λ i low high.
      elim (cases_lt i at) [
        | inl before ↦ is.clear i low before
        | inr behind ↦ not_replaced mode (slice_index bytes i) (slice_index bytes (suc i)) (none i behind high)
      ];
}

-- one byte more at which no escaped character begins
pub IsClear-one : (mode : Mode) (bytes : List ℕ) (from at : ℕ) → IsClear mode bytes from at → at < length bytes
    → is_replaced mode (slice_index bytes at) (slice_index bytes (suc at)) ≡ false → IsClear mode bytes from (at + 1)
IsClear-one mode bytes from at is below none = record {
  low = let k = is.low in omega arith;
  within = omega arith;
  clear = λ i low high.
      elim (cases_eq i at) [
        | inl here ↦ rw here none
        | inr other ↦ is.clear i low (omega arith)
      ];
}

pub IsNext-here : (mode : Mode) (bytes : List ℕ) (from at : ℕ) → IsClear mode bytes from at
    → (at < length bytes → is_replaced mode (slice_index bytes at) (slice_index bytes (suc at)) ≡ true)
    → IsNext (is_replaced mode) bytes from at
IsNext-here mode bytes from at is passes = record { within = is.within; passes = passes; clear = is.clear }
