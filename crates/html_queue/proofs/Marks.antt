-- Which of sixteen bytes are marked, and that no other is in a set.
use Rattle.std.proofs.Common.{◌≡◌, ℕ, ◌-◌, ◌*◌, ◌%◌, ◌^◌, ◌<◌, ◌≤◌, Bool, true, false, ◌||◌, List, [], ◌∷◌, cond, eqb, ltb}
use Rattle.std.proofs.Common.{length, map, replicate, refl, sym, ap, ◌∙◌, arith, w8, w64, bit_and}
use Rattle.std.specs.Int.{bit_at, bit_not}
use Rattle.std.specs.Simd.Lanes.{zip2, sel_l, mask_l, top}
use Rattle.std.proofs.lemmas.Bool.{and_parts, eqb-true, ltb-true, or_parts, eqb-false, ltb-false, true_from_ne_false}
use Rattle.std.proofs.lemmas.List.{length-map}
use Rattle.std.proofs.lemmas.Nat.Bits.{bit_at_and, bit_at-zero, bit_at_clear_other, bit_at_mask_inside}
use Rattle.std.proofs.lemmas.Simd.{bitmask_splat, map-map, tops_compared, zip2_splat}
use Rattle.html_queue.specs.Set.{has, is_marked}

-- a byte, or 0 where it is the one looked for
abbrev cleared : ℕ → ℕ → ℕ
cleared y x = cond (eqb x y) 0 x

select_zeros : (t : ℕ → Bool) (xs : List ℕ) → sel_l (map t xs) (replicate (length xs) 0) xs ≡ map (λ x. cond (t x) 0 x) xs
select_zeros t [] = refl
select_zeros t (x ∷ xs) = ap (λ rest. cond (t x) 0 x ∷ rest) (select_zeros t xs)

-- where a vector equals a byte, its lanes are made 0
abbrev clear : ℕ → ℕ → List ℕ → List ℕ
clear n y xs = sel_l (map (top 7) (zip2 (λ a b. cond (eqb a b) 255 0) xs (replicate n y))) (replicate n 0) xs

clear_lanes : (n y : ℕ) (xs : List ℕ) → length xs ≡ n → clear n y xs ≡ map (cleared y) xs
clear_lanes n y xs long =
    ap (λ ms. sel_l ms (replicate n 0) xs) (tops_compared w8 eqb xs (replicate n y) ∙ zip2_splat eqb xs n y long)
    ∙ ap (λ k. sel_l (map (λ x. eqb x y) xs) (replicate k 0) xs) (sym long)
    ∙ select_zeros (λ x. eqb x y) xs

or_true : (b : Bool) → true ≡ (b || true)
or_true true = refl
or_true false = refl

or_false : (b : Bool) → b ≡ (b || false)
or_false true = refl
or_false false = refl

marked_last : (x : ℕ) (q : Bool) → ltb (cond q 0 x) 14 ≡ (ltb x 14 || q)
marked_last x true = or_true (ltb x 14)
marked_last x false = or_false (ltb x 14)

marked_first : (second x : ℕ) (p : Bool) → ltb (cleared second (cond p 0 x)) 14 ≡ (ltb x 14 || (p || eqb x second))
marked_first second x true = marked_last 0 (eqb 0 second) ∙ or_true (ltb x 14)
marked_first second x false = marked_last x (eqb x second)

marked : (first second x : ℕ) → ltb (cleared second (cleared first x)) 14 ≡ is_marked first second x
marked first second x = marked_first second x (eqb x first)

-- the mask of the lanes that are below 14, where those of two bytes are made 0
pub mask_marked : (n first second : ℕ) (xs : List ℕ) → length xs ≡ n → n ≤ 64
    → mask_l (map (top 7) (zip2 (λ a b. cond (ltb a b) 255 0) (clear n second (clear n first xs)) (replicate n 14)))
    % 2 ^ 64 ≡ mask_l (map (is_marked first second) xs)
mask_marked n first second xs long small =
    let once = clear_lanes n first xs long in
    let long-once : length (map (cleared first) xs) ≡ n = length-map xs (cleared first) ∙ long in
    let both : clear n second (clear n first xs) ≡ map (λ x. cleared second (cleared first x)) xs =
    ap (clear n second) once ∙ clear_lanes n second (map (cleared first) xs) long-once ∙ map-map (cleared second) (cleared first) xs in
    let ended = λ (x : ℕ). cleared second (cleared first x) in
    ap (λ (ys : List ℕ). mask_l (map (top 7) (zip2 (λ a b. cond (ltb a b) 255 0) ys (replicate n 14))) % 2 ^ 64) both
    ∙ bitmask_splat w8 ltb (map ended xs) n 14 (length-map xs ended ∙ long) small
    ∙ ap mask_l (map-map (λ y. ltb y 14) ended xs)
    ∙ λ i. mask_l (map (λ x. marked first second x i) xs)

-- a set of which no character is left, once those below 14 and two others are taken out, has no others
pub none_unmarked : (bits first second c : ℕ) → first < 64 → second < 64
    → bit_and (bit_and (bit_and bits (2 ^ 64 - 2 ^ 14)) (bit_not w64 (1 * 2 ^ first % 2 ^ 64))) (bit_not w64 (1 * 2 ^ second % 2 ^ 64)) ≡ 0
    → has bits c ≡ true → is_marked first second c ≡ true
none_unmarked bits first second c l m empty there =
    let parts = and_parts _ _ there in
    let low : c < 64 = ltb-true c 64 parts.0 in
    let set : bit_at bits c ≡ 1 = eqb-true _ _ parts.1 in
    true_from_ne_false _ (λ not.
    let apart = or_parts _ _ not in
    let others = or_parts _ _ apart.1 in
    let above : 14 ≤ c = ltb-false c 14 apart.0 in
    let kept : bit_at (bit_and bits (2 ^ 64 - 2 ^ 14)) c ≡ 1 = omega (
      arith,
      bit_at_and bits (2 ^ 64 - 2 ^ 14) c,
      bit_at_mask_inside 14 64 c above low,
    ) in
    let once = bit_at_clear_other w64 (bit_and bits (2 ^ 64 - 2 ^ 14)) first l c low (eqb-false c first others.0) in
    let twice = bit_at_clear_other w64 _ second m c low (eqb-false c second others.1) in
    let zero : bit_at 0 c ≡ 1 = sym (ap (λ n. bit_at n c) empty) ∙ twice ∙ once ∙ kept in
    absurd (omega (arith, bit_at-zero c, zero)))
