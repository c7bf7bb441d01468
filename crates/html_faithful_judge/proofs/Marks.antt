-- Which of sixteen bytes are U+0000 or U+000D.
use Rattle.std.proofs.Common.{◌≡◌, ◌∙◌, ℕ, ◌%◌, ◌^◌, ◌≤◌, Bool, true, false, ◌||◌, List, [], ◌∷◌, cond, eqb}
use Rattle.std.proofs.Common.{length, map, replicate, refl, sym, ap, w8}
use Rattle.std.specs.Simd.Lanes.{zip2, sel_l, mask_l, top}
use Rattle.std.proofs.lemmas.List.{length-map}
use Rattle.std.proofs.lemmas.Simd.{bitmask_splat, map-map, tops_compared, zip2_splat}
use Rattle.html_faithful_judge.specs.Bytes.{is_odd}

-- a byte, or 0 where it is the one looked for
abbrev cleared : ℕ → ℕ → ℕ
cleared y x = cond (eqb x y) 0 x

select_zeros : (t : ℕ → Bool) (xs : List ℕ) → sel_l (map t xs) (replicate (length xs) 0) xs ≡ map (λ x. cond (t x) 0 x) xs
select_zeros t [] = refl
select_zeros t (x ∷ xs) = ap (λ rest. cond (t x) 0 x ∷ rest) (select_zeros t xs)

-- where a vector equals a byte, its lanes are made 0
abbrev clear : ℕ → ℕ → List ℕ → List ℕ
clear n y xs = sel_l (map (top 7) (zip2 (λ a b. cond (eqb a b) 255 0) xs (replicate n y))) (replicate n 0) xs

clear_lanes : (n y : ℕ) (xs : List ℕ) → length xs ≡ n → clear n y xs ≡ map (cleared y) xs
clear_lanes n y xs long =
    ap (λ ms. sel_l ms (replicate n 0) xs) (tops_compared w8 eqb xs (replicate n y) ∙ zip2_splat eqb xs n y long)
    ∙ ap (λ k. sel_l (map (λ x. eqb x y) xs) (replicate k 0) xs) (sym long)
    ∙ select_zeros (λ x. eqb x y) xs

odd_by : (x : ℕ) (q : Bool) → eqb (cond q 0 x) 0 ≡ (eqb x 0 || q)
odd_by x true = or_true (eqb x 0)
  where
    or_true : (b : Bool) → true ≡ (b || true)
    or_true true = refl
    or_true false = refl
odd_by x false = or_false (eqb x 0)
  where
    or_false : (b : Bool) → b ≡ (b || false)
    or_false true = refl
    or_false false = refl

-- the mask of the lanes that are 0, where those that are U+000D are made 0
pub mask_odd : (n : ℕ) (xs : List ℕ) → length xs ≡ n → n ≤ 64
    → mask_l (map (top 7) (zip2 (λ a b. cond (eqb a b) 255 0) (clear n 13 xs) (replicate n 0))) % 2 ^ 64 ≡ mask_l (map is_odd xs)
mask_odd n xs long small =
    ap (λ (ys : List ℕ). mask_l (map (top 7) (zip2 (λ a b. cond (eqb a b) 255 0) ys (replicate n 0))) % 2 ^ 64) (clear_lanes n 13 xs long)
    ∙ bitmask_splat w8 eqb (map (cleared 13) xs) n 0 (length-map xs (cleared 13) ∙ long) small
    ∙ ap mask_l (map-map (λ y. eqb y 0) (cleared 13) xs)
    ∙ λ i. mask_l (map (λ x. odd_by x (eqb x 13) i) xs)
