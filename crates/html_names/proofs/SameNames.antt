-- Equal names have equal places in the table of known names.
use Rattle.std.proofs.Common.{◌≡◌, ◌∙◌, ℕ, zero, suc, ◌<◌, Bool, true, false, List, [], ◌∷◌, length, get_or, refl, sym, ap, arith}
use Rattle.std.specs.Prelude.{◌&&◌, not, nat_eq}
use Rattle.std.specs.List.{list_any}
use Rattle.std.specs.Str.{bytes_eq}
use Rattle.std.proofs.lemmas.Bool.{and_parts, eqb-true}
use Rattle.std.proofs.lemmas.Bool.Decides.{nat_tests, same_from_decides}
use Rattle.std.proofs.lemmas.List.Folds.{list_any_at}
use Rattle.std.proofs.lemmas.Slice.Eq.{bytes_eq-Decides}
use Rattle.markup.specs.KnownNames.{IsNameAt, names}

are_apart : List (List ℕ) → Bool
are_apart [] = true
are_apart (x ∷ xs) = not (list_any (bytes_eq x) xs) && are_apart xs

names-apart : are_apart names ≡ true
unfolding names are_apart
names-apart = refl

bytes-same : (xs : List ℕ) → bytes_eq xs xs ≡ true
bytes-same xs = (bytes_eq-Decides xs xs).1 refl

self-eq : (n : ℕ) → nat_eq n n ≡ true
self-eq n = grind (arith, nat_tests)

not-true : (b : Bool) → not b ≡ true → b ≡ false
not-true true h = absurd cc
not-true false h = refl

apart-at : (xs : List (List ℕ)) → are_apart xs ≡ true → (i j : ℕ) → i < length xs → j < length xs → get_or xs i [] ≡ get_or xs j [] → i ≡ j
unfolding are_apart
apart-at [] h i j l m e = absurd (omega arith)
apart-at (x ∷ xs) h zero zero l m e = refl
apart-at (x ∷ xs) h zero (suc j) l m e =
    let parts = and_parts _ _ h in
    let none : list_any (bytes_eq x) xs ≡ false = not-true _ parts.0 in
    let found : list_any (bytes_eq x) xs ≡ true = list_any_at (bytes_eq x) xs j [] (omega arith) ((bytes_eq-Decides _ _).1 e) in
    absurd cc
apart-at (x ∷ xs) h (suc i) zero l m e =
    let parts = and_parts _ _ h in
    let none : list_any (bytes_eq x) xs ≡ false = not-true _ parts.0 in
    let found : list_any (bytes_eq x) xs ≡ true = list_any_at (bytes_eq x) xs i [] (omega arith) ((bytes_eq-Decides _ _).1 (sym e)) in
    absurd cc
apart-at (x ∷ xs) h (suc i) (suc j) l m e = ap suc (apart-at xs (and_parts _ _ h).1 i j (omega arith) (omega arith) e)

-- known names are equal where their places are
pub known-same : (a b : ℕ) (n m : List ℕ) → IsNameAt a n → IsNameAt b m → nat_eq a b ≡ bytes_eq n m
known-same a b n m is it =
    same_from_decides {P = n ≡ m} (nat_eq a b) (bytes_eq n m) (
      λ e. sym is.there ∙ (ap (λ k. get_or names k []) (eqb-true a b e) ∙ it.there),
      λ e. let places : a ≡ b = apart-at names names-apart a b is.within it.within (is.there ∙ (e ∙ sym it.there)) in rw places (self-eq b),
    )
    (bytes_eq-Decides n m)

-- a known name is none that is not known
pub known-unknown : (a : ℕ) (n m : List ℕ) → IsNameAt a n → list_any (bytes_eq m) names ≡ false → bytes_eq n m ≡ false
known-unknown a n m is none = by (bytes_eq n m) refl where
  by : (b : Bool) → bytes_eq n m ≡ b → bytes_eq n m ≡ false
  by true e =
      let same : n ≡ m = (bytes_eq-Decides n m).0 e in
      let found : list_any (bytes_eq m) names ≡ true = list_any_at (bytes_eq m) names a [] is.within
      ((bytes_eq-Decides _ _).1 (sym same ∙ sym is.there)) in
      absurd cc
  by false e = e

pub unknown-known : (b : ℕ) (n m : List ℕ) → list_any (bytes_eq n) names ≡ false → IsNameAt b m → bytes_eq n m ≡ false
unknown-known b n m none is = by (bytes_eq n m) refl where
  by : (c : Bool) → bytes_eq n m ≡ c → bytes_eq n m ≡ false
  by true e =
      let same : n ≡ m = (bytes_eq-Decides n m).0 e in
      let found : list_any (bytes_eq n) names ≡ true = list_any_at (bytes_eq n) names b [] is.within
      ((bytes_eq-Decides _ _).1 (same ∙ sym is.there)) in
      absurd cc
  by false e = e
