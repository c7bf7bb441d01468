-- Walks over lists that lie with the oldest first, and are seen with the newest first.
use Rattle.std.proofs.Common.{◌≡◌, ◌∙◌, ℕ, suc, ◌<◌, List, [], ◌∷◌, length, take, get_or, map, reverse, refl, sym, ap, arith, take-suc, ◌≤◌}
use Rattle.std.proofs.lemmas.List.{map-append, reverse-append}
use Rattle.std.proofs.Math.Seq.{take-length}

-- one element more, seen from the current node back
pub more : {X Y : Type 0} (f : X → Y) (xs : List X) (i : ℕ) (d : X) → i < length xs
    → reverse (map f (take (suc i) xs)) ≡ f (get_or xs i d) ∷ reverse (map f (take i xs))
more f xs i d l = rw (
  take-suc xs i d l,
  map-append f (take i xs) (get_or xs i d ∷ []),
  reverse-append (map f (take i xs)) (f (get_or xs i d) ∷ []),
) refl

-- what is left of a walk that has come to i, with the element just before
pub at : {X Y : Type 0} (f : X → Y) (xs : List X) (i k : ℕ) (x : X) → i ≡ suc k → k < length xs → x ≡ get_or xs k x
    → reverse (map f (take i xs)) ≡ f x ∷ reverse (map f (take k xs))
at f xs i k x e l is = rw e (more f xs k x l) ∙ ap (λ y. f y ∷ reverse (map f (take k xs))) (sym is)

-- a walk from the newest back has come so far: what is left has the same answer as the whole, however nodes are numbered
pub record IsWalked {H X Y A : Type 0} (see : (H → ℕ) → X → Y) (f : List Y → A) (xs : List X) (i : ℕ) : Type 0 where
  pub within : i ≤ length xs
  pub same : (node : H → ℕ) → f (reverse (map (see node) xs)) ≡ f (reverse (map (see node) (take i xs)))

pub IsWalked-end : {H X Y A : Type 0} (see : (H → ℕ) → X → Y) (f : List Y → A) (xs : List X) → IsWalked see f xs (length xs)
IsWalked-end see f xs = record { within = omega arith; same = λ node. rw (take-length xs) refl }

-- the answer, by the one just before
pub walk-at : {H X Y A : Type 0} (see : (H → ℕ) → X → Y) (f : List Y → A) (xs : List X) (i k : ℕ) (x : X)
    → IsWalked see f xs i → i ≡ suc k → x ≡ get_or xs k x → (node : H → ℕ) → f (reverse (map (see node) xs)) ≡ f
    (see node x ∷ reverse (map (see node) (take k xs)))
walk-at see f xs i k x is e here node = is.same node ∙ ap f (at (see node) xs i k x e (omega (arith, is.within, e)) here)

-- one further
pub walk-on : {H X Y A : Type 0} (see : (H → ℕ) → X → Y) (f : List Y → A) (xs : List X) (i k : ℕ) (x : X)
    → IsWalked see f xs i → i ≡ suc k → x ≡ get_or xs k x
    → ((node : H → ℕ) → f (see node x ∷ reverse (map (see node) (take k xs))) ≡ f
    (reverse (map (see node) (take k xs)))) → IsWalked see f xs k
walk-on see f xs i k x is e here step = record {
  within = omega (arith, is.within, e);
  same = λ node. walk-at see f xs i k x is e here node ∙ step node;
}

-- none is left
pub walk-none : {H X Y A : Type 0} (see : (H → ℕ) → X → Y) (f : List Y → A) (xs : List X) (i : ℕ)
    → IsWalked see f xs i → i ≡ 0 → (node : H → ℕ) → f (reverse (map (see node) xs)) ≡ f []
walk-none see f xs i is e node = is.same node ∙ rw e refl
