-- What a walk from the newest back finds, and what stands on both sides of it.
use Rattle.std.proofs.Common.{◌≡◌, ◌∙◌, ℕ, suc, ◌<◌, ◌≤◌, Bool, true, false, List, [], ◌∷◌, ◌++◌, length, take, drop, get_or}
use Rattle.std.proofs.Common.{map, reverse, refl, sym, ap, arith, drop-cons, take-append-drop, append_assoc, true≢false}
use Rattle.std.specs.Prelude.{◌||◌}
use Rattle.std.specs.List.{list_any, remove}
use Rattle.std.proofs.lemmas.List.{drop_all, get_or_default, map-append, reverse-append}
use Rattle.std.proofs.lemmas.List.Folds.{list_any-append}
use Rattle.html_stack.specs.Found.{IsNewest}

pub or-left : (a b : Bool) → (a || b) ≡ false → a ≡ false
or-left true b h = absurd (true≢false h)
or-left false b h = refl

pub or-right : (a b : Bool) → (a || b) ≡ false → b ≡ false
or-right true b h = absurd (true≢false h)
or-right false b h = h

pub or-both : (a b : Bool) → a ≡ false → b ≡ false → (a || b) ≡ false
or-both a b h k = rw (h, k) refl

-- those from a place on, one more
pub drop-more : {X Y : Type 0} (see : X → Y) (xs : List X) (k : ℕ) (d : X) → k < length xs
    → reverse (map see (drop k xs)) ≡ reverse (map see (drop (suc k) xs)) ++ see (get_or xs k d) ∷ []
drop-more see xs k d l = rw (drop-cons xs k d l) (reverse-append (see (get_or xs k d) ∷ []) (map see (drop (suc k) xs)))

-- all of them, by the one at a place
pub split-at : {X Y : Type 0} (see : X → Y) (xs : List X) (k : ℕ) (d : X) → k < length xs
    → reverse (map see xs) ≡ reverse (map see (drop (suc k) xs)) ++ see (get_or xs k d) ∷ reverse (map see (take k xs))
split-at see xs k d l =
    ap (λ ys. reverse (map see ys)) (sym (take-append-drop k xs))
    ∙ ap reverse (map-append see (take k xs) (drop k xs))
    ∙ reverse-append (map see (take k xs)) (map see (drop k xs))
    ∙ ap (λ ys. ys ++ reverse (map see (take k xs))) (drop-more see xs k d l)
    ∙ append_assoc (reverse (map see (drop (suc k) xs))) (see (get_or xs k d) ∷ []) (reverse (map see (take k xs)))

-- all of them, by those before a place and those from it on
pub parts : {X Y : Type 0} (see : X → Y) (xs : List X) (k : ℕ) → reverse (map see xs) ≡ reverse
    (map see (drop k xs)) ++ reverse (map see (take k xs))
parts see xs k =
    ap (λ ys. reverse (map see ys)) (sym (take-append-drop k xs))
    ∙ ap reverse (map-append see (take k xs) (drop k xs))
    ∙ reverse-append (map see (take k xs)) (map see (drop k xs))

-- none of those from i on passes
pub record NonePasses {X Y : Type 0} (see : X → Y) (p : Y → Bool) (xs : List X) (i : ℕ) : Type 0 where
  pub within : i ≤ length xs
  pub none : list_any p (reverse (map see (drop i xs))) ≡ false

pub none-start : {X Y : Type 0} (see : X → Y) (p : Y → Bool) (xs : List X) → NonePasses see p xs (length xs)
none-start see p xs = record { within = omega arith; none = rw (drop_all (length xs) xs (omega arith)) refl }

pub none-on : {X Y : Type 0} (see : X → Y) (p : Y → Bool) (xs : List X) (i k : ℕ) (x : X) → NonePasses see p xs i
    → i ≡ suc k → x ≡ get_or xs k x → p (see x) ≡ false → NonePasses see p xs k
none-on see p xs i k x is e here fails =
    let within : i ≤ length xs = is.within in
    let less : k < length xs = omega arith in
    record {
      within = omega arith;
      none =
          ap (list_any p) (drop-more see xs k x less)
          ∙ list_any-append p (reverse (map see (drop (suc k) xs))) (see (get_or xs k x) ∷ [])
          ∙ or-both (list_any p (reverse (map see (drop (suc k) xs)))) (list_any p (see (get_or xs k x) ∷ []))
          (rw e at is.none) (or-both (p (see (get_or xs k x))) false (ap (λ y. p (see y)) (sym here) ∙ fails) refl);
    }

pub none-at : {X Y : Type 0} (see : X → Y) (p : Y → Bool) (xs : List X) (i k : ℕ) (x : X) → NonePasses see p xs i
    → i ≡ suc k → x ≡ get_or xs k x → p (see x) ≡ true → IsNewest see p xs k
none-at see p xs i k x is e here passes =
    let within : i ≤ length xs = is.within in
    let less : k < length xs = omega arith in
    record {
      within = less;
      here = λ d. ap (λ y. p (see y)) (get_or_default xs k d x less ∙ sym here) ∙ passes;
      newer = rw e at is.none;
    }

pub none-all : {X Y : Type 0} (see : X → Y) (p : Y → Bool) (xs : List X) (i : ℕ) → NonePasses see p xs i → i ≡ 0
    → list_any p (reverse (map see xs)) ≡ false
none-all see p xs i is e = rw e at is.none

-- all but the one at a place
pub removed-at : {X Y : Type 0} (see : X → Y) (xs : List X) (k : ℕ) → reverse (map see (remove xs k)) ≡ reverse
    (map see (drop (suc k) xs)) ++ reverse (map see (take k xs))
removed-at see xs k = ap reverse (map-append see (take k xs) (drop (suc k) xs))
    ∙ reverse-append (map see (take k xs)) (map see (drop (suc k) xs))
