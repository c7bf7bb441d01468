-- Two lists of one length in which each element is as often are the same in some order.
use Rattle.std.proofs.Common.{◌≡◌, ◌∙◌, ℕ, ◌+◌, ◌<◌, Bool, true, false, cond, nat_eq, List, [], ◌∷◌, ◌++◌, length}
use Rattle.std.proofs.Common.{IsPermutation, count_by, refl, sym, ap, subst, arith, eq-eqb}
use Rattle.std.specs.Bool.{Decides}
use Rattle.std.specs.List.{list_all}
use Rattle.std.proofs.lemmas.Bool.{and_parts, eqb-true}
use Rattle.std.proofs.lemmas.List.Recursion.{is_count_by}
use Rattle.std.proofs.lemmas.List.Sorted.{IsPermutation-refl, IsPermutation-sym, IsPermutation-trans, IsPermutation-cons}
use Rattle.std.proofs.lemmas.List.Sorted.{IsPermutation-middle, length_permutation, sum_by-IsPermutation}

module _ {X : Type 0} (E : X → X → Bool) (decides : (a b : X) → Decides (E a b) (a ≡ b)) where
  -- how often an element is in a list
  abbrev often : X → List X → ℕ
  often x [] = 0
  often x (y ∷ ys) = cond (E x y) (1 + often x ys) (often x ys)

  often-is : (x : X) (ys : List X) → often x ys ≡ count_by (E x) ys
  often-is x ys = is_count_by (often x) (E x) refl (λ y ys. refl) ys

  often-permutation : (x : X) (xs ys : List X) → IsPermutation xs ys → often x ys ≡ often x xs
  often-permutation x xs ys moved = often-is x ys ∙ sum_by-IsPermutation (λ y. cond (E x y) 1 0) xs ys moved ∙ sym (often-is x xs)

  Cut : X → List X → Type 0
  Cut x ys = (front : List X) × (back : List X) × (ys ≡ front ++ x ∷ back)

  cut_by : (b : Bool) (x y : X) (ys : List X) → E x y ≡ b → 0 < cond b (1 + often x ys) (often x ys)
      → (0 < often x ys → Cut x ys) → Cut x (y ∷ ys)
  unfolding Cut
  cut_by true x y ys e h go = ([], ys, ap (λ z. z ∷ ys) (sym ((decides x y).0 e)))
  cut_by false x y ys e h go = let there = go h in (y ∷ there.0, there.1, ap (λ zs. y ∷ zs) there.2)

  -- an element that is in a list cuts it
  cut : (x : X) (ys : List X) → 0 < often x ys → Cut x ys
  cut x [] h = absurd (omega arith)
  cut x (y ∷ ys) h = cut_by (E x y) x y ys refl h (cut x ys)

  more : (b : Bool) (n : ℕ) → 0 < n → 0 < cond b (1 + n) n
  more true n h = omega arith
  more false n h = h

  less : (b : Bool) (m n : ℕ) → cond b (1 + m) m ≡ cond b (1 + n) n → m ≡ n
  less true m n h = omega arith
  less false m n h = h

  same_counts : (xs ys : List X) → length xs ≡ length ys → ((x : X) → 0 < often x xs → often x xs ≡ often x ys) → IsPermutation xs ys
  unfolding Cut
  same_counts [] [] l h = IsPermutation-refl []
  same_counts [] (y ∷ ys) l h = absurd (omega arith)
  same_counts (x ∷ xs) ys l h =
      let one : E x x ≡ true = (decides x x).1 refl in
      let in_xs : 0 < often x (x ∷ xs) = subst (λ b. 0 < cond b (1 + often x xs) (often x xs)) (sym one) (omega arith) in
      let there = cut x ys (subst (λ n. 0 < n) (h x in_xs) in_xs) in
      let front : List X = there.0 in
      let back : List X = there.1 in
      let moved : IsPermutation ys (x ∷ (front ++ back)) = subst (λ l. IsPermutation l (x ∷ (front ++ back)))
      (sym there.2) (IsPermutation-middle front x back) in
      let shorter : length xs ≡ length (front ++ back) = omega (arith, length_permutation _ _ moved) in
      let fewer : (z : X) → 0 < often z xs → often z xs ≡ often z (front ++ back) =
      λ z k. less (E z x) _ _ (h z (more (E z x) _ k) ∙ sym (often-permutation z _ _ moved)) in
      IsPermutation-trans _ _ _ (IsPermutation-cons x _ _ (same_counts xs (front ++ back) shorter fewer)) (IsPermutation-sym _ _ moved)

  each_by : (p : X → Bool) (b : Bool) (x y : X) (n : ℕ) → E x y ≡ b → p y ≡ true → 0 < cond b (1 + n) n → (0 < n → p x ≡ true) → p x ≡ true
  each_by p true x y n e h k go = subst (λ z. p z ≡ true) (sym ((decides x y).0 e)) h
  each_by p false x y n e h k go = go k

  -- what holds of each element holds of one that is in the list
  each : (p : X → Bool) (xs : List X) → list_all p xs ≡ true → (x : X) → 0 < often x xs → p x ≡ true
  each p [] all x h = absurd (omega arith)
  each p (y ∷ ys) all x h = let parts = and_parts _ _ all in each_by p (E x y) x y (often x ys) refl parts.0 h (each p ys parts.1 x)

  all_true : (p : X → Bool) → ((x : X) → p x ≡ true) → (xs : List X) → list_all p xs ≡ true
  all_true p h [] = refl
  all_true p h (x ∷ xs) = rw (h x) (all_true p h xs)

  pub permutation_from_counts : (xs ys : List X) → length xs ≡ length ys
      → list_all (λ x. nat_eq (count_by (E x) xs) (count_by (E x) ys)) xs ≡ true → IsPermutation xs ys
  permutation_from_counts xs ys l all =
      same_counts xs ys l (λ x h. often-is x xs ∙ eqb-true _ _ (each _ xs all x h) ∙ sym (often-is x ys))

  pub counts_from_permutation : (xs ys : List X) → IsPermutation xs ys
      → list_all (λ x. nat_eq (count_by (E x) xs) (count_by (E x) ys)) xs ≡ true
  counts_from_permutation xs ys moved = all_true _ (λ x. eq-eqb _ _ (sym (sum_by-IsPermutation (λ y. cond (E x y) 1 0) xs ys moved))) xs
