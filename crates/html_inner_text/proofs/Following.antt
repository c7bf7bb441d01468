-- The nodes behind a node, one by one.
use Rattle.std.proofs.Common.{◌≡◌, ◌∙◌, ◌<◌, ℕ, Bool, true, false, List, [], ◌∷◌, length, Option, Some, None, inl, inr, refl, ap, arith}
use Rattle.std.proofs.Common.{subst, sym}
use Rattle.std.specs.List.{list_any}
use Rattle.std.proofs.lemmas.Bool.{cases_eq, eq-eqb, ne_eqb}
use Rattle.markup.specs.Forest.{Forest, IsDistinct, IsForest, children_of, is_among, parent_of}
use Rattle.markup.proofs.WholeTrees.{among-first, among-later}
use Rattle.html_forest.specs.Links.{first_of, next_under}
use Rattle.html_forest.specs.Walk.{after_under, behind, those_after}
use Rattle.html_forest.proofs.Walked.{next-behind}

some-same : {a b : ℕ} → Some a ≡ Some b → a ≡ b
some-same h = cc

-- what is in a distinct list is not its first one
apart : (v m : ℕ) (ms : List ℕ) → IsDistinct (m ∷ ms) → is_among v ms ≡ true → v ≡ m → ⊥
apart v m ms once there same = let h : is_among m ms ≡ true = subst (λ k. is_among k ms ≡ true) same there in let no = once.0 in absurd cc

first-is : (xs : List ℕ) (m : ℕ) → first_of xs ≡ Some m → (ys : List ℕ) × (xs ≡ m ∷ ys)
first-is [] m h = absurd cc
first-is (x ∷ xs) m h = (xs, ap (λ (k : ℕ). k ∷ xs) (some-same h))

first-none : (xs : List ℕ) → first_of xs ≡ None → xs ≡ []
first-none [] h = refl
first-none (x ∷ xs) h = absurd cc

-- after the next one of a distinct list come those after that
those-step : (n m : ℕ) (xs ys : List ℕ) → IsDistinct xs → those_after n xs ≡ m ∷ ys → (is_among m xs ≡ true) × (those_after m xs ≡ ys)
those-step n m [] ys once h = absurd cc
those-step n m (x ∷ xs) ys once h =
    elim (cases_eq n x) [
      | inl same ↦
          let tail : xs ≡ m ∷ ys = rw (eq-eqb n x same) at h in
          let there : is_among m xs ≡ true = subst (λ (l : List ℕ). is_among m l ≡ true) (sym tail) (among-first m ys) in
          let all : those_after m xs ≡ ys = ap (those_after m) tail ∙ rw (eq-eqb m m refl) refl in
          (among-later m x xs there, rw (ne_eqb m x (apart m x xs once there)) all)
      | inr other ↦
          let rest = those-step n m xs ys once.1 (rw (ne_eqb n x other) at h) in
          (among-later m x xs rest.0, rw (ne_eqb m x (apart m x xs once rest.0)) rest.1)
    ]

rest-is : (f : Forest) → IsForest f → (n m : ℕ) (o : Option ℕ) (ys : List ℕ) → after_under f n o ≡ m ∷ ys → ys ≡ behind f m
rest-is f is n m None ys h = absurd cc
rest-is f is n m (Some p) ys h =
    let step = those-step n m (children_of f p) ys (is.once p) h in
    rw (is.one_parent p m step.0) (sym step.1)

-- the next sibling, and those behind it
next-some : (f : Forest) → IsForest f → (n m : ℕ) → next_under f n (parent_of f n) ≡ Some m → behind f n ≡ m ∷ behind f m
next-some f is n m h =
    let first = first-is (behind f n) m (sym (next-behind f n) ∙ h) in
    first.1 ∙ ap (λ (l : List ℕ). m ∷ l) (rest-is f is n m (parent_of f n) first.0 first.1)

next-none : (f : Forest) (n : ℕ) → next_under f n (parent_of f n) ≡ None → behind f n ≡ []
next-none f n h = first-none (behind f n) (sym (next-behind f n) ∙ h)

-- A SEARCH

pub any-first : (f : Forest) → IsForest f → (t : ℕ → Bool) (n m : ℕ) → next_under f n (parent_of f n) ≡ Some m → t m ≡ true
    → list_any t (behind f n) ≡ true
any-first f is t n m h passes = ap (list_any t) (next-some f is n m h) ∙ rw passes refl

pub any-later : (f : Forest) → IsForest f → (t : ℕ → Bool) (n m : ℕ) → next_under f n (parent_of f n) ≡ Some m → t m ≡ false
    → list_any t (behind f n) ≡ list_any t (behind f m)
any-later f is t n m h fails = ap (list_any t) (next-some f is n m h) ∙ rw fails refl

pub none-behind : (f : Forest) (t : ℕ → Bool) (n : ℕ) → next_under f n (parent_of f n) ≡ None → list_any t (behind f n) ≡ false
none-behind f t n h = ap (list_any t) (next-none f n h)

pub fewer : (f : Forest) → IsForest f → (n m : ℕ) → next_under f n (parent_of f n) ≡ Some m → length (behind f m) < length (behind f n)
fewer f is n m h = let all : length (behind f n) ≡ length (m ∷ behind f m) = ap length (next-some f is n m h) in omega (arith, all)
