-- The nodes beside a node, step by step.
use Rattle.std.proofs.Common.{◌≡◌, ◌∙◌, ◌⊎◌, ◌<◌, ℕ, Bool, true, List, [], ◌∷◌, ◌++◌, length, Option, Some, None}
use Rattle.std.proofs.Common.{inl, inr, refl, ap, arith, length-append, subst, sym}
use Rattle.std.specs.Prelude.{cond, filter, find}
use Rattle.std.proofs.lemmas.Bool.{cases_Bool, cases_eq, eq-eqb, ne_eqb}
use Rattle.markup.specs.Forest.{Forest, IsDistinct, IsForest, children_of, is_among, parent_of, those_before}
use Rattle.markup.proofs.Parents.{is_among-parent}
use Rattle.markup.proofs.WholeTrees.{among-later}
use Rattle.html_forest.specs.Links.{after_in, before_in, first_of, next_under, previous_under}
use Rattle.html_selector_matching.specs.Around.{element_after, element_before, is_element, last_or, nodes_after, nodes_before, those_after}

some-same : {a b : ℕ} → Some a ≡ Some b → a ≡ b
some-same h = cc

none-some : {a : ℕ} → Some a ≡ None → ⊥
none-some h = cc

-- what is in a distinct list is not its first one
apart : (v m : ℕ) (ms : List ℕ) → IsDistinct (m ∷ ms) → is_among v ms ≡ true → v ≡ m → ⊥
apart v m ms once there same = let h : is_among m ms ≡ true = subst (λ k. is_among k ms ≡ true) same there in let no = once.0 in absurd cc

-- BEFORE

before-there : (o : Option ℕ) (n v : ℕ) (ns : List ℕ) → before_in o n ns ≡ Some v → (o ≡ Some v) ⊎ (is_among v ns ≡ true)
before-there o n v [] h = inl h
before-there o n v (m ∷ ms) h =
    elim (cases_eq n m) [
      | inl same ↦ inl (rw (eq-eqb n m same) at h)
      | inr other ↦ elim (before-there (Some m) n v ms (rw (ne_eqb n m other) at h)) [
        | inl first ↦ inr (rw (eq-eqb v m (sym (some-same first))) refl)
        | inr later ↦ inr (among-later v m ms later)
      ]
    ]

before-some : (k n : ℕ) (ns : List ℕ) → before_in (Some k) n ns ≡ None → ⊥
before-some k n [] h = none-some h
before-some k n (m ∷ ms) h =
    elim (cases_eq n m) [
      | inl same ↦ none-some (rw (eq-eqb n m same) at h)
      | inr other ↦ before-some m n ms (rw (ne_eqb n m other) at h)
    ]

before-later : (n v m k : ℕ) (ks : List ℕ) → IsDistinct (m ∷ k ∷ ks) → (n ≡ m → ⊥) → before_in (Some m) n (k ∷ ks) ≡ Some v
    → (before_in None n (k ∷ ks) ≡ Some v → those_before n (k ∷ ks) ≡ those_before v (k ∷ ks) ++ v ∷ [])
    → those_before n (m ∷ k ∷ ks) ≡ those_before v (m ∷ k ∷ ks) ++ v ∷ []
before-later n v m k ks once other e more =
    elim (cases_eq n k) [
      | inl same ↦
          let first : m ≡ v = some-same (rw (eq-eqb n k same) at e) in
          rw (ne_eqb m n (λ s. other (sym s)), eq-eqb k n (sym same), eq-eqb m v first) (ap (λ j. j ∷ []) first)
      | inr differ ↦
          let later : before_in (Some k) n ks ≡ Some v = rw (ne_eqb n k differ) at e in
          let rest : before_in None n (k ∷ ks) ≡ Some v = rw (ne_eqb n k differ) later in
          let there : is_among v (k ∷ ks) ≡ true = elim (before-there (Some k) n v ks later) [
            | inl first ↦ rw (eq-eqb v k (sym (some-same first))) refl
            | inr inner ↦ among-later v k ks inner
          ] in
          let off : m ≡ v → ⊥ = λ s. apart v m (k ∷ ks) once there (sym s) in
          rw (ne_eqb m n (λ s. other (sym s)), ne_eqb m v off) (ap (λ (l : List ℕ). m ∷ l) (more rest))
    ]

-- the one just before is the last of those before
before-step : (n v : ℕ) (ns : List ℕ) → IsDistinct ns → before_in None n ns ≡ Some v → those_before n ns ≡ those_before v ns ++ v ∷ []
before-step n v [] once h = absurd (none-some (sym h))
before-step n v (m ∷ []) once h =
    elim (cases_eq n m) [
      | inl same ↦ absurd (none-some (sym (rw (eq-eqb n m same) at h)))
      | inr other ↦
          let e : m ≡ v = some-same (rw (ne_eqb n m other) at h) in
          rw (ne_eqb m n (λ s. other (sym s)), eq-eqb m v e) (ap (λ k. k ∷ []) e)
    ]
before-step n v (m ∷ k ∷ ks) once h =
    elim (cases_eq n m) [
      | inl same ↦ absurd (none-some (sym (rw (eq-eqb n m same) at h)))
      | inr other ↦ before-later n v m k ks once other (rw (ne_eqb n m other) at h) (before-step n v (k ∷ ks) once.1)
    ]

before-none : (n : ℕ) (ns : List ℕ) → is_among n ns ≡ true → before_in None n ns ≡ None → those_before n ns ≡ []
before-none n [] there h = refl
before-none n (m ∷ ms) there h =
    elim (cases_eq n m) [
      | inl same ↦ rw (eq-eqb m n (sym same)) refl
      | inr other ↦ absurd (before-some m n ms (rw (ne_eqb n m other) at h))
    ]

last-push : (t : ℕ → Bool) (o : Option ℕ) (ns : List ℕ) (v : ℕ)
    → last_or o (filter t (ns ++ v ∷ [])) ≡ cond (t v) (Some v) (last_or o (filter t ns))
last-push t o [] v = elim (cases_Bool (t v)) [ inl passes ↦ rw passes refl | inr fails ↦ rw fails refl ]
last-push t o (n ∷ ns) v =
    elim (cases_Bool (t n)) [ inl passes ↦ rw passes (last-push t (Some n) ns v) | inr fails ↦ rw fails (last-push t o ns v) ]

nodes-before : (f : Forest) → IsForest f → (n v : ℕ) → previous_under f n (parent_of f n) ≡ Some v
    → nodes_before f n ≡ nodes_before f v ++ v ∷ []
nodes-before f is n v h = by (parent_of f n) refl h
  where
    by : (o : Option ℕ) → parent_of f n ≡ o → previous_under f n o ≡ Some v → nodes_before f n ≡ nodes_before f v ++ v ∷ []
    by None e h = absurd (none-some (sym h))
    by (Some p) e h =
        let there : is_among v (children_of f p) ≡ true = elim (before-there None n v (children_of f p) h) [
          | inl none ↦ absurd (none-some (sym none))
          | inr among ↦ among
        ] in
        rw (e, is.one_parent p v there) (before-step n v (children_of f p) (is.once p) h)

-- the element before a node is the node before, or the one before that
pub element-before : (f : Forest) → IsForest f → (n v : ℕ) → previous_under f n (parent_of f n) ≡ Some v
    → element_before f n ≡ cond (is_element f v) (Some v) (element_before f v)
element-before f is n v h =
    ap (λ (l : List ℕ). last_or None (filter (is_element f) l)) (nodes-before f is n v h)
    ∙ last-push (is_element f) None (nodes_before f v) v

pub fewer-before : (f : Forest) → IsForest f → (n v : ℕ) → previous_under f n (parent_of f n) ≡ Some v
    → length (nodes_before f v) < length (nodes_before f n)
fewer-before f is n v h =
    let e = ap length (nodes-before f is n v h) in
    let sum = length-append (nodes_before f v) (v ∷ []) in
    omega (arith, e, sum)

pub no-before : (f : Forest) → (n : ℕ) → previous_under f n (parent_of f n) ≡ None → element_before f n ≡ None
no-before f n h = by (parent_of f n) refl h
  where
    by : (o : Option ℕ) → parent_of f n ≡ o → previous_under f n o ≡ None → element_before f n ≡ None
    by None e h = rw e refl
    by (Some p) e h =
        let none = before-none n (children_of f p) (is_among-parent f n p e) h in
        rw e (ap (λ (l : List ℕ). last_or None (filter (is_element f) l)) none)

-- AFTER

first-there : (v : ℕ) (ns : List ℕ) → first_of ns ≡ Some v → is_among v ns ≡ true
first-there v [] h = absurd (none-some (sym h))
first-there v (m ∷ ms) h = rw (eq-eqb v m (sym (some-same h))) refl

after-there : (n v : ℕ) (ns : List ℕ) → after_in n ns ≡ Some v → is_among v ns ≡ true
after-there n v [] h = absurd (none-some (sym h))
after-there n v (m ∷ ms) h =
    elim (cases_eq n m) [
      | inl same ↦ among-later v m ms (first-there v ms (rw (eq-eqb n m same) at h))
      | inr other ↦ among-later v m ms (after-there n v ms (rw (ne_eqb n m other) at h))
    ]

first-step : (v : ℕ) (ns : List ℕ) → first_of ns ≡ Some v → ns ≡ v ∷ those_after v ns
first-step v [] h = absurd (none-some (sym h))
first-step v (m ∷ ms) h = let e : m ≡ v = some-same h in rw (eq-eqb v m (sym e)) (ap (λ k. k ∷ ms) e)

-- the one just after is the first of those after
after-step : (n v : ℕ) (ns : List ℕ) → IsDistinct ns → after_in n ns ≡ Some v → those_after n ns ≡ v ∷ those_after v ns
after-step n v [] once h = absurd (none-some (sym h))
after-step n v (m ∷ ms) once h =
    elim (cases_eq n m) [
      | inl same ↦
          let first : first_of ms ≡ Some v = rw (eq-eqb n m same) at h in
          rw (eq-eqb n m same, ne_eqb v m (apart v m ms once (first-there v ms first))) (first-step v ms first)
      | inr other ↦
          let later : after_in n ms ≡ Some v = rw (ne_eqb n m other) at h in
          rw (ne_eqb n m other, ne_eqb v m (apart v m ms once (after-there n v ms later))) (after-step n v ms once.1 later)
    ]

after-none : (n : ℕ) (ns : List ℕ) → after_in n ns ≡ None → those_after n ns ≡ []
after-none n [] h = refl
after-none n (m ∷ ms) h =
    elim (cases_eq n m) [
      | inl same ↦ rw (eq-eqb n m same) (empty ms (rw (eq-eqb n m same) at h))
      | inr other ↦ rw (ne_eqb n m other) (after-none n ms (rw (ne_eqb n m other) at h))
    ]
  where
    empty : (ns : List ℕ) → first_of ns ≡ None → ns ≡ []
    empty [] h = refl
    empty (k ∷ ks) h = absurd (none-some h)

nodes-after : (f : Forest) → IsForest f → (n v : ℕ) → next_under f n (parent_of f n) ≡ Some v → nodes_after f n ≡ v ∷ nodes_after f v
nodes-after f is n v h = by (parent_of f n) refl h
  where
    by : (o : Option ℕ) → parent_of f n ≡ o → next_under f n o ≡ Some v → nodes_after f n ≡ v ∷ nodes_after f v
    by None e h = absurd (none-some (sym h))
    by (Some p) e h =
        rw (e, is.one_parent p v (after-there n v (children_of f p) h)) (after-step n v (children_of f p) (is.once p) h)

-- the element after a node is the node after, or the one after that
pub element-after : (f : Forest) → IsForest f → (n v : ℕ) → next_under f n (parent_of f n) ≡ Some v
    → element_after f n ≡ cond (is_element f v) (Some v) (element_after f v)
element-after f is n v h = ap (find (is_element f)) (nodes-after f is n v h)

pub fewer-after : (f : Forest) → IsForest f → (n v : ℕ) → next_under f n (parent_of f n) ≡ Some v
    → length (nodes_after f v) < length (nodes_after f n)
fewer-after f is n v h = let e = ap length (nodes-after f is n v h) in omega (arith, e)

pub no-after : (f : Forest) → (n : ℕ) → next_under f n (parent_of f n) ≡ None → element_after f n ≡ None
no-after f n h = by (parent_of f n) refl h
  where
    by : (o : Option ℕ) → parent_of f n ≡ o → next_under f n o ≡ None → element_after f n ≡ None
    by None e h = rw e refl
    by (Some p) e h = rw e (ap (find (is_element f)) (after-none n (children_of f p) h))
