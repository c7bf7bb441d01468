-- Columns that are written node by node.
use Rattle.std.proofs.Common.{◌≡◌, ◌∙◌, ◌<◌, ℕ, Bool, true, false, List, [], ◌∷◌, ◌++◌, length, inl, inr, refl, ap, subst, sym}
use Rattle.std.proofs.Math.ListN.{set}
use Rattle.std.specs.Prelude.{◌&&◌}
use Rattle.std.proofs.lemmas.Bool.{cases_Bool, cases_eq}
use Rattle.std.proofs.lemmas.List.{get_or-set_other, get_or-set_same}
use Rattle.markup.specs.Forest.{is_among}
use Rattle.markup.proofs.Children.{is_among-push_other, is_among-push_same}
use Rattle.html_selectors.specs.Columns.{Refines, at}

pub and-false : (b : Bool) → (b && false) ≡ false
and-false true = refl
and-false false = refl

-- one node more, after those that are done
pub mark-push : (t : ℕ → Bool) (done : List ℕ) (m : ℕ) (c : List Bool) (v : Bool) → m < length c
    → ((n : ℕ) → at c n ≡ (is_among n done && t n)) → v ≡ t m
    → (n : ℕ) → at (set c m v) n ≡ (is_among n (done ++ m ∷ []) && t n)
mark-push t done m c v there is e n =
    elim (cases_eq n m) [
      | inl same ↦ rw (same, is_among-push_same m done) (get_or-set_same c m v false there ∙ e)
      | inr other ↦ get_or-set_other c m n v false other ∙ (is n ∙ ap (λ b. b && t n) (sym (is_among-push_other n m done other)))
    ]

-- or one that fails
pub mark-pass : (t : ℕ → Bool) (done : List ℕ) (m : ℕ) (c : List Bool) → ((n : ℕ) → at c n ≡ (is_among n done && t n)) → t m ≡ false
    → (n : ℕ) → at c n ≡ (is_among n (done ++ m ∷ []) && t n)
mark-pass t done m c is fails n =
    elim (cases_eq n m) [
      | inl same ↦ let no : t n ≡ false = ap t same ∙ fails in
          is n ∙ (ap (λ b. is_among n done && b) no ∙ (and-false (is_among n done)
          ∙ sym (ap (λ b. is_among n (done ++ m ∷ []) && b) no ∙ and-false (is_among n (done ++ m ∷ [])))))
      | inr other ↦ is n ∙ ap (λ b. b && t n) (sym (is_among-push_other n m done other))
    ]

pub none-from : (b : Bool) → (b ≡ true → ⊥) → b ≡ false
none-from true h = absurd (h refl)
none-from false h = refl

-- a place of a column that was refined by a test that answers v
pub refined : (P : Bool → Type 0) (old new v : Bool) → Refines P old new → ((r : Bool) → P r → r ≡ v) → new ≡ (old && v)
refined P true new v h told = told new h
refined P false new v h told = h

pub refined-if : (P : Bool → Type 0) (old new v : Bool) → Refines P old new → (old ≡ true → (r : Bool) → P r → r ≡ v) → new ≡ (old && v)
refined-if P true new v h told = told refl new h
refined-if P false new v h told = h

pub and-regroup : (a b c : Bool) → ((a && b) && c) ≡ (a && (b && c))
and-regroup true b c = refl
and-regroup false b c = refl

-- REFINING

-- one that is still in a column was in it
refines-was : (P : Bool → Type 0) (old new : Bool) → Refines P old new → new ≡ true → old ≡ true
refines-was P true new h on = refl
refines-was P false new h on = absurd (cc)

-- one node more is asked
pub refine-step : (P : ℕ → Bool → Type 0) (done : List ℕ) (m : ℕ) (old new : List Bool) (v : Bool) → m < length new
    → ((n : ℕ) → is_among n done ≡ true → Refines (P n) (at old n) (at new n))
    → ((n : ℕ) → is_among n done ≡ false → at new n ≡ at old n) → at new m ≡ true → P m v
    → (n : ℕ) → is_among n (done ++ m ∷ []) ≡ true → Refines (P n) (at old n) (at (set new m v) n)
refine-step P done m old new v there is rest on passes n h =
    elim (cases_eq n m) [
      | inl same ↦
          let was : at old m ≡ true = elim (cases_Bool (is_among m done)) [
            | inl found ↦ refines-was (P m) (at old m) (at new m) (is m found) on
            | inr out ↦ sym (rest m out) ∙ on
          ] in
          subst (λ k. Refines (P k) (at old k) (at (set new m v) k)) (sym same)
          (subst (λ b. Refines (P m) b (at (set new m v) m)) (sym was) (subst (P m) (sym (get_or-set_same new m v false there)) passes))
      | inr other ↦ subst (λ b. Refines (P n) (at old n) b) (sym (get_or-set_other new m n v false other))
          (is n (sym (is_among-push_other n m done other) ∙ h))
    ]

pub refine-rest : (done : List ℕ) (m : ℕ) (old new : List Bool) (v : Bool)
    → ((n : ℕ) → is_among n done ≡ false → at new n ≡ at old n)
    → (n : ℕ) → is_among n (done ++ m ∷ []) ≡ false → at (set new m v) n ≡ at old n
refine-rest done m old new v rest n h =
    elim (cases_eq n m) [
      | inl same ↦ absurd (let found = is_among-push_same m done in let out = rw same at h in cc)
      | inr other ↦ get_or-set_other new m n v false other ∙ rest n (sym (is_among-push_other n m done other) ∙ h)
    ]

-- or was out of it before
pub refine-pass : (P : ℕ → Bool → Type 0) (done : List ℕ) (m : ℕ) (old new : List Bool)
    → ((n : ℕ) → is_among n done ≡ true → Refines (P n) (at old n) (at new n))
    → ((n : ℕ) → is_among n done ≡ false → at new n ≡ at old n) → at new m ≡ false
    → (n : ℕ) → is_among n (done ++ m ∷ []) ≡ true → Refines (P n) (at old n) (at new n)
refine-pass P done m old new is rest off n h =
    elim (cases_Bool (is_among n done)) [
      | inl found ↦ is n found
      | inr out ↦
          let same : n ≡ m = elim (cases_eq n m) [
            | inl same ↦ same
            | inr other ↦ absurd (let found = sym (is_among-push_other n m done other) ∙ h in cc)
          ] in
          let gone : at new n ≡ false = ap (at new) same ∙ off in
          subst (λ b. Refines (P n) b (at new n)) (sym (sym (rest n out) ∙ gone)) gone
    ]

pub refine-left : (done : List ℕ) (m : ℕ) (old new : List Bool) → ((n : ℕ) → is_among n done ≡ false → at new n ≡ at old n)
    → (n : ℕ) → is_among n (done ++ m ∷ []) ≡ false → at new n ≡ at old n
refine-left done m old new rest n h =
    elim (cases_eq n m) [
      | inl same ↦ absurd (let found = is_among-push_same m done in let out = rw same at h in cc)
      | inr other ↦ rest n (sym (is_among-push_other n m done other) ∙ h)
    ]

-- in the end all of the column were asked
pub refine-all : (P : ℕ → Bool → Type 0) (order : List ℕ) (old new : List Bool)
    → ((n : ℕ) → is_among n order ≡ true → Refines (P n) (at old n) (at new n))
    → ((n : ℕ) → is_among n order ≡ false → at new n ≡ at old n) → ((n : ℕ) → at old n ≡ true → is_among n order ≡ true)
    → (n : ℕ) → Refines (P n) (at old n) (at new n)
refine-all P order old new is rest listed n =
    elim (cases_Bool (is_among n order)) [
      | inl found ↦ is n found
      | inr out ↦
          let was : at old n ≡ false = none-from (at old n) (λ on. let found = listed n on in cc) in
          subst (λ b. Refines (P n) b (at new n)) (sym was) (rest n out ∙ was)
    ]
