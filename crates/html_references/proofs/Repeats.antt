-- The first of the places that repeat a name, one index of the order after another.
use Rattle.std.proofs.Common.{◌≡◌, ℕ, ◌+◌, ◌<◌, ◌≤◌, List, length, get_or, Option, Some, None, refl, arith, ⊎_elim}
use Rattle.std.specs.Prelude.{min}
use Rattle.std.specs.Option.{option_map_or}
use Rattle.std.proofs.lemmas.Bool.{cases_lt}
use Rattle.html_references.specs.Order.{IsFirstRepeat, IsRepeat}
use Rattle.html_tokens.specs.declared.table.ReferenceRow.{ReferenceRow}

-- the same of the indices below one
abbrev pub IsFirstRepeatBelow : List ReferenceRow → List ℕ → ℕ → Option ℕ → Type 0
IsFirstRepeatBelow rows order n None = (index : ℕ) → index < n → IsRepeat rows order index → ⊥
IsFirstRepeatBelow rows order n (Some place) =
    ((index : ℕ) × IsRepeat rows order index × (get_or order (index + 1) 0 ≡ place))
    × ((index : ℕ) → index < n → IsRepeat rows order index → place ≤ get_or order (index + 1) 0)

pub below-none : (rows : List ReferenceRow) (order : List ℕ) → IsFirstRepeatBelow rows order 0 None
below-none rows order index l = absurd (omega arith)

-- an index that repeats no name
pub below-other : (rows : List ReferenceRow) (order : List ℕ) (n : ℕ) (first : Option ℕ)
    → (IsRepeat rows order n → ⊥) → IsFirstRepeatBelow rows order n first → IsFirstRepeatBelow rows order (n + 1) first
below-other rows order n None other h = λ index l r.
    ⊎_elim (λ (b : index < n). h index b r) (λ (b : n ≤ index). let e : n ≡ index = omega arith in other (rw e r)) (cases_lt index n)
below-other rows order n (Some place) other h = (
  h.0,
  λ index l r. ⊎_elim (λ (b : index < n). h.1 index b r)
      (λ (b : n ≤ index). let e : n ≡ index = omega arith in absurd (other (rw e r))) (cases_lt index n),
)

-- an index that does
pub below-repeat : (rows : List ReferenceRow) (order : List ℕ) (n : ℕ) (first : Option ℕ) → IsRepeat rows order n
    → IsFirstRepeatBelow rows order n first
    → IsFirstRepeatBelow rows order (n + 1)
    (Some (option_map_or (λ known. min known (get_or order (n + 1) 0)) first (get_or order (n + 1) 0)))
below-repeat rows order n None r h = (
  (n, r, refl),
  λ index l s. ⊎_elim (λ (b : index < n). absurd (h index b s))
      (λ (b : n ≤ index). let e : index ≡ n = omega arith in rw e (omega arith)) (cases_lt index n),
)
below-repeat rows order n (Some known) r h =
    ⊎_elim
    (λ (b : known < get_or order (n + 1) 0).
    let e : min known (get_or order (n + 1) 0) ≡ known = omega arith in
    rw e (
      h.0,
      λ index l s. ⊎_elim (λ (c : index < n). h.1 index c s)
          (λ (c : n ≤ index). let f : index ≡ n = omega arith in rw f (omega arith)) (cases_lt index n),
    ))
    (λ (b : get_or order (n + 1) 0 ≤ known).
    let e : min known (get_or order (n + 1) 0) ≡ get_or order (n + 1) 0 = omega arith in
    rw e (
      (n, r, refl),
      λ index l s. ⊎_elim
          (λ (c : index < n). let k : known ≤ get_or order (index + 1) 0 = h.1 index c s in omega arith)
          (λ (c : n ≤ index). let f : index ≡ n = omega arith in rw f (omega arith))
          (cases_lt index n),
    ))
    (cases_lt known (get_or order (n + 1) 0))

-- all indices below the order's length are all that can repeat a name
pub below-all : (rows : List ReferenceRow) (order : List ℕ) (n : ℕ) (first : Option ℕ) → length order ≤ n
    → IsFirstRepeatBelow rows order n first → IsFirstRepeat rows order first
below-all rows order n None l h = λ index r. h index (omega (arith, r.0)) r
below-all rows order n (Some place) l h = (h.0, λ index r. h.1 index (omega (arith, r.0)) r)
