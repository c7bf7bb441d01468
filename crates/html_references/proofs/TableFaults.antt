-- The first faulty row of a table, by what is wrong with rows by themselves and by names that repeat earlier ones.
use Rattle.std.proofs.Common.{◌≡◌, ◌∙◌, ℕ, zero, suc, ◌+◌, ◌<◌, ◌≤◌, Bool, true, false, cond, List, [], ◌∷◌, length, get_or}
use Rattle.std.proofs.Common.{take, drop, Some, None, refl, sym, ap, subst, arith, add-one}
use Rattle.std.specs.Prelude.{All, not, ◌&&◌}
use Rattle.std.specs.Str.{bytes_eq}
use Rattle.std.proofs.lemmas.Bool.{and_parts, cond-true, cond-false, not_from_false, not_from_true}
use Rattle.std.proofs.lemmas.List.{drop_all, get_or_default, get_or-take, length-take-le, take_all}
use Rattle.std.proofs.lemmas.Slice.Eq.{bytes_eq-Decides}
use Rattle.html_references.specs.Order.{IsArranged, IsFirstRepeat, IsOrder, IsTable, is_good, name_at, own_fault}
use Rattle.html_references.specs.References.{fault_after, fault_of, first_fault, has_values, is_named, is_reference_name}
use Rattle.html_references.proofs.Arranging.{distinct-before, distinct-repeatless, earlier-same, order-arranged}
use Rattle.html_references.proofs.Faults.{fault_after-absent, fault_after-named, first_fault-at}
use Rattle.html_references.proofs.Matches.{any_at, place_of_any}
use Rattle.html_references.proofs.Orders.{name_at-get_or}
use Rattle.html_tokens.specs.declared.table.ReferenceRow.{ReferenceRow}
use Rattle.html_tokens.specs.declared.table.TableFault.TheVariants.{BadName, BadValue, Duplicate}

name_at-take : (rows : List ReferenceRow) (n place : ℕ) → place < n → name_at (take n rows) place ≡ name_at rows place
name_at-take [] zero place l = refl
name_at-take [] (suc n) place l = refl
name_at-take (row ∷ rows) zero place l = absurd (omega arith)
name_at-take (row ∷ rows) (suc n) zero l = refl
name_at-take (row ∷ rows) (suc n) (suc place) l = name_at-take rows n place (omega arith)

-- no two of the first rows have the same name
abbrev pub AreDistinct : List ReferenceRow → ℕ → Type 0
AreDistinct rows n = (a b : ℕ) → a < b → b < n → name_at rows a ≡ name_at rows b → ⊥

-- a name that no row of the front has
not_named : (rows : List ReferenceRow) (n : ℕ) (row : ReferenceRow) → n < length rows → name_at rows n ≡ row.name
    → AreDistinct rows (n + 1) → is_named (take n rows) row.name ≡ false
not_named rows n row l e distinct = decided (is_named (take n rows) row.name) refl
  where
    decided : (b : Bool) → is_named (take n rows) row.name ≡ b → is_named (take n rows) row.name ≡ false
    decided false h = h
    decided true h =
        let p = place_of_any (λ name. bytes_eq name row.name) (take n rows) h in
        let k : length (take n rows) ≡ n = length-take-le n rows (omega arith) in
        absurd (distinct p.0 n (omega (arith, p.1)) (omega arith)
        (sym (name_at-take rows n p.0 (omega (arith, p.1)))
        ∙ ((bytes_eq-Decides (name_at (take n rows) p.0) row.name).0 p.2 ∙ sym e)))

-- a row, where one is wanted
abbrev pub some_row : ReferenceRow
some_row = record { name = []; first = 0; second = None }

-- good rows of distinct names have no fault
pub front_without_fault : (rows : List ReferenceRow) (n : ℕ) → n ≤ length rows
    → ((k : ℕ) → k < n → is_good (get_or rows k some_row) ≡ true) → AreDistinct rows n
    → first_fault [] rows ≡ first_fault (take n rows) (drop n rows)
front_without_fault rows zero l good distinct = refl
front_without_fault rows (suc n) l good distinct =
    let row = get_or rows n some_row in
    let parts = and_parts (is_reference_name row.name) (has_values row) (good n (omega arith)) in
    let same : name_at rows n ≡ row.name = name_at-get_or rows n some_row (omega arith) in
    let rest = front_without_fault rows n (omega arith) (λ k m. good k (omega arith)) (λ a b m o. distinct a b m (omega arith)) in
    let unnamed = not_named rows n row (omega arith) same (λ a b m o. distinct a b m (omega arith)) in
    rw (← add-one n) (first_fault-at rows n row None (omega arith)
    (get_or_default rows n some_row row (omega arith)) (fault_after-absent (take n rows) row parts.0 parts.1 unnamed) rest)

-- a row that is not good by itself
fault_after-own : (earlier : List ReferenceRow) (row : ReferenceRow) (n v : Bool) → is_reference_name row.name ≡ n
    → has_values row ≡ v → n && v ≡ false → fault_after earlier row ≡ Some
    (cond n (BadValue (length earlier + 1)) (BadName (length earlier + 1)))
fault_after-own earlier row false v p q h = cond-true (not (is_reference_name row.name)) _ _ (not_from_false _ p)
fault_after-own earlier row true false p q h =
    cond-false (not (is_reference_name row.name)) _ _ (not_from_true _ p) ∙ cond-true (not (has_values row)) _ _ (not_from_false _ q)
fault_after-own earlier row true true p q h = cc

front_good : (rows : List ReferenceRow) (n : ℕ) → n ≤ length rows → All (λ row. is_good row ≡ true) (take n rows)
    → (k : ℕ) → k < n → is_good (get_or rows k some_row) ≡ true
front_good rows n l good k m =
    ap is_good (sym (get_or-take n rows k some_row m))
    ∙ good k some_row (let e : length (take n rows) ≡ n = length-take-le n rows l in omega arith)

-- names that are distinct in a front are so in all
distinct_in_front : (rows : List ReferenceRow) (n m : ℕ) → m ≤ n
    → ((a b : ℕ) → a < b → b < m → name_at (take n rows) a ≡ name_at (take n rows) b → ⊥) → AreDistinct rows m
distinct_in_front rows n m l h a b p q e = h a b p q (name_at-take rows n a (omega arith) ∙ (e ∙ sym (name_at-take rows n b (omega arith))))

module _ (rows : List ReferenceRow) (n : ℕ) (order : List ℕ) (within : n ≤ length rows)
    (good : All (λ row. is_good row ≡ true) (take n rows)) (arranged : IsArranged (take n rows) order) where
  front_length : length (take n rows) ≡ n
  front_length = length-take-le n rows within

  -- a front of good rows of which none repeats a name has no fault
  no_fault_in_front : IsFirstRepeat (take n rows) order None → first_fault [] rows ≡ first_fault (take n rows) (drop n rows)
  no_fault_in_front none =
      front_without_fault rows n within (front_good rows n within good)
      (distinct_in_front rows n n (omega arith)
      (λ a b l m. distinct-repeatless (take n rows) order arranged none a b l (omega (arith, front_length))))

  -- all rows are good, and none repeats a name
  pub table-whole : IsFirstRepeat (take n rows) order None → length rows ≤ n → IsTable rows order
  table-whole none long = record {
    checked = no_fault_in_front none ∙ ap (first_fault (take n rows)) (drop_all n rows long);
    order_of = subst (λ (rs : List ReferenceRow). IsOrder rs order) (take_all n rows long)
        (order-arranged (take n rows) order good arranged none);
  }

  -- the first row that is not good is the first faulty one
  pub own_fault-first : (row : ReferenceRow) → IsFirstRepeat (take n rows) order None → n < length rows
      → row ≡ get_or rows n row → is_good row ≡ false → fault_of rows ≡ Some (own_fault (n + 1) row)
  own_fault-first row none l e bad =
      first_fault-at rows n row (Some (own_fault (n + 1) row)) l e
      (fault_after-own (take n rows) row _ _ refl refl bad ∙ ap (λ k. Some (own_fault (k + 1) row)) front_length)
      (no_fault_in_front none)

  -- the first row that repeats a name is the first faulty one
  pub duplicate-first : (place : ℕ) → IsFirstRepeat (take n rows) order (Some place) → fault_of rows ≡ Some (Duplicate (place + 1))
  duplicate-first place repeated =
      let index = (repeated.0).0 in
      let again = (repeated.0).1 in
      let at : get_or order (index + 1) 0 ≡ place = (repeated.0).2 in
      let earlier = earlier-same (take n rows) order arranged index again in
      let inside : get_or order (index + 1) 0 < length (take n rows) = arranged.within (index + 1) (again.0) in
      let below : place < n = omega (arith, front_length) in
      let row = get_or rows place some_row in
      let parts = and_parts (is_reference_name row.name) (has_values row) (front_good rows n within good place below) in
      let e : get_or order index 0 < place = omega (arith, earlier.0) in
      let long : length (take place rows) ≡ place = length-take-le place rows (omega arith) in
      let same : name_at (take place rows) (get_or order index 0) ≡ row.name =
      name_at-take rows place (get_or order index 0) e
      ∙ (sym (name_at-take rows n (get_or order index 0) (omega arith))
      ∙ (earlier.1 ∙ (ap (name_at (take n rows)) at
      ∙ (name_at-take rows n place below ∙ name_at-get_or rows place some_row (omega arith))))) in
      let named : is_named (take place rows) row.name ≡ true =
      any_at (λ name. bytes_eq name row.name) (take place rows) (get_or order index 0) (omega arith)
      ((bytes_eq-Decides (name_at (take place rows) (get_or order index 0)) row.name).1 same) in
      first_fault-at rows place row (Some (Duplicate (place + 1))) (omega arith) (get_or_default rows place some_row row (omega arith))
      (fault_after-named (take place rows) row parts.0 parts.1 named ∙ ap (λ k. Some (Duplicate (k + 1))) long)
      (front_without_fault rows place (omega arith) (λ k m. front_good rows n within good k (omega arith))
      (distinct_in_front rows n place (omega arith)
      (λ a b l m. distinct-before (take n rows) order arranged place repeated.1 a b l m (omega (arith, front_length)))))
