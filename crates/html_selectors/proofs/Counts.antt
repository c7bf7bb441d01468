-- Places that are written down child by child.
use Rattle.std.proofs.Common.{◌≡◌, ◌∙◌, ◌+◌, ◌<◌, ◌≤◌, ℕ, suc, Bool, true, false, List, [], ◌∷◌, length, Option, Some, None}
use Rattle.std.proofs.Common.{inl, inr, refl, ap, arith, sym}
use Rattle.std.proofs.Math.ListN.{set}
use Rattle.std.specs.Prelude.{cond, filter, nat_lt}
use Rattle.std.specs.List.{list_any}
use Rattle.std.proofs.lemmas.Bool.{cases_Bool, cases_eq, cases_order, eq-eqb, le-ltb, lt-ltb, ne_eqb}
use Rattle.std.proofs.lemmas.List.{get_or-set_other, get_or-set_same}
use Rattle.markup.specs.Forest.{Forest, IsDistinct, IsForest, children_of, is_among, node_count, parent_of, those_before}
use Rattle.markup.proofs.Forests.{IsParent-from_child}
use Rattle.markup.proofs.Parents.{is_among-parent}
use Rattle.html_selector_matching.specs.Around.{children_under, those_after}
use Rattle.html_selector_matching.specs.Simples.{nodes_beside, place_of}
use Rattle.html_selectors.specs.Columns.{at, place_among, place_at}
use Rattle.html_selectors.proofs.Lists.{filter-same}

-- how many pass, of a list with one more
pub count-next : (t : ℕ → Bool) (n : ℕ) (ns : List ℕ) → length (filter t (n ∷ ns)) ≡ cond (t n) 1 0 + length (filter t ns)
count-next t n ns =
    elim (cases_Bool (t n)) [
      | inl passes ↦ rw passes (omega arith)
      | inr fails ↦ rw fails (omega arith)
    ]

-- what is written down in the end, once `place` is that of the first of those that are left
abbrev from_first : (ℕ → Bool) → ℕ → List ℕ → List ℕ → ℕ → ℕ
from_first t place ns places n = cond (is_among n ns) (place + length (filter t (those_before n ns))) (place_at places n)

pub first-step : (t : ℕ → Bool) (place : ℕ) (m : ℕ) (ns places : List ℕ) → IsDistinct (m ∷ ns) → m < length places → (n : ℕ)
    → from_first t (place + cond (t m) 1 0) ns (set places m place) n ≡ from_first t place (m ∷ ns) places n
first-step t place m ns places once there n =
    elim (cases_eq n m) [
      | inl same ↦ rw (same, once.0, eq-eqb m m refl, get_or-set_same places m place 1 there) (omega arith)
      | inr other ↦ rw (ne_eqb n m other, ne_eqb m n (λ e. other (sym e)), get_or-set_other places m n place 1 other)
          (ap (λ k. cond (is_among n ns) k (place_at places n)) (let e = count-next t m (those_before n ns) in omega (arith, e)))
    ]

abbrev from_last : (ℕ → Bool) → List ℕ → List ℕ → ℕ → ℕ
from_last t ns places n = cond (is_among n ns) (suc (length (filter t (those_after n ns)))) (place_at places n)

pub last-step : (t : ℕ → Bool) (left : ℕ) (m : ℕ) (ns places : List ℕ) → left ≡ length (filter t ns) → IsDistinct (m ∷ ns)
    → m < length places → (n : ℕ) → from_last t ns (set places m (left + 1)) n ≡ from_last t (m ∷ ns) places n
last-step t left m ns places e once there n =
    elim (cases_eq n m) [
      | inl same ↦ rw (same, once.0, eq-eqb m m refl, get_or-set_same places m (left + 1) 1 there) (omega (arith, e))
      | inr other ↦ rw (ne_eqb n m other, get_or-set_other places m n (left + 1) 1 other) refl
    ]

pub count-one : (b : Bool) → cond b 1 0 ≤ 1
count-one true = omega arith
count-one false = omega arith

pub count-few : (t : ℕ → Bool) (ns : List ℕ) → length (filter t ns) ≤ length ns
count-few t [] = omega arith
count-few t (n ∷ ns) =
    let rest = count-few t ns in
    let one = count-one (t n) in
    let next = count-next t n ns in
    omega (arith, rest, one, next)

-- PARENT BY PARENT

-- what is written down for a node, once the children of the first parents are done; `none` before
abbrev pub entered : {A : Type 0} → A → (ℕ → A) → ℕ → ℕ → Option ℕ → A
entered none value count n None = none
entered none value count n (Some p) = cond (nat_lt p count) (value n) none

-- the place of a node, once those of the children of the first parents are written down
abbrev pub written : (ℕ → Bool) → Bool → Forest → ℕ → ℕ → Option ℕ → ℕ
written t from_end f count n o = entered 1 (place_of t from_end f) count n o

beside-none : (t : ℕ → Bool) (from_end : Bool) (f : Forest) (n : ℕ) → parent_of f n ≡ None → place_of t from_end f n ≡ 1
beside-none t true f n e = rw e refl
beside-none t false f n e = rw e refl

-- in the end all are
pub entered-all : {A : Type 0} (f : Forest) → IsForest f → (none : A) (value : ℕ → A) (n : ℕ) → (parent_of f n ≡ None → value n ≡ none)
    → entered none value (node_count f) n (parent_of f n) ≡ value n
entered-all f is none value n alone = by alone (parent_of f n) refl
  where
    by : (parent_of f n ≡ None → value n ≡ none) → (o : Option ℕ) → parent_of f n ≡ o → entered none value (node_count f) n o ≡ value n
    by alone None e = sym (alone e)
    by alone (Some p) e = rw (lt-ltb p (node_count f) (IsParent-from_child f n p is e).there) refl

pub written-all : (f : Forest) → IsForest f → (t : ℕ → Bool) (from_end : Bool) (n : ℕ)
    → written t from_end f (node_count f) n (parent_of f n) ≡ place_of t from_end f n
written-all f is t from_end n = entered-all f is 1 (place_of t from_end f) n (beside-none t from_end f n)

-- those of one parent more are
pub entered-more : {A : Type 0} (f : Forest) → IsForest f → (none : A) (value : ℕ → A) (count n : ℕ) (new : A)
    → (parent_of f n ≡ Some count → new ≡ value n)
    → cond (is_among n (children_of f count)) new (entered none value count n (parent_of f n))
    ≡ entered none value (count + 1) n (parent_of f n)
entered-more f is none value count n new told =
    elim (cases_Bool (is_among n (children_of f count))) [
      | inl among ↦
          let e = is.one_parent count n among in
          rw (among, e, lt-ltb count (count + 1) (omega arith)) (told e)
      | inr other ↦ rw other (by other (parent_of f n) refl)
    ]
  where
    by : is_among n (children_of f count) ≡ false → (o : Option ℕ) → parent_of f n ≡ o
        → entered none value count n o ≡ entered none value (count + 1) n o
    by other None e = refl
    by other (Some p) e =
        elim (cases_order p count) [
          | inl same ↦ absurd (let there : is_among n (children_of f count) ≡ true =
              is_among-parent f n count (e ∙ ap (λ k. Some k) same) in cc)
          | inr apart ↦ elim apart [
            | inl less ↦ rw (lt-ltb p count less, lt-ltb p (count + 1) (omega (arith, less))) refl
            | inr more ↦ rw (le-ltb p count (omega (arith, more)), le-ltb p (count + 1) (omega (arith, more))) refl
          ]
        ]

pub written-more : (f : Forest) → IsForest f → (t : ℕ → Bool) (from_end : Bool) (count n : ℕ) (place : ℕ)
    → (parent_of f n ≡ Some count → place ≡ place_of t from_end f n)
    → cond (is_among n (children_of f count)) place (written t from_end f count n (parent_of f n))
    ≡ written t from_end f (count + 1) n (parent_of f n)
written-more f is t from_end count n place told = entered-more f is 1 (place_of t from_end f) count n place told

pub entered-none : {A : Type 0} (none : A) (value : ℕ → A) (n : ℕ) (o : Option ℕ) → entered none value 0 n o ≡ none
entered-none none value n None = refl
entered-none none value n (Some p) = rw (le-ltb p 0 (omega arith)) refl

pub written-none : (t : ℕ → Bool) (from_end : Bool) (f : Forest) (n : ℕ) (o : Option ℕ) → written t from_end f 0 n o ≡ 1
written-none t from_end f n o = entered-none 1 (place_of t from_end f) n o

-- those nodes whose parents are wanted
abbrev pub owned : (ℕ → Bool) → Option ℕ → Bool
owned wanted None = true
owned wanted (Some p) = wanted p

pub beside-more : (f : Forest) → IsForest f → (t : ℕ → Bool) (from_end : Bool) (count n old : ℕ)
    → old ≡ written t from_end f count n (parent_of f n)
    → cond (is_among n (children_of f count)) (place_among t from_end n (children_of f count)) old
    ≡ written t from_end f (count + 1) n (parent_of f n)
beside-more f is t from_end count n old is_old =
    ap (λ k. cond (is_among n (children_of f count)) (place_among t from_end n (children_of f count)) k) is_old
    ∙ written-more f is t from_end count n (place_among t from_end n (children_of f count))
    (λ e. sym (ap (λ (o : Option ℕ). place_among t from_end n (children_under f o)) e))

-- or those of a parent that is not wanted
pub unwanted-more : {A : Type 0} (f : Forest) (none : A) (value : ℕ → A) (wanted : ℕ → Bool) (count n : ℕ) → wanted count ≡ false
    → owned wanted (parent_of f n) ≡ true
    → entered none value count n (parent_of f n) ≡ entered none value (count + 1) n (parent_of f n)
unwanted-more f none value wanted count n unwanted = by (parent_of f n)
  where
    by : (o : Option ℕ) → owned wanted o ≡ true → entered none value count n o ≡ entered none value (count + 1) n o
    by None own = refl
    by (Some p) own =
        elim (cases_order p count) [
          | inl same ↦ absurd (let wanted-too : wanted count ≡ true = ap wanted (sym same) ∙ own in cc)
          | inr apart ↦ elim apart [
            | inl less ↦ rw (lt-ltb p count less, lt-ltb p (count + 1) (omega (arith, less))) refl
            | inr more ↦ rw (le-ltb p count (omega (arith, more)), le-ltb p (count + 1) (omega (arith, more))) refl
          ]
        ]

pub owned-by : (f : Forest) (t wanted : ℕ → Bool) (n : ℕ) → t n ≡ true
    → ((n p : ℕ) → t n ≡ true → parent_of f n ≡ Some p → wanted p ≡ true) → owned wanted (parent_of f n) ≡ true
owned-by f t wanted n h all = by (parent_of f n) refl
  where
    by : (o : Option ℕ) → parent_of f n ≡ o → owned wanted o ≡ true
    by None e = refl
    by (Some p) e = all n p h e

-- tests that agree give the same places
pub place-same : (t u : ℕ → Bool) → ((n : ℕ) → t n ≡ u n) → (from_end : Bool) (f : Forest) (n : ℕ)
    → place_of t from_end f n ≡ place_of u from_end f n
place-same t u same from_end f n = ap (λ (l : List ℕ). suc (length l)) (filter-same t u same (nodes_beside from_end f n))

-- SOME BESIDE A NODE

-- what is written down in the end
abbrev pub some_after : (ℕ → Bool) → List ℕ → List Bool → ℕ → Bool
some_after t ns beside n = cond (is_among n ns) (list_any t (those_after n ns)) (at beside n)

pub after-step : (t : ℕ → Bool) (left : ℕ) (m : ℕ) (ns : List ℕ) (beside : List Bool) → left ≡ length (filter t ns) → IsDistinct (m ∷ ns)
    → m < length beside → (n : ℕ) → some_after t ns (set beside m (nat_lt 0 left)) n ≡ some_after t (m ∷ ns) beside n
after-step t left m ns beside e once there n =
    elim (cases_eq n m) [
      | inl same ↦ rw (same, once.0, eq-eqb m m refl, get_or-set_same beside m (nat_lt 0 left) false there)
          (ap (nat_lt 0) e ∙ sym (any-count t ns))
      | inr other ↦ rw (ne_eqb n m other, get_or-set_other beside m n (nat_lt 0 left) false other) refl
    ]
  where
    any-count : (t : ℕ → Bool) (ns : List ℕ) → list_any t ns ≡ nat_lt 0 (length (filter t ns))
    any-count t [] = refl
    any-count t (n ∷ ns) =
        elim (cases_Bool (t n)) [
          | inl passes ↦ rw passes (sym (lt-ltb 0 _ (omega arith)))
          | inr fails ↦ rw fails (any-count t ns)
        ]

-- whether some of the nodes beside a node pass
abbrev pub any_beside : (ℕ → Bool) → Bool → Forest → ℕ → Bool
any_beside t from_end f n = list_any t (nodes_beside from_end f n)

-- the children of one parent more are done
pub any-more : (f : Forest) → IsForest f → (t : ℕ → Bool) (count n : ℕ) (old : Bool)
    → old ≡ entered false (any_beside t true f) count n (parent_of f n)
    → cond (is_among n (children_of f count)) (list_any t (those_after n (children_of f count))) old
    ≡ entered false (any_beside t true f) (count + 1) n (parent_of f n)
any-more f is t count n old is_old =
    ap (λ b. cond (is_among n (children_of f count)) (list_any t (those_after n (children_of f count))) b) is_old
    ∙ entered-more f is false (any_beside t true f) count n (list_any t (those_after n (children_of f count)))
    (λ e. sym (ap (λ (o : Option ℕ). list_any t (those_after n (children_under f o))) e))

pub any-alone : (t : ℕ → Bool) (from_end : Bool) (f : Forest) (n : ℕ) → parent_of f n ≡ None → any_beside t from_end f n ≡ false
any-alone t true f n e = rw e refl
any-alone t false f n e = rw e refl
