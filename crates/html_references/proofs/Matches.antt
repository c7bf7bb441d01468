-- What ordered names say of the names that a text goes on to, or begins with.
use Rattle.std.proofs.Common.{◌≡◌, ◌∙◌, ℕ, ◌<◌, ◌≤◌, ◌+◌, zero, suc, Bool, true, false, List, [], ◌∷◌, length, get_or, refl}
use Rattle.std.proofs.Common.{sym, ap, arith, ⊎_elim}
use Rattle.std.specs.Prelude.{nat_eq, nat_lt, ◌&&◌, ◌⊎◌}
use Rattle.std.specs.List.{list_any, starts_with}
use Rattle.std.specs.Ordering.{nat_cmp, ordering_then}
use Rattle.std.specs.Str.{bytes_eq}
use Rattle.std.specs.declared.cmp.Ordering.{Ordering}
use Rattle.std.specs.declared.cmp.Ordering.TheVariants.{Less, Equal}
use Rattle.std.specs.Cmp.Lexicographic.{slice_cmp}
use Rattle.std.proofs.lemmas.Bool.{and_parts, and_from, cases_lt, cases_order, eqb-true, eq-eqb, false_from_ne_true, lt-ltb}
use Rattle.std.proofs.lemmas.Bool.{ltb-true, or_cases, or_left, or_right, true≢false}
use Rattle.std.proofs.lemmas.Bool.Decides.{nat_tests}
use Rattle.std.proofs.lemmas.Cmp.{nat_list_cmp_total, tied_itself}
use Rattle.std.proofs.lemmas.Slice.Eq.{bytes_eq-Decides}
use Rattle.html_references.specs.References.{goes_on, goes_on_after, is_named}
use Rattle.html_references.specs.Order.{IsBefore, IsOrder, IsOrdered, IsPlaceOf, name_at, ordered_name}
use Rattle.html_tokens.specs.declared.table.ReferenceRow.{ReferenceRow}

-- a name that passes is at some place, and the other way round
pub any_at : (test : List ℕ → Bool) (rows : List ReferenceRow) (place : ℕ) → place < length rows
    → test (name_at rows place) ≡ true → list_any (λ row. test row.name) rows ≡ true
any_at test [] place l h = absurd (omega arith)
any_at test (row ∷ rows) zero l h = or_left (test row.name) _ h
any_at test (row ∷ rows) (suc place) l h = or_right (test row.name) _ (any_at test rows place (omega arith) h)

pub place_of_any : (test : List ℕ → Bool) (rows : List ReferenceRow) → list_any (λ row. test row.name) rows ≡ true
    → (place : ℕ) × (place < length rows) × (test (name_at rows place) ≡ true)
place_of_any test [] h = absurd (true≢false (sym h))
place_of_any test (row ∷ rows) h =
    ⊎_elim
    (λ (e : test row.name ≡ true). (0, omega arith, e))
    (λ (e : list_any (λ r. test r.name) rows ≡ true). let p = place_of_any test rows e in (suc p.0, omega arith, p.2))
    (or_cases (test row.name) _ h)

nat_cmp-same : (x : ℕ) → nat_cmp x x ≡ Equal
nat_cmp-same x = grind (arith, nat_tests)

-- a first number decides, or the numbers are the same and the others decide
then_less : (x y : ℕ) (o : Ordering) → ordering_then (nat_cmp x y) o ≡ Less → (x < y) ⊎ ((x ≡ y) × (o ≡ Less))
then_less x y o h = grind (arith, nat_tests)

same_then : (x y : ℕ) (o p : Ordering) → x ≡ y → o ≡ p → ordering_then (nat_cmp x y) o ≡ p
same_then x y o p e h = rw (e, nat_cmp-same y) h

not_after : (x y : ℕ) (o : Ordering) → x < y → ordering_then (nat_cmp y x) o ≡ Less → ⊥
not_after x y o l h = grind (arith, nat_tests)

-- what begins with a text and stands after it is longer
pub longer_when_before : (held name : List ℕ) → starts_with nat_eq name held ≡ true → IsBefore held name
    → nat_lt (length held) (length name) ≡ true
longer_when_before [] [] s b = cc
longer_when_before [] (x ∷ xs) s b = lt-ltb _ _ (omega arith)
longer_when_before (h ∷ hs) [] s b = cc
longer_when_before (h ∷ hs) (x ∷ xs) s b =
    let p = and_parts (nat_eq h x) (starts_with nat_eq xs hs) s in
    let e : h ≡ x = eqb-true h x p.0 in
    ⊎_elim
    (λ (l : h < x). absurd (omega arith))
    (λ (r : (h ≡ x) × (slice_cmp nat_cmp hs xs ≡ Less)).
    let m : length hs < length xs = ltb-true _ _ (longer_when_before hs xs p.1 r.1) in
    lt-ltb _ _ (omega arith))
    (then_less h x _ b)

-- a text stands before what goes on after it
pub before_when_longer : (held name : List ℕ) → goes_on_after held name ≡ true → IsBefore held name
before_when_longer [] [] h = cc
before_when_longer [] (x ∷ xs) h = refl
before_when_longer (h ∷ hs) [] g = cc
before_when_longer (h ∷ hs) (x ∷ xs) g =
    let p = and_parts (nat_eq h x && starts_with nat_eq xs hs) (nat_lt (suc (length hs)) (suc (length xs))) g in
    let q = and_parts (nat_eq h x) (starts_with nat_eq xs hs) p.0 in
    let l : suc (length hs) < suc (length xs) = ltb-true _ _ p.1 in
    same_then h x _ Less (eqb-true h x q.0) (before_when_longer hs xs (and_from _ _ q.1 (lt-ltb (length hs) (length xs) (omega arith))))

-- what stands between a text and something that begins with it begins with it too
pub starts_between : (held a b : List ℕ) → IsBefore held a → IsBefore a b → starts_with nat_eq b held ≡ true
    → starts_with nat_eq a held ≡ true
starts_between [] a b p q s = refl
starts_between (h ∷ hs) [] b p q s = cc
starts_between (h ∷ hs) (x ∷ xs) [] p q s = cc
starts_between (h ∷ hs) (x ∷ xs) (y ∷ ys) p q s =
    let r = and_parts (nat_eq h y) (starts_with nat_eq ys hs) s in
    let e : h ≡ y = eqb-true h y r.0 in
    ⊎_elim
    (λ (l : h < x). absurd (not_after y x _ (omega arith) q))
    (λ (u : (h ≡ x) × (slice_cmp nat_cmp hs xs ≡ Less)).
    ⊎_elim
    (λ (l : x < y). absurd (omega arith))
    (λ (v : (x ≡ y) × (slice_cmp nat_cmp xs ys ≡ Less)).
    and_from (nat_eq h x) (starts_with nat_eq xs hs) (eq-eqb h x u.0) (starts_between hs xs ys u.1 v.1 r.1))
    (then_less x y _ q))
    (then_less h x _ p)

-- the first name after what is held tells that some name goes on
pub goes_on_first : (rows : List ReferenceRow) (order held : List ℕ) (index : ℕ) → IsOrdered rows order
    → index < length order → IsBefore held (ordered_name rows order index) → starts_with nat_eq
    (ordered_name rows order index) held ≡ true → goes_on rows held ≡ true
goes_on_first rows order held index o l b s =
    any_at (goes_on_after held) rows (get_or order index 0) (o.within index l)
    (and_from _ _ s (longer_when_before held (ordered_name rows order index) s b))

-- a text is not before itself
pub IsBefore-irrefl : (text : List ℕ) → IsBefore text text → ⊥
IsBefore-irrefl text h = let e = tied_itself nat_list_cmp_total text in absurd (different (sym e ∙ h))
  where
    different : Equal ≡ Less → ⊥
    different e = cc

-- a name that goes on stands at an index
at_index : (rows : List ReferenceRow) (order held : List ℕ) → IsOrder rows order → goes_on rows held ≡ true
    → (index : ℕ) × (index < length order) × (goes_on_after held (ordered_name rows order index) ≡ true)
at_index rows order held o g =
    let p = place_of_any (goes_on_after held) rows g in
    let w = o.whole p.0 p.1 in
    (w.0, w.1, rw w.2 p.2)

-- where the first name after what is held does not begin with it, or there is none, no name goes on
pub goes_on_none : (rows : List ReferenceRow) (order held : List ℕ) (index : ℕ) → IsOrder rows order
    → ((i : ℕ) → index ≤ i → i < length order → IsBefore held (ordered_name rows order i))
    → ((i : ℕ) → i < length order → IsBefore held (ordered_name rows order i) → index ≤ i)
    → (index < length order → starts_with nat_eq (ordered_name rows order index) held ≡ false) → goes_on rows held ≡ false
goes_on_none rows order held index o behind first none =
    false_from_ne_true (goes_on rows held)
    (λ g.
    let p = at_index rows order held o g in
    let b : IsBefore held (ordered_name rows order p.0) = before_when_longer held (ordered_name rows order p.0) p.2 in
    let le : index ≤ p.0 = first p.0 p.1 b in
    let l : index < length order = omega arith in
    let s : starts_with nat_eq (ordered_name rows order p.0) held ≡ true =
    (and_parts _ (nat_lt (length held) (length (ordered_name rows order p.0))) p.2).0 in
    let f = none l in
    let a : IsBefore held (ordered_name rows order index) = behind index (omega arith) l in
    ⊎_elim
    (λ (e : index ≡ p.0). true≢false (sym (rw (← e) at s) ∙ f))
    (λ u. ⊎_elim
    (λ (m : index < p.0). true≢false
    (sym (starts_between held (ordered_name rows order index) (ordered_name rows order p.0) a
    (o.ordered.rising index p.0 m p.1) s) ∙ f))
    (λ (m : p.0 < index). absurd (omega arith)) u)
    (cases_order index p.0))

-- a text that only would stand somewhere is no name
pub absent : (rows : List ReferenceRow) (order name : List ℕ) (index : ℕ) → IsOrder rows order
    → IsPlaceOf rows order name index → is_named rows name ≡ false
absent rows order name index o p =
    false_from_ne_true (is_named rows name)
    (λ g.
    let q = place_of_any (λ other. bytes_eq other name) rows g in
    let w = o.whole q.0 q.1 in
    let e : ordered_name rows order w.0 ≡ name = rw w.2 ((bytes_eq-Decides (name_at rows q.0) name).0 q.2) in
    ⊎_elim
    (λ (l : w.0 < index). IsBefore-irrefl name (rw e at (p.1 w.0 l)))
    (λ (l : index ≤ w.0). IsBefore-irrefl name (rw e at (p.2 w.0 l w.1)))
    (cases_lt w.0 index))

-- a name at an index of the order is before a text only if the text isn't before it
pub not_both : (a b : List ℕ) → IsBefore a b → IsBefore b a → ⊥
not_both a b p q = IsBefore-irrefl a (nat_list_cmp_total.trans a b a p q)

-- after a name come only the names at later indices
pub after_name : (rows : List ReferenceRow) (order text : List ℕ) (index : ℕ) → IsOrdered rows order
    → index < length order → ordered_name rows order index ≡ text → (i : ℕ) → i < length order
    → IsBefore text (ordered_name rows order i) → index + 1 ≤ i
after_name rows order text index o l e i m b =
    ⊎_elim
    (λ (s : i ≡ index). absurd (IsBefore-irrefl text (rw (s, e) at b)))
    (λ u. ⊎_elim
    (λ (s : i < index). absurd (not_both text (ordered_name rows order i) b (rw e at (o.rising i index s l))))
    (λ (s : index < i). omega arith) u)
    (cases_order i index)

-- after a text that is no name come only the names from its place on
pub after_place : (rows : List ReferenceRow) (order text : List ℕ) (index : ℕ) → IsPlaceOf rows order text index
    → (i : ℕ) → IsBefore text (ordered_name rows order i) → index ≤ i
after_place rows order text index p i b =
    ⊎_elim
    (λ (s : i < index). absurd (not_both text (ordered_name rows order i) b (p.1 i s)))
    (λ (s : index ≤ i). s)
    (cases_lt i index)

-- names at different places differ
pub same_place : (rows : List ReferenceRow) (order : List ℕ) → IsOrder rows order → (p q : ℕ) → p < length rows
    → q < length rows → name_at rows p ≡ name_at rows q → p ≡ q
same_place rows order o p q l m e =
    let a = o.whole p l in
    let b = o.whole q m in
    let n : ordered_name rows order a.0 ≡ ordered_name rows order b.0 = ap (name_at rows) a.2 ∙ (e ∙ sym (ap (name_at rows) b.2)) in
    ⊎_elim
    (λ (s : a.0 ≡ b.0). sym a.2 ∙ (ap (λ i. get_or order i 0) s ∙ b.2))
    (λ u. ⊎_elim
    (λ (s : a.0 < b.0). absurd (IsBefore-irrefl (ordered_name rows order b.0) (rw n at (o.ordered.rising a.0 b.0 s b.1))))
    (λ (s : b.0 < a.0). absurd (IsBefore-irrefl (ordered_name rows order b.0) (rw n at (o.ordered.rising b.0 a.0 s a.1)))) u)
    (cases_order a.0 b.0)
