-- The place of a node among its siblings depends on the node and its siblings alone.
use Rattle.std.proofs.Common.{◌≡◌, ℕ, Bool, true, false, List, [], ◌∷◌, Option, Some, None, inl, inr, refl, cond}
use Rattle.std.specs.Prelude.{◌&&◌, ◌||◌, ◌==◌, filter}
use Rattle.std.specs.List.{list_any}
use Rattle.std.proofs.lemmas.Bool.{cases_Bool}
use Rattle.markup.specs.Forest.{Forest, IsForest, is_among, parent_of, those_before}
use Rattle.markup.proofs.Children.{is_among-those_before}
use Rattle.markup.proofs.WholeTrees.{among-first, among-later}
use Rattle.html_selector_matching.specs.Around.{children_under, is_element, one_of, those_after}
use Rattle.html_selector_matching.specs.Selects.{is_any, is_nth_of}
use Rattle.html_selector_matching.specs.Simples.{nodes_beside}
use Rattle.selectors.specs.declared.selector.Nth.{Nth}
use Rattle.selectors.specs.declared.selector.Selectors.{Selectors}
use Rattle.html_selectors.proofs.Within.{any-element}

-- tests that agree on a list
filter-alike : (p q : ℕ → Bool) (ns : List ℕ) → ((n : ℕ) → is_among n ns ≡ true → p n ≡ q n) → filter p ns ≡ filter q ns
filter-alike p q [] same = refl
filter-alike p q (n ∷ ns) same =
    rw (same n (among-first n ns), filter-alike p q ns (λ m h. same m (among-later m n ns h))) refl

among-after : (m n : ℕ) (ns : List ℕ) → is_among m (those_after n ns) ≡ true → is_among m ns ≡ true
among-after m n [] h = absurd (cc)
among-after m n (k ∷ ks) h =
    elim (cases_Bool (n == k)) [
      | inl same ↦ among-later m k ks (rw same at h)
      | inr other ↦ among-later m k ks (among-after m n ks (rw other at h))
    ]

among-beside : (from_end : Bool) (m n : ℕ) (ns : List ℕ) → is_among m (cond from_end (those_after n ns) (those_before n ns)) ≡ true
    → is_among m ns ≡ true
among-beside true m n ns h = among-after m n ns h
among-beside false m n ns h = is_among-those_before m n ns h

-- an element that is in a column, or whose parent is in another one
pub near-element : (e own up : Bool) → (e && (own || up)) ≡ true → e ≡ true
near-element true own up h = refl
near-element false own up h = h

pub near-own : (e own up : Bool) → e ≡ true → own ≡ true → (e && (own || up)) ≡ true
near-own e own up h k = rw (h, k) refl

pub near-parent : (t : ℕ → Bool) (e own : Bool) (o : Option ℕ) (p : ℕ) → e ≡ true → o ≡ Some p → t p ≡ true
    → (e && (own || list_any t (one_of o))) ≡ true
near-parent t e true o p h up there = rw h refl
near-parent t e false o p h up there = rw (h, up, there) refl

-- a node and a sibling have one parent
record HaveParent (f : Forest) (n m : ℕ) : Type 0 where
  parent : ℕ
  of_node : parent_of f n ≡ Some parent
  of_sibling : parent_of f m ≡ Some parent

parent-by : (f : Forest) → IsForest f → (from_end : Bool) (n m : ℕ) (o : Option ℕ) → parent_of f n ≡ o
    → is_among m (children_under f o) ≡ true → HaveParent f n m
parent-by f is from_end n m None e h = absurd (cc)
parent-by f is from_end n m (Some p) e h = record { parent = p; of_node = e; of_sibling = is.one_parent p m h }

-- a test that agrees on elements agrees where other nodes pass neither
within-same : (b e a : Bool) → (e ≡ true → b ≡ true) → (e && a) ≡ a → (b && a) ≡ a
within-same true e a h k = refl
within-same false true a h k = absurd (let bad = h refl in cc)
within-same false false a h k = k

-- selectors may be asked of the node and its siblings alone
pub nth-beside : (s : Selectors) (f : Forest) → IsForest f → (scope : ℕ) (nth : Nth) (n : ℕ) (those beside : ℕ → Bool)
    → ((m : ℕ) → those m ≡ (beside m && is_any s f scope m)) → beside n ≡ true
    → ((m p : ℕ) → parent_of f n ≡ Some p → parent_of f m ≡ Some p → is_element f m ≡ true → beside m ≡ true)
    → is_nth_of those nth f n ≡ is_nth_of (λ m. is_any s f scope m) nth f n
unfolding is_nth_of
nth-beside s f is scope nth n those beside asked own siblings =
    rw (
      same n (λ e. own),
      filter-alike those (λ m. is_any s f scope m) (nodes_beside nth.from_end f n)
          (λ m h. let up = parent-by f is nth.from_end n m (parent_of f n) refl
          (among-beside nth.from_end m n (children_under f (parent_of f n)) h) in
          same m (λ e. siblings m up.parent up.of_node up.of_sibling e)),
    ) refl
  where
    same : (m : ℕ) → (is_element f m ≡ true → beside m ≡ true) → those m ≡ is_any s f scope m
    same m h = rw (asked m) (within-same (beside m) (is_element f m) (is_any s f scope m) h (any-element s f scope m))
