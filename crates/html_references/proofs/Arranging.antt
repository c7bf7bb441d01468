-- Rows in the order of their names and places, and the first of them whose name an earlier one has.
use Rattle.std.proofs.Common.{◌≡◌, ◌∙◌, ℕ, ◌+◌, ◌-◌, ◌<◌, ◌≤◌, true, false, List, [], ◌∷◌, ◌++◌, length, get_or, map, None}
use Rattle.std.proofs.Common.{refl, sym, ap, subst, arith, ⊎_elim, inl, inr}
use Rattle.std.specs.Prelude.{◌⊎◌, All, Contains}
use Rattle.std.specs.Cmp.{IsTotalOrder, then_total, on_total, nat_cmp_total}
use Rattle.std.specs.Cmp.Lexicographic.{slice_cmp}
use Rattle.std.specs.List.{swap}
use Rattle.std.specs.List.Sorted.{IsPermutation, IsSorted}
use Rattle.std.specs.Ordering.{nat_cmp, ordering_then, ordering_reverse, is_lt}
use Rattle.std.specs.declared.cmp.Ordering.{Ordering}
use Rattle.std.specs.declared.cmp.Ordering.TheVariants.{Less, Equal, Greater}
use Rattle.std.proofs.lemmas.Bool.{and_parts, cases_lt, cases_order, true≢false}
use Rattle.std.proofs.lemmas.Bool.Decides.{nat_tests}
use Rattle.std.proofs.lemmas.Cmp.{nat_list_cmp_total}
use Rattle.std.proofs.lemmas.List.{get_or-map, get_or_append_left, get_or_default, get_or_push, length_push, length-map}
use Rattle.std.proofs.lemmas.List.Edits.{Swapped, length-swap, swapped_from_swap}
use Rattle.std.proofs.lemmas.List.Sorted.{All-permutation, Contains-permutation, IsPermutation-keeps, length_permutation}
use Rattle.std.proofs.lemmas.List.Sorted.{ranks_by, sorted_far}
use Rattle.html_references.specs.Order.{IsArranged, IsBefore, IsFirstRepeat, IsOrder, IsRepeat, is_good, name_at, ordered_name}
use Rattle.html_references.specs.References.{is_reference_name}
use Rattle.html_references.proofs.Orders.{IsBefore-greater, IsBefore-trans, name_at-get_or, same_from_equal}
use Rattle.html_tokens.specs.declared.table.ReferenceRow.{ReferenceRow}

-- no name stands before itself
IsBefore-itself : (a : List ℕ) → IsBefore a a → ⊥
IsBefore-itself a h = let e : Less ≡ Greater = sym h ∙ (nat_list_cmp_total.antisymm a a ∙ ap ordering_reverse h) in cc

IsBefore-same : (a b : List ℕ) → a ≡ b → IsBefore a b → ⊥
IsBefore-same a b e h = IsBefore-itself a (subst (IsBefore a) (sym e) h)

-- between two names that are the same stands no other
between-same : (a b c : List ℕ) → IsBefore a b ⊎ (a ≡ b) → IsBefore b c ⊎ (b ≡ c) → a ≡ c → a ≡ b
between-same a b c (inr e) k same = e
between-same a b c (inl h) (inl k) same = absurd (IsBefore-same a c same (IsBefore-trans a b c h k))
between-same a b c (inl h) (inr e) same = same ∙ sym e

module _ (rows : List ReferenceRow) (order : List ℕ) (arranged : IsArranged rows order) where
  -- a name is that of one further on, or stands before it
  upto : (low high : ℕ) → low ≤ high → high < length order → IsBefore (ordered_name rows order low)
      (ordered_name rows order high) ⊎ (ordered_name rows order low ≡ ordered_name rows order high)
  upto low high l m =
      ⊎_elim
      (λ (b : low < high). ⊎_elim (λ h. inl h) (λ e. inr (e.0)) (arranged.ranked low high b m))
      (λ (b : high ≤ low). let e : low ≡ high = omega arith in inr (ap (ordered_name rows order) e))
      (cases_lt low high)

  -- where no name stands twice after one another, they rise
  rising-repeatless : ((index : ℕ) → IsRepeat rows order index → ⊥) → (low high : ℕ) → low < high
      → high < length order → IsBefore (ordered_name rows order low) (ordered_name rows order high)
  rising-repeatless none low high l m =
      ⊎_elim (λ h. h)
      (λ e. absurd (none low (
        omega arith,
        between-same _ _ _ (upto low (low + 1) (omega arith) (omega arith))
            (upto (low + 1) high (omega arith) m) e.0,
      )))
      (arranged.ranked low high l m)

  -- the first of two places with the same name stands before the other
  ranked-same : (a b i j : ℕ) → a < b → i < length order → j < length order → get_or order i 0 ≡ a
      → get_or order j 0 ≡ b → name_at rows a ≡ name_at rows b → i < j
  ranked-same a b i j l m n p q same =
      ⊎_elim
      (λ (e : i ≡ j). absurd (let f : a ≡ b = sym p ∙ (ap (λ k. get_or order k 0) e ∙ q) in omega arith))
      (λ s. ⊎_elim (λ h. h)
      (λ (h : j < i). ⊎_elim
      (λ before. absurd (IsBefore-same (ordered_name rows order j) (ordered_name rows order i)
      (ap (name_at rows) q ∙ (sym same ∙ ap (name_at rows) (sym p))) before))
      (λ e. absurd (let f : get_or order j 0 < get_or order i 0 = e.1 in omega arith))
      (arranged.ranked j i h m)) s)
      (cases_order i j)

  -- names are distinct where none stands twice after one another
  pub distinct-repeatless : ((index : ℕ) → IsRepeat rows order index → ⊥) → (a b : ℕ) → a < b → b < length rows
      → name_at rows a ≡ name_at rows b → ⊥
  distinct-repeatless none a b l m same =
      let p = arranged.whole a (omega arith) in
      let q = arranged.whole b m in
      let rises = rising-repeatless none p.0 q.0 (ranked-same a b p.0 q.0 l p.1 q.1 p.2 q.2 same) q.1 in
      IsBefore-same _ _ (ap (name_at rows) p.2 ∙ (same ∙ ap (name_at rows) (sym q.2))) rises

  -- names before the first place that repeats one are distinct
  pub distinct-before : (place : ℕ) → ((index : ℕ) → IsRepeat rows order index → place ≤ get_or order (index + 1) 0)
      → (a b : ℕ) → a < b → b < place → b < length rows → name_at rows a ≡ name_at rows b → ⊥
  distinct-before place least a b l m n same =
      let p = arranged.whole a (omega arith) in
      let q = arranged.whole b n in
      let h : p.0 < q.0 = ranked-same a b p.0 q.0 l p.1 q.1 p.2 q.2 same in
      let e : (q.0 - 1) + 1 ≡ q.0 = omega arith in
      let ends : ordered_name rows order p.0 ≡ ordered_name rows order q.0 = ap (name_at rows) p.2 ∙ (same ∙ ap (name_at rows) (sym q.2)) in
      let inside : q.0 < length order = q.1 in
      let first = between-same _ _ _ (upto p.0 (q.0 - 1) (omega arith) (omega arith)) (upto (q.0 - 1) q.0 (omega arith) inside) ends in
      let repeated : IsRepeat rows order (q.0 - 1) = (omega arith, sym first ∙ (ends ∙ ap (ordered_name rows order) (sym e))) in
      let bound : place ≤ get_or order ((q.0 - 1) + 1) 0 = least (q.0 - 1) repeated in
      let at : get_or order ((q.0 - 1) + 1) 0 ≡ b = ap (λ k. get_or order k 0) e ∙ q.2 in
      omega arith

  -- the place that repeats a name has it from an earlier one
  pub earlier-same : (index : ℕ) → IsRepeat rows order index → (get_or order index 0 < get_or order (index + 1) 0)
      × (ordered_name rows order index ≡ ordered_name rows order (index + 1))
  earlier-same index h =
      ⊎_elim
      (λ before. absurd (IsBefore-same _ _ h.1 before))
      (λ e. (e.1, h.1))
      (arranged.ranked index (index + 1) (omega arith) h.0)

-- a row, where one is wanted
some_row : ReferenceRow
some_row = record { name = []; first = 0; second = None }

-- the name at a place of good rows is good
pub good_name : (rows : List ReferenceRow) (place : ℕ) → All (λ row. is_good row ≡ true) rows → place < length rows
    → is_reference_name (name_at rows place) ≡ true
good_name rows place good l =
    ap is_reference_name (name_at-get_or rows place some_row l)
    ∙ (and_parts (is_reference_name (get_or rows place some_row).name) _ (good place some_row l)).0

-- good rows of distinct names are ordered
pub order-arranged : (rows : List ReferenceRow) (order : List ℕ) → All (λ row. is_good row ≡ true) rows
    → IsArranged rows order → IsFirstRepeat rows order None → IsOrder rows order
order-arranged rows order good arranged none = record {
  ordered = record {
    within = arranged.within;
    named = λ index l. good_name rows (get_or order index 0) good (arranged.within index l);
    rising = rising-repeatless rows order arranged none;
  };
  whole = arranged.whole;
}

-- how far names and places of values are those of rows
pub record AreNamed {X : Type 0} (name_of : X → List ℕ) (place_of : X → ℕ) (rows : List ReferenceRow) (n : ℕ) (xs : List X) : Type 0 where
  pub count : length xs ≡ n
  pub places : (k : ℕ) (d : X) → k < n → place_of (get_or xs k d) ≡ k
  pub names : (k : ℕ) (d : X) → k < n → name_of (get_or xs k d) ≡ name_at rows k

module _ {X : Type 0} (name_of : X → List ℕ) (place_of : X → ℕ) where
  pub AreNamed-nil : (rows : List ReferenceRow) → AreNamed name_of place_of rows 0 []
  AreNamed-nil rows = record { count = refl; places = λ k d l. absurd (omega arith); names = λ k d l. absurd (omega arith) }

  pub AreNamed-push : (rows : List ReferenceRow) (n : ℕ) (xs : List X) (x : X) → AreNamed name_of place_of rows n xs
      → place_of x ≡ n → name_of x ≡ name_at rows n → AreNamed name_of place_of rows (n + 1) (xs ++ x ∷ [])
  AreNamed-push rows n xs x h p q = record {
    count = length_push xs x ∙ ap (λ k. k + 1) h.count;
    places = λ k d l. ⊎_elim
        (λ (b : k < n). ap place_of (get_or_append_left xs (x ∷ []) d k (omega (arith, h.count))) ∙ h.places k d b)
        (λ (b : n ≤ k). let e : k ≡ n = omega arith in rw e (ap place_of (get_or_push xs x d n h.count) ∙ p))
        (cases_lt k n);
    names = λ k d l. ⊎_elim
        (λ (b : k < n). ap name_of (get_or_append_left xs (x ∷ []) d k (omega (arith, h.count))) ∙ h.names k d b)
        (λ (b : n ≤ k). let e : k ≡ n = omega arith in rw e (ap name_of (get_or_push xs x d n h.count) ∙ q))
        (cases_lt k n);
  }

  -- no place is had by two values
  abbrev AreApart : List X → Type 0
  AreApart xs = (i j : ℕ) (d : X) → i < length xs → j < length xs → place_of (get_or xs i d) ≡ place_of (get_or xs j d) → i ≡ j

  -- an index of a list in which two elements were exchanged, and the one that it had
  record Source (xs : List X) (a b k : ℕ) (d : X) : Type 0 where
    from : ℕ
    inside : from < length xs
    same : get_or (swap xs a b) k d ≡ get_or xs from d
    way : ((k ≡ a) × (from ≡ b)) ⊎ (((k ≡ b) × (from ≡ a)) ⊎ ((k ≡ a → ⊥) × (k ≡ b → ⊥) × (from ≡ k)))

  source : (xs : List X) (a b k : ℕ) (d : X) → a < length xs → b < length xs → k < length xs → Source xs a b k d
  source xs a b k d l m n =
      let s : Swapped (λ i. get_or xs i d) (λ i. get_or (swap xs a b) i d) a b = swapped_from_swap xs (swap xs a b) a b d l m refl in
      ⊎_elim
      (λ (e : k ≡ a). record { from = b; inside = m; same = ap (λ i. get_or (swap xs a b) i d) e ∙ s.0; way = inl (e, refl) })
      (λ u. let ne : k ≡ a → ⊥ = λ e. ⊎_elim (λ (h : k < a). omega arith) (λ (h : a < k). omega arith) u in
      ⊎_elim
      (λ (e : k ≡ b). record { from = a; inside = l; same = ap (λ i. get_or (swap xs a b) i d) e ∙ s.1; way = inr (inl (e, refl)) })
      (λ v. let nb : k ≡ b → ⊥ = λ e. ⊎_elim (λ (h : k < b). omega arith) (λ (h : b < k). omega arith) v in
      record { from = k; inside = n; same = s.2 k ne nb; way = inr (inr (ne, nb, refl)) })
      (cases_order k b))
      (cases_order k a)

  same_source : (a b i j p q : ℕ) → ((i ≡ a) × (p ≡ b)) ⊎ (((i ≡ b) × (p ≡ a)) ⊎ ((i ≡ a → ⊥) × (i ≡ b → ⊥) × (p ≡ i)))
      → ((j ≡ a) × (q ≡ b)) ⊎ (((j ≡ b) × (q ≡ a)) ⊎ ((j ≡ a → ⊥) × (j ≡ b → ⊥) × (q ≡ j))) → p ≡ q → i ≡ j
  same_source a b i j p q (inl u) (inl v) e = omega (arith, u.0, v.0)
  same_source a b i j p q (inl u) (inr (inl v)) e = omega (arith, u.0, u.1, v.0, v.1)
  same_source a b i j p q (inl u) (inr (inr v)) e = absurd (v.1 (omega (arith, u.1, v.2)))
  same_source a b i j p q (inr (inl u)) (inl v) e = omega (arith, u.0, u.1, v.0, v.1)
  same_source a b i j p q (inr (inl u)) (inr (inl v)) e = omega (arith, u.0, v.0)
  same_source a b i j p q (inr (inl u)) (inr (inr v)) e = absurd (v.0 (omega (arith, u.1, v.2)))
  same_source a b i j p q (inr (inr u)) (inl v) e = absurd (u.1 (omega (arith, u.2, v.1)))
  same_source a b i j p q (inr (inr u)) (inr (inl v)) e = absurd (u.0 (omega (arith, u.2, v.1)))
  same_source a b i j p q (inr (inr u)) (inr (inr v)) e = omega (arith, u.2, v.2)

  apart-swap : (xs : List X) (a b : ℕ) → a < length xs → b < length xs → AreApart xs → AreApart (swap xs a b)
  apart-swap xs a b l m h i j d p q e =
      let n : length (swap xs a b) ≡ length xs = length-swap xs a b in
      let s = source xs a b i d l m (omega arith) in
      let t = source xs a b j d l m (omega arith) in
      same_source a b i j s.from t.from s.way t.way
      (h s.from t.from d s.inside t.inside (ap place_of (sym s.same) ∙ (e ∙ ap place_of t.same)))

  apart-permutation : (xs ys : List X) → IsPermutation xs ys → AreApart xs → AreApart ys
  apart-permutation xs ys p h = IsPermutation-keeps xs AreApart h (λ l i j a b k. apart-swap l i j a b k) ys p

  apart-named : (rows : List ReferenceRow) (n : ℕ) (xs : List X) → AreNamed name_of place_of rows n xs → AreApart xs
  apart-named rows n xs h i j d l m e =
      let c : length xs ≡ n = h.count in
      sym (h.places i d (omega arith)) ∙ (e ∙ h.places j d (omega arith))

  -- by name, and by place where names are the same
  abbrev pub compares : X → X → Ordering
  compares x y = ordering_then (slice_cmp nat_cmp (name_of x) (name_of y)) (nat_cmp (place_of x) (place_of y))

  compares_total : IsTotalOrder compares
  compares_total = then_total (on_total name_of nat_list_cmp_total) (on_total place_of nat_cmp_total)

  greater_place : (m n : ℕ) → is_lt (nat_cmp m n) ≡ false → (m ≡ n → ⊥) → n < m
  greater_place m n h ne = grind (arith, nat_tests)

  -- of two values of which the second is not less, and which have not the same place, the first stands before the second
  ranked-compared : (x y : X) (o : Ordering) → slice_cmp nat_cmp (name_of y) (name_of x) ≡ o
      → is_lt (ordering_then o (nat_cmp (place_of y) (place_of x))) ≡ false → (place_of y ≡ place_of x → ⊥)
      → IsBefore (name_of x) (name_of y) ⊎ ((name_of x ≡ name_of y) × (place_of x < place_of y))
  ranked-compared x y Less e h ne = absurd (true≢false h)
  ranked-compared x y Equal e h ne = inr (sym (same_from_equal (name_of y) (name_of x) e), greater_place (place_of y) (place_of x) h ne)
  ranked-compared x y Greater e h ne = inl (IsBefore-greater (name_of y) (name_of x) e)

  some_value : (xs : List X) → 0 < length xs → X
  some_value [] l = absurd (omega arith)
  some_value (x ∷ xs) l = x

  -- what is known of each value of a sorted list
  record IsKnown (rows : List ReferenceRow) (x : X) : Type 0 where
    inside : place_of x < length rows
    name : name_of x ≡ name_at rows (place_of x)

  known-named : (rows : List ReferenceRow) (xs : List X) → AreNamed name_of place_of rows (length rows) xs → All (IsKnown rows) xs
  known-named rows xs h k d l =
      let c : length xs ≡ length rows = h.count in
      let p : place_of (get_or xs k d) ≡ k = h.places k d (omega arith) in
      record { inside = omega arith; name = h.names k d (omega arith) ∙ ap (name_at rows) (sym p) }

  -- the places of rows whose names and places were sorted
  pub IsArranged-sorted : (rows : List ReferenceRow) (xs ys : List X) → AreNamed name_of place_of rows
      (length rows) xs → IsPermutation xs ys → IsSorted compares ys → IsArranged rows (map place_of ys)
  IsArranged-sorted rows xs ys h p sorted =
      let c : length xs ≡ length rows = h.count in
      let n : length ys ≡ length xs = length_permutation xs ys p in
      let m : length (map place_of ys) ≡ length ys = length-map ys place_of in
      let known : All (IsKnown rows) ys = All-permutation (IsKnown rows) xs ys p (known-named rows xs h) in
      let apart : AreApart ys = apart-permutation xs ys p (apart-named rows (length rows) xs h) in
      let at = λ (i : ℕ) (d : X) (l : i < length ys). get_or-map place_of ys i d 0 l in
      let name = λ (i : ℕ) (d : X) (l : i < length ys). ap (name_at rows) (at i d l) ∙ sym ((known i d l).name) in
      record {
        within = λ index l.
            let inside : index < length ys = omega arith in
            let d = some_value ys (omega arith) in
            rw (at index d inside) ((known index d inside).inside);
        whole = λ place l.
            let d = some_value xs (omega arith) in
            let found : Contains ys (get_or xs place d) = Contains-permutation xs ys (get_or xs place d) p
            (place, omega arith, get_or_default xs place (get_or xs place d) d (omega arith)) in
            (found.0, omega (arith, found.1), at found.0 (get_or xs place d) found.1 ∙ (ap place_of found.2 ∙ h.places place d l));
        ranked = λ low high l k.
            let inside : high < length ys = omega arith in
            let before : low < length ys = omega arith in
            let d = some_value ys (omega arith) in
            let far : is_lt (compares (get_or ys high d) (get_or ys low d)) ≡ false =
            sorted_far (λ x y. is_lt (compares x y)) (ranks_by compares_total (λ x. x)) ys sorted low high d (omega arith) inside in
            let ne : place_of (get_or ys high d) ≡ place_of (get_or ys low d) → ⊥ =
            λ e. (let q : high ≡ low = apart high low d inside before e in omega arith) in
            ⊎_elim
            (λ b. inl (rw (name low d before, name high d inside) b))
            (λ e. inr (name low d before ∙ (e.0 ∙ sym (name high d inside)), rw (at low d before, at high d inside) (e.1)))
            (ranked-compared (get_or ys low d) (get_or ys high d) _ refl far ne);
      }
