-- In tree order siblings stand as they stand among the children of their parent.
use Rattle.std.proofs.Common.{◌≡◌, ◌∙◌, ◌+◌, ◌<◌, ◌≤◌, ℕ, zero, suc, Bool, true, false, List, [], ◌∷◌, ◌++◌, length, Option, Some, None}
use Rattle.std.proofs.Common.{inl, inr, refl, ap, arith, subst, sym, take}
use Rattle.std.proofs.Math.ListN.{get_or, set}
use Rattle.std.specs.Prelude.{◌&&◌, ◌||◌, filter, is_none}
use Rattle.std.specs.List.{list_any, range_with_len}
use Rattle.std.proofs.lemmas.Bool.{cases_Bool, cases_eq, eq-eqb, ne_eqb}
use Rattle.std.proofs.lemmas.List.{append-nil, append_assoc, nil_from_length}
use Rattle.markup.specs.Forest.{Forest, IsDistinct, IsForest, children_of, is_among, node_count, parent_of, those_before}
use Rattle.markup.proofs.Children.{is_among-append_right, is_among-push_other, is_among-push_same, is_among-those_before}
use Rattle.markup.proofs.WholeTrees.{among-first, among-later}
use Rattle.html_nodes.specs.Below.{IsBelow, below, each_with_below}
use Rattle.html_nodes.specs.Below.IsBelow.{child, deeper}
use Rattle.html_nodes.proofs.Distinct.{among-below, below-distinct}
use Rattle.html_nodes.proofs.Levels.{below-children}
use Rattle.html_nodes.proofs.Walking.{among-parts}
use Rattle.html_selector_matching.specs.Around.{children_under, is_element, one_of}
use Rattle.html_selector_matching.proofs.Lines.{below-more}
use Rattle.html_selectors.specs.Columns.{at}
use Rattle.html_selectors.specs.Order.{in_tree_order, is_inner, is_root, roots}
use Rattle.html_selectors.proofs.Counts.{any-alone, any_beside}
use Rattle.html_selectors.proofs.Lists.{among-left, any-same, each-among, filter-among}
use Rattle.html_selectors.proofs.Marks.{mark-push, none-from}
use Rattle.html_selectors.proofs.Steps.{any-among, done-more, element-inner}
use Rattle.html_selectors.proofs.Listing.{in-range, take-next}

both : {b : Bool} → b ≡ true → b ≡ false → ⊥
both h k = cc

some-is : {a b : ℕ} → Some a ≡ Some b → a ≡ b
some-is h = cc

none-some : {a : ℕ} → None ≡ Some a → ⊥
none-some h = cc

-- LISTS WITHOUT REPETITION

distinct-right : (xs ys : List ℕ) → IsDistinct (xs ++ ys) → IsDistinct ys
distinct-right [] ys h = h
distinct-right (x ∷ xs) ys h = distinct-right xs ys h.1

distinct-apart : (xs ys : List ℕ) (m : ℕ) → IsDistinct (xs ++ ys) → is_among m ys ≡ true → is_among m xs ≡ false
distinct-apart [] ys m h a = refl
distinct-apart (x ∷ xs) ys m h a =
    elim (cases_eq m x) [
      | inl same ↦ absurd (both (is_among-append_right x xs ys (subst (λ k. is_among k ys ≡ true) same a)) h.0)
      | inr other ↦ rw (ne_eqb m x other) (distinct-apart xs ys m h.1 a)
    ]

among-neither : (m : ℕ) (xs ys : List ℕ) → is_among m xs ≡ false → is_among m ys ≡ false → is_among m (xs ++ ys) ≡ false
among-neither m xs ys h k =
    none-from (is_among m (xs ++ ys)) (λ a. elim (among-parts m xs ys a) [ inl first ↦ both first h | inr later ↦ both later k ])

not-one : (m c : ℕ) (ns : List ℕ) → is_among m ns ≡ true → is_among c ns ≡ false → is_among m (c ∷ []) ≡ false
not-one m c ns h k =
    elim (cases_eq m c) [
      | inl same ↦ absurd (both (subst (λ j. is_among j ns ≡ true) same h) k)
      | inr other ↦ rw (ne_eqb m c other) refl
    ]

filter-distinct : (p : ℕ → Bool) (ns : List ℕ) → IsDistinct ns → IsDistinct (filter p ns)
filter-distinct p [] h = tt
filter-distinct p (n ∷ ns) h =
    elim (cases_Bool (p n)) [
      | inl passes ↦ rw passes (none-from (is_among n (filter p ns)) (λ a. both (filter-among p n ns a).0 h.0), filter-distinct p ns h.1)
      | inr fails ↦ rw fails (filter-distinct p ns h.1)
    ]

range-low : (n a count : ℕ) → is_among n (range_with_len a count) ≡ true → a ≤ n
range-low n a zero h = absurd (cc)
range-low n a (suc more) h =
    elim (cases_eq n a) [
      | inl same ↦ omega (arith, same)
      | inr other ↦ let less = range-low n (a + 1) more (rw (ne_eqb n a other) at h) in omega (arith, less)
    ]

range-distinct : (a count : ℕ) → IsDistinct (range_with_len a count)
range-distinct a zero = tt
range-distinct a (suc more) = (
  none-from (is_among a (range_with_len (a + 1) more)) (λ h. let less = range-low a (a + 1) more h in omega (arith, less)),
  range-distinct (a + 1) more,
)

before-at : (before cs : List ℕ) (c : ℕ) → is_among c before ≡ false → those_before c (before ++ c ∷ cs) ≡ before
before-at [] cs c h = rw (eq-eqb c c refl) refl
before-at (b ∷ bs) cs c h =
    elim (cases_eq c b) [
      | inl same ↦ absurd (both (among-first b bs) (subst (λ k. is_among k (b ∷ bs) ≡ false) same h))
      | inr other ↦ rw (ne_eqb b c (λ e. other (sym e)))
          (ap (λ (l : List ℕ). b ∷ l) (before-at bs cs c (rw (ne_eqb c b other) at h)))
    ]

-- SIBLINGS

-- of the siblings of a node, those that pass a test are done before it where they stand before it
abbrev Sorted : Forest → (ℕ → Bool) → List ℕ → List ℕ → Type 0
Sorted f keep done [] = Unit {0}
Sorted f keep done (n ∷ ns) =
    ((p m : ℕ) → parent_of f n ≡ Some p → is_among m (children_of f p) ≡ true → keep m ≡ true
    → is_among m done ≡ is_among m (those_before n (children_of f p))) × Sorted f keep (done ++ n ∷ []) ns

sorted-append : (f : Forest) (keep : ℕ → Bool) (xs ys done : List ℕ) → Sorted f keep done xs → Sorted f keep (done ++ xs) ys
    → Sorted f keep done (xs ++ ys)
sorted-append f keep [] ys done h k = subst (λ (l : List ℕ). Sorted f keep l ys) (append-nil done) k
sorted-append f keep (x ∷ xs) ys done h k = (
  h.0,
  sorted-append f keep xs ys (done ++ x ∷ []) h.1
      (subst (λ (l : List ℕ). Sorted f keep l ys) (sym (append_assoc done (x ∷ []) xs)) k),
)

sorted-first : (f : Forest) → IsForest f → (keep : ℕ → Bool) (p : ℕ) (before cs done : List ℕ) (c : ℕ)
    → children_of f p ≡ before ++ c ∷ cs → ((m : ℕ) → is_among m before ≡ true → is_among m done ≡ true)
    → ((m : ℕ) → is_among m (c ∷ cs) ≡ true → is_among m done ≡ false)
    → (q m : ℕ) → parent_of f c ≡ Some q → is_among m (children_of f q) ≡ true → keep m ≡ true
    → is_among m done ≡ is_among m (those_before c (children_of f q))
sorted-first f is keep p before cs done c e all none q m up among w =
    let own : is_among c (children_of f p) ≡ true = subst (λ (l : List ℕ). is_among c l ≡ true) (sym e)
    (is_among-append_right c before (c ∷ cs) (among-first c cs)) in
    let same : q ≡ p = some-is (sym up ∙ is.one_parent p c own) in
    let there : is_among m (before ++ c ∷ cs) ≡ true = subst (λ (l : List ℕ). is_among m l ≡ true) (ap (children_of f) same ∙ e) among in
    let out : is_among c before ≡ false = none-from (is_among c before) (λ h. both (all c h) (none c (among-first c cs))) in
    let cut : those_before c (children_of f q) ≡ before = ap (λ j. those_before c (children_of f j)) same
    ∙ (ap (λ (l : List ℕ). those_before c l) e ∙ before-at before cs c out) in
    by there ∙ sym (ap (λ (l : List ℕ). is_among m l) cut)
  where
    by : is_among m (before ++ c ∷ cs) ≡ true → is_among m done ≡ is_among m before
    by h = elim (among-parts m before (c ∷ cs) h) [
      | inl first ↦ all m first ∙ sym first
      | inr later ↦ none m later ∙ sym (none-from (is_among m before) (λ a. both (all m a) (none m later)))
    ]

sorted-list : (f : Forest) → IsForest f → (keep : ℕ → Bool) (g : ℕ → List ℕ) (p : ℕ) (before cs done : List ℕ)
    → children_of f p ≡ before ++ cs
    → ((c : ℕ) → is_among c cs ≡ true → (d : List ℕ) → ((m : ℕ) → is_among m (g c) ≡ true → is_among m d ≡ false) → Sorted f keep d (g c))
    → ((m : ℕ) → is_among m before ≡ true → is_among m done ≡ true)
    → ((m : ℕ) → is_among m (each_with_below g cs) ≡ true → is_among m done ≡ false)
    → IsDistinct (each_with_below g cs) → Sorted f keep done (each_with_below g cs)
sorted-list f is keep g p before [] done e inside all none once = tt
sorted-list f is keep g p before (c ∷ cs) done e inside all none once =
    let rest = each_with_below g cs in
    sorted-append f keep (c ∷ g c) rest done (
      sorted-first f is keep p before cs done c e all (λ m h. none m (each-among g (c ∷ cs) m m h (inl refl))),
      inside c (among-first c cs) (done ++ c ∷ []) (λ m h. among-neither m done (c ∷ [])
          (none m (among-left m (c ∷ g c) rest (among-later m c (g c) h))) (not-one m c (g c ++ rest) (among-left m (g c) rest h) once.0)),
    )
    (sorted-list f is keep g p (before ++ c ∷ []) cs (done ++ c ∷ g c) (e ∙ sym (append_assoc before (c ∷ []) cs))
    (λ k a. inside k (among-later k c cs a))
    (λ m h. elim (among-parts m before (c ∷ []) h) [
      | inl first ↦ among-left m done (c ∷ g c) (all m first)
      | inr own ↦ is_among-append_right m done (c ∷ g c) (among-left m (c ∷ []) (g c) own)
    ])
    (λ m h. among-neither m done (c ∷ g c) (none m (is_among-append_right m (c ∷ g c) rest h)) (distinct-apart (c ∷ g c) rest m once h))
    (distinct-right (c ∷ g c) rest once))

sorted-below : (f : Forest) → IsForest f → (keep : ℕ → Bool) (k n : ℕ) → length (below f n) ≤ k → (done : List ℕ)
    → ((m : ℕ) → is_among m (below f n) ≡ true → is_among m done ≡ false) → Sorted f keep done (below f n)
sorted-below f is keep zero n few done none =
    subst (λ (l : List ℕ). Sorted f keep done l) (sym (nil_from_length (below f n) (omega (arith, few)))) tt
sorted-below f is keep (suc k) n few done none =
    subst (λ (l : List ℕ). Sorted f keep done l) (sym (below-children f is n))
    (sorted-list f is keep (below f) n [] (children_of f n) done refl
    (λ c among d apart. sorted-below f is keep k c
    (let less = below-more f is c n (is.one_parent n c among) in omega (arith, less, few)) d apart)
    (λ m h. absurd (both h refl))
    (λ m h. none m (subst (λ (l : List ℕ). is_among m l ≡ true) (sym (below-children f is n)) h))
    (subst (λ (l : List ℕ). IsDistinct l) (below-children f is n) (below-distinct f is n)))

-- also where leaves are left out
alike-more : (keep : ℕ → Bool) (n : ℕ) (done kept : List ℕ) → ((q : ℕ) → keep q ≡ true → is_among q done ≡ is_among q kept)
    → (q : ℕ) → keep q ≡ true → is_among q (done ++ n ∷ []) ≡ is_among q (kept ++ n ∷ [])
alike-more keep n done kept alike q w =
    elim (cases_eq q n) [
      | inl same ↦ rw (same, is_among-push_same n done, is_among-push_same n kept) refl
      | inr other ↦ is_among-push_other q n done other ∙ (alike q w ∙ sym (is_among-push_other q n kept other))
    ]

alike-left : (keep : ℕ → Bool) (n : ℕ) (done kept : List ℕ) → keep n ≡ false
    → ((q : ℕ) → keep q ≡ true → is_among q done ≡ is_among q kept)
    → (q : ℕ) → keep q ≡ true → is_among q (done ++ n ∷ []) ≡ is_among q kept
alike-left keep n done kept leaf alike q w =
    elim (cases_eq q n) [
      | inl same ↦ absurd (both w (ap keep same ∙ leaf))
      | inr other ↦ is_among-push_other q n done other ∙ alike q w
    ]

sorted-filter : (f : Forest) (keep : ℕ → Bool) (ns done kept : List ℕ)
    → ((q : ℕ) → keep q ≡ true → is_among q done ≡ is_among q kept) → Sorted f keep done ns → Sorted f keep kept (filter keep ns)
sorted-filter f keep [] done kept alike h = tt
sorted-filter f keep (n ∷ ns) done kept alike h =
    elim (cases_Bool (keep n)) [
      | inl inner ↦ rw inner (
        (λ p m e a w. sym (alike m w) ∙ h.0 p m e a w),
        sorted-filter f keep ns (done ++ n ∷ []) (kept ++ n ∷ []) (alike-more keep n done kept alike) h.1,
      )
      | inr leaf ↦ rw leaf (sorted-filter f keep ns (done ++ n ∷ []) kept (alike-left keep n done kept leaf alike) h.1)
    ]

-- TREES

no-parent : (f : Forest) (s r : ℕ) → IsBelow f s r → parent_of f r ≡ None → ⊥
no-parent f s r (child e) h = none-some (sym h ∙ e)
no-parent f s r (deeper e b) h = none-some (sym h ∙ e)

-- no node is below two nodes that have no parent
root-apart : (f : Forest) (r s m : ℕ) → parent_of f r ≡ None → parent_of f s ≡ None → IsBelow f r m → IsBelow f s m → r ≡ s
root-apart f r s m top other (child e) (child e') = some-is (sym e ∙ e')
root-apart f r s m top other (child e) (deeper {m = q} e' b) =
    absurd (no-parent f s r (subst (λ k. IsBelow f s k) (some-is (sym e' ∙ e)) b) top)
root-apart f r s m top other (deeper {m = q} e b) (child e') =
    absurd (no-parent f r s (subst (λ k. IsBelow f r k) (some-is (sym e ∙ e')) b) other)
root-apart f r s m top other (deeper {m = q} e b) (deeper {m = q'} e' b') =
    root-apart f r s q top other b (subst (λ k. IsBelow f s k) (some-is (sym e' ∙ e)) b')

not-root : (f : Forest) (r m : ℕ) → parent_of f r ≡ None → IsBelow f r m → is_among m (r ∷ []) ≡ false
not-root f r m top b =
    elim (cases_eq m r) [
      | inl same ↦ absurd (no-parent f r m b (ap (parent_of f) same ∙ top))
      | inr other ↦ rw (ne_eqb m r other) refl
    ]

other-tree : (f : Forest) → IsForest f → (keep : ℕ → Bool) (r s m : ℕ) (rs : List ℕ) → parent_of f r ≡ None → parent_of f s ≡ None
    → is_among r rs ≡ false → is_among s rs ≡ true → IsBelow f s m → is_among m (r ∷ filter keep (below f r)) ≡ false
other-tree f is keep r s m rs top other out among b =
    elim (cases_eq m r) [
      | inl same ↦ absurd (no-parent f s m b (ap (parent_of f) same ∙ top))
      | inr apart ↦ rw (ne_eqb m r apart) (none-from (is_among m (filter keep (below f r))) (λ h.
          let one : r ≡ s = root-apart f r s m top other (among-below f is r m (filter-among keep m (below f r) h).0) b in
          both (subst (λ k. is_among k rs ≡ true) (sym one) among) out))
    ]

sorted-roots : (f : Forest) → IsForest f → (keep : ℕ → Bool) (rs done : List ℕ)
    → ((r : ℕ) → is_among r rs ≡ true → parent_of f r ≡ None) → IsDistinct rs
    → ((r m : ℕ) → is_among r rs ≡ true → IsBelow f r m → is_among m done ≡ false)
    → Sorted f keep done (each_with_below (λ r. filter keep (below f r)) rs)
sorted-roots f is keep [] done top once none = tt
sorted-roots f is keep (r ∷ rs) done top once none =
    let own = top r (among-first r rs) in
    sorted-append f keep (r ∷ filter keep (below f r)) (each_with_below (λ k. filter keep (below f k)) rs) done (
      (λ p m e a w. absurd (none-some (sym own ∙ e))),
      sorted-filter f keep (below f r) (done ++ r ∷ []) (done ++ r ∷ []) (λ q w. refl)
          (sorted-below f is keep (length (below f r)) r (omega arith) (done ++ r ∷ [])
          (λ m h. let b = among-below f is r m h in
          among-neither m done (r ∷ []) (none r m (among-first r rs) b) (not-root f r m own b))),
    )
    (sorted-roots f is keep rs (done ++ r ∷ filter keep (below f r)) (λ s a. top s (among-later s r rs a)) once.1
    (λ s m a b. among-neither m done (r ∷ filter keep (below f r)) (none s m (among-later s r rs a) b)
    (other-tree f is keep r s m rs own (top s (among-later s r rs a)) once.0 a b)))

none-is : (o : Option ℕ) → is_none o ≡ true → o ≡ None
none-is None h = refl
none-is (Some n) h = absurd (cc)

sorted-order : (f : Forest) → IsForest f → Sorted f (is_inner f) [] (in_tree_order f)
unfolding in_tree_order
sorted-order f is =
    sorted-roots f is (is_inner f) (roots f) []
    (λ r h. none-is (parent_of f r) (filter-among (is_root f) r (range_with_len 0 (node_count f)) h).1)
    (filter-distinct (is_root f) (range_with_len 0 (node_count f)) (range-distinct 0 (node_count f)))
    (λ r m a b. refl)

sorted-at : (f : Forest) (keep : ℕ → Bool) (ns done : List ℕ) → Sorted f keep done ns → (i n : ℕ) → i < length ns → n ≡ get_or ns i n
    → (p m : ℕ) → parent_of f n ≡ Some p → is_among m (children_of f p) ≡ true → keep m ≡ true
    → is_among m (done ++ take i ns) ≡ is_among m (those_before n (children_of f p))
sorted-at f keep [] done sorted i n there is p m e a w = absurd (omega (arith, there))
sorted-at f keep (x ∷ xs) done sorted zero n there is p m e a w =
    ap (λ (l : List ℕ). is_among m l) (append-nil done)
    ∙ (sorted.0 p m (ap (parent_of f) (sym is) ∙ e) a w ∙ ap (λ k. is_among m (those_before k (children_of f p))) (sym is))
sorted-at f keep (x ∷ xs) done sorted (suc i) n there is p m e a w =
    ap (λ (l : List ℕ). is_among m l) (sym (append_assoc done (x ∷ []) (take i xs)))
    ∙ sorted-at f keep xs (done ++ x ∷ []) sorted.1 i n (omega (arith, there)) is p m e a w

-- of the siblings of a node just those that stand before it come before it
pub elder-first : (f : Forest) → IsForest f → (order : List ℕ) → order ≡ in_tree_order f → (i n : ℕ) → i < length order
    → n ≡ get_or order i n → (p m : ℕ) → parent_of f n ≡ Some p → is_among m (children_of f p) ≡ true → is_inner f m ≡ true
    → is_among m (take i order) ≡ is_among m (those_before n (children_of f p))
elder-first f is order e i n there at-n =
    sorted-at f (is_inner f) order [] (subst (λ (l : List ℕ). Sorted f (is_inner f) [] l) (sym e) (sorted-order f is)) i n there at-n

-- WHAT WAS SEEN

-- whether a child that is done is in a column
abbrev pub seen_done : (ℕ → Bool) → Forest → List ℕ → ℕ → Bool
seen_done t f done p = list_any (λ c. is_among c done && t c) (children_of f p)

pub nothing-seen : (t : ℕ → Bool) (f : Forest) (p : ℕ) → false ≡ seen_done t f [] p
nothing-seen t f p = sym (none (children_of f p))
  where
    none : (cs : List ℕ) → list_any (λ c. is_among c [] && t c) cs ≡ false
    none [] = refl
    none (c ∷ cs) = none cs

and-left : (a b : Bool) → (a && b) ≡ true → a ≡ true
and-left true b h = refl
and-left false b h = absurd (cc)

and-right : (a b : Bool) → (a && b) ≡ true → b ≡ true
and-right true b h = h
and-right false b h = absurd (cc)

and-both : (a b : Bool) → a ≡ true → b ≡ true → (a && b) ≡ true
and-both a b h k = ap (λ x. x && b) h ∙ k

same-bool : (a b : Bool) → (a ≡ true → b ≡ true) → (b ≡ true → a ≡ true) → a ≡ b
same-bool true b h k = sym (h refl)
same-bool false true h k = k refl
same-bool false false h k = refl

-- one that passes
record Passes (t : ℕ → Bool) (ns : List ℕ) : Type 0 where
  node : ℕ
  among : is_among node ns ≡ true
  passes : t node ≡ true

any-find : (t : ℕ → Bool) (ns : List ℕ) → list_any t ns ≡ true → Passes t ns
any-find t [] h = absurd (cc)
any-find t (n ∷ ns) h =
    elim (cases_Bool (t n)) [
      | inl passes ↦ record { node = n; among = among-first n ns; passes = passes }
      | inr fails ↦ let later = any-find t ns (rw fails at h) in
          record { node = later.node; among = among-later later.node n ns later.among; passes = later.passes }
    ]

seen-value : (t : ℕ → Bool) (done cs bs : List ℕ)
    → ((m : ℕ) → is_among m cs ≡ true → t m ≡ true → is_among m done ≡ is_among m bs)
    → ((m : ℕ) → is_among m bs ≡ true → is_among m cs ≡ true) → list_any (λ c. is_among c done && t c) cs ≡ list_any t bs
seen-value t done cs bs alike within =
    same-bool (list_any (λ c. is_among c done && t c) cs) (list_any t bs)
    (λ h. let x = any-find (λ c. is_among c done && t c) cs h in
    let own = and-right (is_among x.node done) (t x.node) x.passes in
    any-among t x.node bs (sym (alike x.node x.among own) ∙ and-left (is_among x.node done) (t x.node) x.passes) own)
    (λ h. let x = any-find t bs h in
    any-among (λ c. is_among c done && t c) x.node cs (within x.node x.among)
    (and-both (is_among x.node done) (t x.node) (alike x.node (within x.node x.among) x.passes ∙ x.among) x.passes))

or-false : (b : Bool) → (b || false) ≡ b
or-false true = refl
or-false false = refl

-- what is seen of the next node
after-value : (f : Forest) → IsForest f → (t : ℕ → Bool) → ((n : ℕ) → t n ≡ true → is_element f n ≡ true) → (order : List ℕ)
    → order ≡ in_tree_order f → (seen : List Bool) (i n : ℕ) → i < length order → n ≡ get_or order i n
    → ((p : ℕ) → at seen p ≡ seen_done t f (take i order) p) → list_any (at seen) (one_of (parent_of f n)) ≡ any_beside t false f n
after-value f is t elements order e seen i n there at-n marked = by (parent_of f n) refl
  where
    by : (o : Option ℕ) → parent_of f n ≡ o → list_any (at seen) (one_of o) ≡ any_beside t false f n
    by None up = sym (any-alone t false f n up)
    by (Some p) up =
        or-false (at seen p)
        ∙ (marked p ∙ (seen-value t (take i order) (children_of f p) (those_before n (children_of f p))
        (λ m a own. elder-first f is order e i n there at-n p m up a (element-inner f m (elements m own)))
        (λ m a. is_among-those_before m n (children_of f p) a)
        ∙ sym (ap (λ (o : Option ℕ). list_any t (those_before n (children_under f o))) up)))

pub after-step : (f : Forest) → IsForest f → (t : ℕ → Bool) → ((n : ℕ) → t n ≡ true → is_element f n ≡ true) → (order : List ℕ)
    → order ≡ in_tree_order f → (seen after : List Bool) (i n : ℕ) (v : Bool) → i < length order → n ≡ get_or order i n
    → length after ≡ node_count f → ((p : ℕ) → at seen p ≡ seen_done t f (take i order) p)
    → ((m : ℕ) → at after m ≡ (is_among m (take i order) && any_beside t false f m)) → v ≡ list_any (at seen) (one_of (parent_of f n))
    → (m : ℕ) → at (set after n v) m ≡ (is_among m (take (i + 1) order) && any_beside t false f m)
after-step f is t elements order e seen after i n v there at-n count marked done told m =
    let low = in-range f is order e i n there at-n in
    mark-push (any_beside t false f) (take i order) n after v (omega (arith, low, count)) done
    (told ∙ after-value f is t elements order e seen i n there at-n marked) m
    ∙ ap (λ (l : List ℕ). is_among m l && any_beside t false f m) (sym (take-next order i n there at-n))

push-swap : (c n : ℕ) (done : List ℕ) → is_among c (done ++ n ∷ []) ≡ is_among c (n ∷ done)
push-swap c n done =
    elim (cases_eq c n) [
      | inl same ↦ rw (same, is_among-push_same n done, eq-eqb n n refl) refl
      | inr other ↦ is_among-push_other c n done other ∙ rw (ne_eqb c n other) refl
    ]

pub seen-step : (f : Forest) (t : ℕ → Bool) (order : List ℕ) (seen new : List Bool) (i n : ℕ) → i < length order → n ≡ get_or order i n
    → ((p : ℕ) → at seen p ≡ seen_done t f (take i order) p)
    → ((p : ℕ) → at new p ≡ ((is_among n (children_of f p) && t n) || at seen p))
    → (p : ℕ) → at new p ≡ seen_done t f (take (i + 1) order) p
seen-step f t order seen new i n there at-n marked more p =
    more p ∙ (ap (λ b. (is_among n (children_of f p) && t n) || b) (marked p)
    ∙ (sym (done-more t n (take i order) (children_of f p))
    ∙ (any-same (λ c. is_among c (n ∷ take i order) && t c) (λ c. is_among c (take i order ++ n ∷ []) && t c)
    (λ c. ap (λ b. b && t c) (sym (push-swap c n (take i order)))) (children_of f p)
    ∙ ap (λ (l : List ℕ). seen_done t f l p) (sym (take-next order i n there at-n)))))
