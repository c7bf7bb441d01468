-- The elements of a forest and the nodes that have children, in tree order: each is there, after its parent and before its children.
use Rattle.std.proofs.Common.{◌≡◌, ◌∙◌, ◌⊎◌, ◌+◌, ◌-◌, ◌<◌, ◌≤◌, ℕ, zero, suc, Bool, true, false, List, [], ◌∷◌, ◌++◌, length}
use Rattle.std.proofs.Common.{Option, Some, None, inl, inr, refl, ap, arith, subst, sym, take, drop}
use Rattle.std.proofs.Math.ListN.{get_or}
use Rattle.std.specs.Prelude.{◌||◌, cond, filter, is_none, is_some, not}
use Rattle.std.specs.List.{range_with_len}
use Rattle.std.proofs.lemmas.Bool.{cases_Bool, cases_eq, lt-ltb}
use Rattle.std.proofs.lemmas.List.{append-nil, append_assoc, drop_more, nil_from_length, take_all, take_more}
use Rattle.markup.specs.Forest.{Forest, IsForest, children_of, is_among, node_count, parent_of}
use Rattle.markup.proofs.Children.{is_among-append_right, is_among-push_other, is_among-push_same}
use Rattle.markup.proofs.Forests.{IsParent-from_child}
use Rattle.markup.proofs.Parents.{is_among-parent}
use Rattle.markup.proofs.WholeTrees.{among-first, among-later}
use Rattle.html_nodes.specs.Below.{IsBelow, below, each_with_below, is_on}
use Rattle.html_nodes.specs.Below.IsBelow.{child, deeper}
use Rattle.html_nodes.proofs.Distinct.{among-below, listed}
use Rattle.html_nodes.proofs.Levels.{below-children}
use Rattle.html_selector_matching.specs.Around.{above, is_element, line}
use Rattle.html_selector_matching.proofs.Lines.{below-more, below-node, line-some}
use Rattle.html_forest.specs.Links.{first_of}
use Rattle.html_selectors.specs.Order.{BeginsWith, in_tree_order, inner_below, is_inner, is_root, roots}
use Rattle.html_selectors.proofs.Lists.{among-filter, among-left, among-range, each-all, each-among, filter-among, range-among}

-- a node that has a child is listed
pub parent-inner : (f : Forest) (n p : ℕ) → parent_of f n ≡ Some p → is_inner f p ≡ true
parent-inner f n p e = or-right (is_element f p) _ (some-first (children_of f p) n (is_among-parent f n p e))
  where
    or-right : (a b : Bool) → b ≡ true → (a || b) ≡ true
    or-right true b h = refl
    or-right false b h = h

    some-first : (ns : List ℕ) (n : ℕ) → is_among n ns ≡ true → is_some (first_of ns) ≡ true
    some-first [] n h = absurd (cc)
    some-first (m ∷ ms) n h = refl

-- PARENTS COME FIRST

-- the parent of each node of a list is done before it, or comes before it
abbrev ParentsFirst : Forest → List ℕ → List ℕ → Type 0
ParentsFirst f done [] = Unit {0}
ParentsFirst f done (n ∷ ns) = (is_on (parent_of f n) done ≡ true) × ParentsFirst f (done ++ n ∷ []) ns

on-more : (o : Option ℕ) (done more : List ℕ) → ((q : ℕ) → is_among q done ≡ true → is_among q more ≡ true)
    → is_on o done ≡ true → is_on o more ≡ true
on-more None done more wider h = refl
on-more (Some q) done more wider h = wider q h

first-append : (f : Forest) (xs ys done : List ℕ) → ParentsFirst f done xs → ParentsFirst f (done ++ xs) ys → ParentsFirst f done (xs ++ ys)
first-append f [] ys done h k = subst (λ (l : List ℕ). ParentsFirst f l ys) (append-nil done) k
first-append f (x ∷ xs) ys done h k =
    (h.0, first-append f xs ys (done ++ x ∷ []) h.1 (subst (λ (l : List ℕ). ParentsFirst f l ys) (sym (append_assoc done (x ∷ []) xs)) k))

first-each : (f : Forest) (g : ℕ → List ℕ) (ns done : List ℕ)
    → ((n : ℕ) → is_among n ns ≡ true → (before : List ℕ) → is_among n before ≡ true → ParentsFirst f before (g n))
    → ((n : ℕ) → is_among n ns ≡ true → is_on (parent_of f n) done ≡ true) → ParentsFirst f done (each_with_below g ns)
first-each f g [] done inside up = tt
first-each f g (n ∷ ns) done inside up =
    first-append f (n ∷ g n) (each_with_below g ns) done
    (up n (among-first n ns), inside n (among-first n ns) (done ++ n ∷ []) (is_among-append_right n done (n ∷ []) (among-first n [])))
    (first-each f g ns (done ++ n ∷ g n) (λ m h. inside m (among-later m n ns h))
    (λ m h. on-more (parent_of f m) done (done ++ n ∷ g n) (λ q a. among-left q done (n ∷ g n) a) (up m (among-later m n ns h))))

first-below : (f : Forest) → IsForest f → (k n : ℕ) → length (below f n) ≤ k → (done : List ℕ) → is_among n done ≡ true
    → ParentsFirst f done (below f n)
first-below f is zero n few done h =
    subst (λ (l : List ℕ). ParentsFirst f done l) (sym (nil_from_length (below f n) (omega (arith, few)))) tt
first-below f is (suc k) n few done h =
    subst (λ (l : List ℕ). ParentsFirst f done l) (sym (below-children f is n))
    (first-each f (below f) (children_of f n) done
    (λ c among. first-below f is k c
    (let less = below-more f is c n (is.one_parent n c among) in omega (arith, less, few)))
    (λ c among. ap (λ (o : Option ℕ). is_on o done) (is.one_parent n c among) ∙ h))

root-none : (o : Option ℕ) (done : List ℕ) → is_none o ≡ true → is_on o done ≡ true
root-none None done h = refl
root-none (Some p) done h = absurd (cc)

-- also where leaves are left out
on-kept : (f : Forest) (keep : ℕ → Bool) → ((n p : ℕ) → parent_of f n ≡ Some p → keep p ≡ true) → (n : ℕ) (done kept : List ℕ)
    → ((q : ℕ) → is_among q done ≡ true → keep q ≡ true → is_among q kept ≡ true)
    → is_on (parent_of f n) done ≡ true → is_on (parent_of f n) kept ≡ true
on-kept f keep parents n done kept all h = by (parent_of f n) refl h
  where
    by : (o : Option ℕ) → parent_of f n ≡ o → is_on o done ≡ true → is_on o kept ≡ true
    by None e h = refl
    by (Some p) e h = all p h (parents n p e)

kept-more : (keep : ℕ → Bool) (n : ℕ) (done kept : List ℕ)
    → ((q : ℕ) → is_among q done ≡ true → keep q ≡ true → is_among q kept ≡ true)
    → (q : ℕ) → is_among q (done ++ n ∷ []) ≡ true → keep q ≡ true → is_among q (kept ++ n ∷ []) ≡ true
kept-more keep n done kept all q h k =
    elim (cases_eq q n) [
      | inl same ↦ rw (same, is_among-push_same n kept) refl
      | inr other ↦ is_among-push_other q n kept other ∙ all q (sym (is_among-push_other q n done other) ∙ h) k
    ]

left-out : (keep : ℕ → Bool) (n : ℕ) (done kept : List ℕ) → keep n ≡ false
    → ((q : ℕ) → is_among q done ≡ true → keep q ≡ true → is_among q kept ≡ true)
    → (q : ℕ) → is_among q (done ++ n ∷ []) ≡ true → keep q ≡ true → is_among q kept ≡ true
left-out keep n done kept leaf all q h k =
    elim (cases_eq q n) [
      | inl same ↦ absurd (let no : keep q ≡ false = ap keep same ∙ leaf in cc)
      | inr other ↦ all q (sym (is_among-push_other q n done other) ∙ h) k
    ]

first-filter : (f : Forest) (keep : ℕ → Bool) → ((n p : ℕ) → parent_of f n ≡ Some p → keep p ≡ true) → (ns done kept : List ℕ)
    → ((q : ℕ) → is_among q done ≡ true → keep q ≡ true → is_among q kept ≡ true)
    → ParentsFirst f done ns → ParentsFirst f kept (filter keep ns)
first-filter f keep parents [] done kept all h = tt
first-filter f keep parents (n ∷ ns) done kept all h =
    elim (cases_Bool (keep n)) [
      | inl inner ↦ rw inner (
        on-kept f keep parents n done kept all h.0,
        first-filter f keep parents ns (done ++ n ∷ []) (kept ++ n ∷ []) (kept-more keep n done kept all) h.1,
      )
      | inr leaf ↦ rw leaf (first-filter f keep parents ns (done ++ n ∷ []) kept (left-out keep n done kept leaf all) h.1)
    ]

first-order : (f : Forest) → IsForest f → ParentsFirst f [] (in_tree_order f)
unfolding in_tree_order
first-order f is =
    first-each f (inner_below f) (roots f) [] (λ n h done among. first-filter f (is_inner f) (parent-inner f) (below f n) done done
    (λ q a k. a) (first-below f is (length (below f n)) n (omega arith) done among))
    (λ n h. root-none (parent_of f n) [] (filter-among (is_root f) n (range_with_len 0 (node_count f)) h).1)

parent-at : (f : Forest) (ns done : List ℕ) → ParentsFirst f done ns → (i n : ℕ) → i < length ns → n ≡ get_or ns i n
    → is_on (parent_of f n) (done ++ take i ns) ≡ true
parent-at f [] done first i n there is = absurd (omega (arith, there))
parent-at f (m ∷ ms) done first zero n there is =
    rw is (subst (λ (l : List ℕ). is_on (parent_of f m) l ≡ true) (sym (append-nil done)) first.0)
parent-at f (m ∷ ms) done first (suc i) n there is =
    subst (λ (l : List ℕ). is_on (parent_of f n) l ≡ true) (append_assoc done (m ∷ []) (take i ms))
    (parent-at f ms (done ++ m ∷ []) first.1 i n (omega (arith, there)) is)

-- the parent of a node comes before it
pub parent-before : (f : Forest) → IsForest f → (order : List ℕ) → order ≡ in_tree_order f → (i n : ℕ) → i < length order
    → n ≡ get_or order i n → is_on (parent_of f n) (take i order) ≡ true
parent-before f is order e i n there at-n =
    parent-at f order [] (subst (λ (l : List ℕ). ParentsFirst f [] l) (sym e) (first-order f is)) i n there at-n

-- CHILDREN COME LATER

-- those of the children that pass a test
abbrev ChildrenLater : Forest → (ℕ → Bool) → List ℕ → Type 0
ChildrenLater f keep [] = Unit {0}
ChildrenLater f keep (n ∷ ns) =
    ((c : ℕ) → is_among c (children_of f n) ≡ true → keep c ≡ true → is_among c ns ≡ true) × ChildrenLater f keep ns

later-append : (f : Forest) (keep : ℕ → Bool) (xs ys : List ℕ) → ChildrenLater f keep xs → ChildrenLater f keep ys
    → ChildrenLater f keep (xs ++ ys)
later-append f keep [] ys h k = k
later-append f keep (x ∷ xs) ys h k = (λ c a w. among-left c xs ys (h.0 c a w), later-append f keep xs ys h.1 k)

later-each : (f : Forest) (keep : ℕ → Bool) (g : ℕ → List ℕ) (ns : List ℕ)
    → ((n : ℕ) → is_among n ns ≡ true → ChildrenLater f keep (g n))
    → ((n c : ℕ) → is_among c (children_of f n) ≡ true → keep c ≡ true → is_among c (g n) ≡ true)
    → ChildrenLater f keep (each_with_below g ns)
later-each f keep g [] inside down = tt
later-each f keep g (n ∷ ns) inside down =
    later-append f keep (n ∷ g n) (each_with_below g ns) (down n, inside n (among-first n ns))
    (later-each f keep g ns (λ m h. inside m (among-later m n ns h)) down)

later-filter : (f : Forest) (keep : ℕ → Bool) (ns : List ℕ) → ChildrenLater f keep ns → ChildrenLater f keep (filter keep ns)
later-filter f keep [] h = tt
later-filter f keep (n ∷ ns) h =
    elim (cases_Bool (keep n)) [
      | inl inner ↦ rw inner ((λ c a w. among-filter keep c ns (h.0 c a w) w), later-filter f keep ns h.1)
      | inr leaf ↦ rw leaf (later-filter f keep ns h.1)
    ]

child-below : (f : Forest) → IsForest f → (n c : ℕ) → is_among c (children_of f n) ≡ true → is_among c (below f n) ≡ true
child-below f is n c h = listed f is n c (child (is.one_parent n c h))

later-below : (f : Forest) → IsForest f → (keep : ℕ → Bool) (k n : ℕ) → length (below f n) ≤ k → ChildrenLater f keep (below f n)
later-below f is keep zero n few = subst (ChildrenLater f keep) (sym (nil_from_length (below f n) (omega (arith, few)))) tt
later-below f is keep (suc k) n few =
    subst (ChildrenLater f keep) (sym (below-children f is n))
    (later-each f keep (below f) (children_of f n)
    (λ c among. later-below f is keep k c (let less = below-more f is c n (is.one_parent n c among) in omega (arith, less, few)))
    (λ m c a w. child-below f is m c a))

later-order : (f : Forest) → IsForest f → ChildrenLater f (is_inner f) (in_tree_order f)
unfolding in_tree_order
later-order f is =
    later-each f (is_inner f) (inner_below f) (roots f)
    (λ n h. later-filter f (is_inner f) (below f n) (later-below f is (is_inner f) (length (below f n)) n (omega arith)))
    (λ n c a w. among-filter (is_inner f) c (below f n) (child-below f is n c a) w)

children-at : (f : Forest) (keep : ℕ → Bool) (ns : List ℕ) → ChildrenLater f keep ns → (i n : ℕ) → i < length ns → n ≡ get_or ns i n
    → (c : ℕ) → is_among c (children_of f n) ≡ true → keep c ≡ true → is_among c (drop (suc i) ns) ≡ true
children-at f keep [] later i n there is c h w = absurd (omega (arith, there))
children-at f keep (m ∷ ms) later zero n there is c h w = later.0 c (rw is at h) w
children-at f keep (m ∷ ms) later (suc i) n there is c h w = children-at f keep ms later.1 i n (omega (arith, there)) is c h w

-- the children of a node come after it, if they are listed
pub children-after : (f : Forest) → IsForest f → (order : List ℕ) → order ≡ in_tree_order f → (i n : ℕ) → i < length order
    → n ≡ get_or order i n → (c : ℕ) → is_among c (children_of f n) ≡ true → is_inner f c ≡ true
    → is_among c (drop (suc i) order) ≡ true
children-after f is order e i n there at-n c h w =
    children-at f (is_inner f) order (subst (ChildrenLater f (is_inner f)) (sym e) (later-order f is)) i n there at-n c h w

-- EACH NODE IS THERE

-- the root of the tree that a node is in
record HasRoot (f : Forest) (n : ℕ) : Type 0 where
  root : ℕ
  top : parent_of f root ≡ None
  there : root < node_count f
  is : (n ≡ root) ⊎ IsBelow f root n

below-root : (f : Forest) (r p n : ℕ) → parent_of f n ≡ Some p → (p ≡ r) ⊎ IsBelow f r p → IsBelow f r n
below-root f r p n e (inl same) = child (e ∙ ap (λ k. Some k) same)
below-root f r p n e (inr under) = deeper e under

no-line : {n : ℕ} {ns : List ℕ} → n ∷ ns ≡ [] → ⊥
no-line h = cc

tails : {a b : ℕ} {xs ys : List ℕ} → a ∷ xs ≡ b ∷ ys → xs ≡ ys
tails h = cc

above-more : (f : Forest) → IsForest f → (n p : ℕ) → parent_of f n ≡ Some p → above f n ≡ p ∷ above f p
above-more f is n p e = ap (line f) e ∙ line-some f is p

root-by : (f : Forest) → IsForest f → (ns : List ℕ) (n : ℕ) → n < node_count f → above f n ≡ ns
    → ((p : ℕ) (ms : List ℕ) (m : ℕ) → ns ≡ m ∷ ms → p < node_count f → above f p ≡ ms → HasRoot f p)
    → (o : Option ℕ) → parent_of f n ≡ o → HasRoot f n
root-by f is ns n there e higher None none = record { root = n; top = none; there = there; is = inl refl }
root-by f is [] n there e higher (Some p) some = absurd (no-line (sym (above-more f is n p some) ∙ e))
root-by f is (m ∷ ms) n there e higher (Some p) some =
    let up = higher p ms m refl (IsParent-from_child f n p is some).there (tails (sym (above-more f is n p some) ∙ e)) in
    record { root = up.root; top = up.top; there = up.there; is = inr (below-root f up.root p n some up.is) }

has-root : (f : Forest) → IsForest f → (ns : List ℕ) (n : ℕ) → n < node_count f → above f n ≡ ns → HasRoot f n
has-root f is [] n there e = root-by f is [] n there e (λ p ms m h. absurd (no-line (sym h))) (parent_of f n) refl
has-root f is (k ∷ ks) n there e =
    root-by f is (k ∷ ks) n there e (λ p ms m h up line. has-root f is ks p up (line ∙ sym (tails h))) (parent_of f n) refl

-- each of them is listed
pub all-listed : (f : Forest) → IsForest f → (n : ℕ) → n < node_count f → is_inner f n ≡ true → is_among n (in_tree_order f) ≡ true
unfolding in_tree_order
all-listed f is n there inner =
    let up = has-root f is (above f n) n there refl in
    each-among (inner_below f) (roots f) up.root n
    (among-filter (is_root f) up.root (range_with_len 0 (node_count f))
    (among-range up.root 0 (node_count f) (omega arith) (omega (arith, up.there))) (ap is_none up.top))
    (elim up.is [
      | inl same ↦ inl same
      | inr under ↦ inr (among-filter (is_inner f) n (below f up.root) (listed f is up.root n under) inner)
    ])

-- and nothing else
pub listed-node : (f : Forest) → IsForest f → (n : ℕ) → is_among n (in_tree_order f) ≡ true → n < node_count f
unfolding in_tree_order
listed-node f is n h =
    each-all (λ m. m < node_count f) (inner_below f) (roots f)
    (λ r a. let less = range-among r 0 (node_count f)
    (filter-among (is_root f) r (range_with_len 0 (node_count f)) a).0 in omega (arith, less))
    (λ r m a b. below-node f is r m (among-below f is r m (filter-among (is_inner f) m (below f r) b).0)) n h

among-at : (ns : List ℕ) (i n : ℕ) → i < length ns → n ≡ get_or ns i n → is_among n ns ≡ true
among-at [] i n there is = absurd (omega (arith, there))
among-at (m ∷ ms) zero n there is = subst (λ k. is_among k (m ∷ ms) ≡ true) (sym is) (among-first m ms)
among-at (m ∷ ms) (suc i) n there is = among-later n m ms (among-at ms i n (omega (arith, there)) is)

pub in-range : (f : Forest) → IsForest f → (order : List ℕ) → order ≡ in_tree_order f → (i n : ℕ) → i < length order
    → n ≡ get_or order i n → n < node_count f
in-range f is order e i n there at-n =
    listed-node f is n (subst (λ (l : List ℕ). is_among n l ≡ true) e (among-at order i n there at-n))

-- a list is cut at a place
pub take-next : (ns : List ℕ) (i n : ℕ) → i < length ns → n ≡ get_or ns i n → take (i + 1) ns ≡ take i ns ++ n ∷ []
take-next ns i n there at-n = take_more ns i n there ∙ ap (λ k. take i ns ++ k ∷ []) (sym at-n)

pub drop-next : (ns : List ℕ) (i n : ℕ) → i < length ns → n ≡ get_or ns i n → drop i ns ≡ n ∷ drop (suc i) ns
drop-next ns i n there at-n =
    drop_more ns i n there ∙ (ap (λ k. k ∷ drop (i + 1) ns) (sym at-n) ∙ ap (λ j. n ∷ drop j ns) (let e : i + 1 ≡ suc i = omega arith in e))

-- MAKING THE LIST

range-next : (a n : ℕ) → a < n → range_with_len a (n - a) ≡ a ∷ range_with_len (a + 1) (n - (a + 1))
range-next a n less = ap (range_with_len a) (let e : n - a ≡ suc (n - (a + 1)) = omega (arith, less) in e)

pub none-by : (o : Option ℕ) (b : Bool) → is_some o ≡ not b → is_none o ≡ b
none-by None true h = refl
none-by None false h = absurd (cc)
none-by (Some n) true h = absurd (cc)
none-by (Some n) false h = refl

-- a root and what stands below it comes next
pub root-next : (f : Forest) (order : List ℕ) (a n : ℕ) → a < n → is_root f a ≡ true
    → (order ++ a ∷ inner_below f a) ++ each_with_below (inner_below f) (filter (is_root f) (range_with_len (a + 1) (n - (a + 1))))
    ≡ order ++ each_with_below (inner_below f) (filter (is_root f) (range_with_len a (n - a)))
root-next f order a n less is =
    let rest = range_with_len (a + 1) (n - (a + 1)) in
    append_assoc order (a ∷ inner_below f a) (each_with_below (inner_below f) (filter (is_root f) rest))
    ∙ ap (λ (l : List ℕ). order ++ each_with_below (inner_below f) l)
    (sym (ap (filter (is_root f)) (range-next a n less) ∙ ap (λ b. cond b (a ∷ filter (is_root f) rest) (filter (is_root f) rest)) is))

pub other-next : (f : Forest) (order : List ℕ) (a n : ℕ) → a < n → is_root f a ≡ false
    → order ++ each_with_below (inner_below f) (filter (is_root f) (range_with_len (a + 1) (n - (a + 1))))
    ≡ order ++ each_with_below (inner_below f) (filter (is_root f) (range_with_len a (n - a)))
other-next f order a n less is =
    let rest = range_with_len (a + 1) (n - (a + 1)) in
    ap (λ (l : List ℕ). order ++ each_with_below (inner_below f) l)
    (sym (ap (filter (is_root f)) (range-next a n less) ∙ ap (λ b. cond b (a ∷ filter (is_root f) rest) (filter (is_root f) rest)) is))

pub roots-all : (f : Forest) (n : ℕ) → n ≡ node_count f
    → each_with_below (inner_below f) (filter (is_root f) (range_with_len 0 (n - 0))) ≡ in_tree_order f
unfolding in_tree_order
roots-all f n e =
    ap (λ k. each_with_below (inner_below f) (filter (is_root f) (range_with_len 0 k)))
    (let s : n - 0 ≡ node_count f = omega (arith, e) in s)

-- the document comes first, where it has no parent
pub begins-first : (f : Forest) (order : List ℕ) → order ≡ cond (is_root f 0) (0 ∷ inner_below f 0) [] → BeginsWith f (length order) order
begins-first f order e =
    elim (cases_Bool (is_root f 0)) [
      | inl root ↦ first order (e ∙ ap (λ b. cond b (0 ∷ inner_below f 0) []) root)
      | inr other ↦ none order (e ∙ ap (λ b. cond b (0 ∷ inner_below f 0) []) other)
    ]
  where
    first : (order : List ℕ) → order ≡ 0 ∷ inner_below f 0 → BeginsWith f (length order) order
    first order e = rw e (take_all (length (0 ∷ inner_below f 0)) (0 ∷ inner_below f 0) (omega arith)
        ∙ sym (ap (λ b. cond b (0 ∷ inner_below f 0) []) (lt-ltb 0 (length (0 ∷ inner_below f 0)) (omega arith))))

    none : (order : List ℕ) → order ≡ [] → BeginsWith f (length order) order
    none order e = rw e refl

take-within : (k : ℕ) (xs ys : List ℕ) → k ≤ length xs → take k (xs ++ ys) ≡ take k xs
take-within zero xs ys less = refl
take-within (suc k) [] ys less = absurd (omega (arith, less))
take-within (suc k) (x ∷ xs) ys less = ap (λ (l : List ℕ). x ∷ l) (take-within k xs ys (omega (arith, less)))

pub begins-more : (f : Forest) (first : ℕ) (order more : List ℕ) → first ≤ length order → BeginsWith f first order
    → BeginsWith f first (order ++ more)
begins-more f first order more within h = take-within first order more within ∙ h

pub all-roots : (f : Forest) → IsForest f → (order : List ℕ) (count : ℕ) → count ≡ node_count f
    → order ≡ cond (is_root f 0) (0 ∷ inner_below f 0) []
    → order ++ each_with_below (inner_below f) (filter (is_root f) (range_with_len 1 (count - 1))) ≡ in_tree_order f
all-roots f is order count all e =
    let some : 0 < count = let d = is.document in omega (arith, d, all) in
    elim (cases_Bool (is_root f 0)) [
      | inl root ↦ ap (λ (l : List ℕ). l ++ each_with_below (inner_below f) (filter (is_root f) (range_with_len 1 (count - 1))))
          (e ∙ ap (λ b. cond b (0 ∷ inner_below f 0) []) root) ∙ (root-next f [] 0 count some root ∙ roots-all f count all)
      | inr other ↦ ap (λ (l : List ℕ). l ++ each_with_below (inner_below f) (filter (is_root f) (range_with_len 1 (count - 1))))
          (e ∙ ap (λ b. cond b (0 ∷ inner_below f 0) []) other) ∙ (other-next f [] 0 count some other ∙ roots-all f count all)
    ]

pub drop-all : (k : ℕ) (ns : List ℕ) → length ns ≤ k → drop k ns ≡ []
drop-all zero [] all = refl
drop-all zero (n ∷ ns) all = absurd (omega (arith, all))
drop-all (suc k) [] all = refl
drop-all (suc k) (n ∷ ns) all = drop-all k ns (omega (arith, all))

-- what comes after the document
pub behind-first : (f : Forest) (first : ℕ) (order nodes : List ℕ) → BeginsWith f first order → 1 ≤ first
    → nodes ≡ take (first - 1) (drop 1 order) → nodes ≡ inner_below f 0
behind-first f zero order nodes begins some e = absurd (omega (arith, some))
behind-first f (suc k) order nodes begins some e =
    e ∙ by order (begins ∙ ap (λ b. cond b (0 ∷ inner_below f 0) []) (lt-ltb 0 (suc k) (omega arith)))
  where
    by : (order : List ℕ) → take (suc k) order ≡ 0 ∷ inner_below f 0 → take (suc k - 1) (drop 1 order) ≡ inner_below f 0
    by [] h = absurd (no-line (sym h))
    by (x ∷ xs) h = ap (λ j. take j xs) (let less : suc k - 1 ≡ k = omega arith in less) ∙ tails h
