-- The nodes above a node: its parent, and those above that one.
use Rattle.std.proofs.Common.{◌≡◌, ◌+◌, ◌<◌, ◌≤◌, ℕ, zero, suc, Bool, true, false, List, [], ◌∷◌, length, Option, Some, None}
use Rattle.std.proofs.Common.{inl, inr, refl, ap, arith, eqb, sym, length-append}
use Rattle.std.specs.List.{AllByRecursion, IsDistinct, list_any}
use Rattle.std.proofs.lemmas.Bool.{cases_eq, eq-eqb, ne_eqb}
use Rattle.std.proofs.lemmas.Map.Steps.{length-le_from_distinct_below}
use Rattle.markup.specs.Forest as forest
use Rattle.markup.specs.Forest.{Forest, IsForest, children_of, is_among, node_count, parent_of}
use Rattle.markup.proofs.Forests.{IsParent-from_child}
use Rattle.markup.proofs.Parents.{is_among-parent}
use Rattle.markup.proofs.WholeTrees.{among-first}
use Rattle.html_nodes.specs.Below.{IsBelow, below, each_with_below}
use Rattle.html_nodes.specs.Below.IsBelow.{child, deeper}
use Rattle.html_nodes.proofs.Distinct.{among-below, below-distinct}
use Rattle.html_nodes.proofs.Levels.{below-children, below-other}
use Rattle.html_nodes.proofs.Walking.{below-behind, climb-less}
use Rattle.html_selector_matching.specs.Around.{above, line, line_within}

same-among : (n : ℕ) (ns : List ℕ) → list_any (eqb n) ns ≡ is_among n ns
same-among n [] = refl
same-among n (m ∷ ms) =
    elim (cases_eq n m) [
      | inl same ↦ rw (eq-eqb n m same) refl
      | inr other ↦ rw (ne_eqb n m other) (same-among n ms)
    ]

apart-all : (n : ℕ) (ns : List ℕ) → is_among n ns ≡ false → AllByRecursion (λ y. eqb n y ≡ false) ns
apart-all n [] h = tt
apart-all n (m ∷ ms) h =
    elim (cases_eq n m) [
      | inl same ↦ absurd (let bad = rw (eq-eqb n m same) at h in cc)
      | inr other ↦ (ne_eqb n m other, apart-all n ms (rw (ne_eqb n m other) at h))
    ]

distinct-all : (ns : List ℕ) → forest.IsDistinct ns → IsDistinct eqb ns
unfolding IsDistinct
distinct-all [] h = tt
distinct-all (n ∷ ns) h = (apart-all n ns h.0, distinct-all ns h.1)

false-from : (b : Bool) → (b ≡ true → ⊥) → b ≡ false
false-from true h = absurd (h refl)
false-from false h = refl

pub below-node : (f : Forest) → IsForest f → (p n : ℕ) → IsBelow f p n → n < node_count f
below-node f is p n (child e) = is.in_range p n (is_among-parent f n p e)
below-node f is p n (deeper {m = m} e b) = is.in_range m n (is_among-parent f n m e)

-- fewer nodes stand below a parent than there are
pub below-fewer : (f : Forest) → IsForest f → (n p : ℕ) → parent_of f n ≡ Some p → length (below f p) < node_count f
below-fewer f is n p e =
    let alone : is_among p (below f p) ≡ false = false-from (is_among p (below f p))
    (λ h. below-other f is p p (among-below f is p p h) refl) in
    let there : p < node_count f = (IsParent-from_child f n p is e).there in
    let few : length (p ∷ below f p) ≤ node_count f = length-le_from_distinct_below (p ∷ below f p) (node_count f)
    (distinct-all (p ∷ below f p) (alone, below-distinct f is p))
    (λ q h. in-range q there (rw (same-among q (p ∷ below f p)) at h)) in
    omega (arith, few)
  where
    in-range : (q : ℕ) → p < node_count f → is_among q (p ∷ below f p) ≡ true → q < node_count f
    in-range q there h =
        elim (cases_eq q p) [
          | inl same ↦ rw same there
          | inr other ↦ below-node f is p q (among-below f is p q (rw (ne_eqb q p other) at h))
        ]

-- more nodes stand below a parent than below its child
pub below-more : (f : Forest) → IsForest f → (n p : ℕ) → parent_of f n ≡ Some p → length (below f n) < length (below f p)
below-more f is n p e =
    (climb-less f is p n (below-behind f is p n (child e)) (λ same. below-other f is p n (child e) (sym same)) p e).0

stable : (f : Forest) → IsForest f → (k n : ℕ) → node_count f ≤ k + length (below f n) + 1 → (o : Option ℕ) → parent_of f n ≡ o
    → line_within k f o ≡ line_within (suc k) f o
unfolding line_within
stable f is zero n h None e = refl
stable f is zero n h (Some p) e =
    absurd (let more = below-more f is n p e in let fewer = below-fewer f is n p e in omega (arith, more, fewer, h))
stable f is (suc k) n h None e = refl
stable f is (suc k) n h (Some p) e =
    ap (λ (l : List ℕ). p ∷ l)
    (stable f is k p (let more = below-more f is n p e in omega (arith, more, h)) (parent_of f p) refl)

line-by : (f : Forest) → IsForest f → (count : ℕ) → node_count f ≡ count → (n : ℕ)
    → line_within count f (Some n) ≡ n ∷ line_within count f (parent_of f n)
unfolding line_within
line-by f is zero e n = absurd (let some = is.document in omega (arith, some, e))
line-by f is (suc k) e n = ap (λ (l : List ℕ). n ∷ l) (stable f is k n (omega (arith, e)) (parent_of f n) refl)

-- a node, and those above it
pub line-some : (f : Forest) → IsForest f → (n : ℕ) → line f (Some n) ≡ n ∷ above f n
line-some f is n = line-by f is (node_count f) refl n

line-nothing : (f : Forest) (k : ℕ) → line_within k f None ≡ []
unfolding line_within
line-nothing f zero = refl
line-nothing f (suc k) = refl

pub line-none : (f : Forest) → line f None ≡ []
line-none f = line-nothing f (node_count f)

-- CHILDREN

each-longer : (g : ℕ → List ℕ) (ns : List ℕ) → length ns ≤ length (each_with_below g ns)
each-longer g [] = omega arith
each-longer g (n ∷ ns) =
    let more = each-longer g ns in
    let parts = length-append (g n) (each_with_below g ns) in
    omega (arith, more, parts)

-- a node has fewer children than there are nodes
pub children-few : (f : Forest) → IsForest f → (p : ℕ) → length (children_of f p) < node_count f
children-few f is p = by (children_of f p) refl
  where
    by : (ns : List ℕ) → children_of f p ≡ ns → length (children_of f p) < node_count f
    by [] e = let some = is.document in omega (arith, some, ap length e)
    by (n ∷ ns) e =
        let among : is_among n (children_of f p) ≡ true = rw e (among-first n ns) in
        let fewer = below-fewer f is n p (is.one_parent p n among) in
        let longer = each-longer (below f) (children_of f p) in
        let whole = ap length (below-children f is p) in
        omega (arith, fewer, longer, whole)
