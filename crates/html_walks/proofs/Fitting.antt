-- A node has fewer nodes below it than its parent, and none has more than there are nodes.
use Rattle.std.proofs.Common.{◌≡◌, ◌∙◌, ◌==◌, ◌<◌, ◌≤◌, ◌+◌, ℕ, zero, suc, Bool, true, false, cond, List, [], ◌∷◌, Option, Some, None}
use Rattle.std.proofs.Common.{length, arith, inl, inr, refl, sym, eqb}
use Rattle.std.specs.Prelude.{◌||◌}
use Rattle.std.specs.List.{AllByRecursion, IsDistinct, list_any}
use Rattle.std.proofs.lemmas.Bool.{eqb-true, false_from_ne_true, or_cases, or_parts}
use Rattle.std.proofs.lemmas.Map.Steps.{length-le_from_distinct_below}
use Rattle.markup.specs.Forest.{Forest, IsForest, children_of, is_among, node_count, parent_of}
use Rattle.markup.specs.Forest as forest
use Rattle.markup.proofs.Parents.{is_among-parent}
use Rattle.html_nodes.specs.Below.{IsBelow, below}
use Rattle.html_nodes.specs.Below.IsBelow.{child, deeper}
use Rattle.html_nodes.proofs.Distinct.{among-below, below-distinct}
use Rattle.html_nodes.proofs.Levels.{below-other}
use Rattle.html_nodes.proofs.Walking.{below-behind, climb-less}
use Rattle.html_walks.specs.Walk.{is_deep, of_parent}

-- what is below a node is a node
below-IsNode : (f : Forest) → IsForest f → (a n : ℕ) → IsBelow f a n → n < node_count f
below-IsNode f is a n (child e) = is.in_range a n (is_among-parent f n a e)
below-IsNode f is a n (deeper {m = m} e b) = is.in_range m n (is_among-parent f n m e)

-- two ways to say that a number is in a list, and that a list has no number twice
or-cond : (b x y : Bool) → x ≡ y → (b || x) ≡ cond b true y
or-cond true x y same = refl
or-cond false x y same = same

among-any : (n : ℕ) (ns : List ℕ) → list_any (eqb n) ns ≡ is_among n ns
among-any n [] = refl
among-any n (m ∷ ms) = or-cond (n == m) _ _ (among-any n ms)

apart-all : (n : ℕ) (ns : List ℕ) → list_any (eqb n) ns ≡ false → AllByRecursion (λ m. eqb n m ≡ false) ns
apart-all n [] h = tt
apart-all n (m ∷ ms) h = let p = or_parts (eqb n m) (list_any (eqb n) ms) h in (p.0, apart-all n ms p.1)

distinct : (ns : List ℕ) → forest.IsDistinct ns → IsDistinct eqb ns
unfolding IsDistinct
distinct [] d = tt
distinct (n ∷ ns) d = (apart-all n ns (among-any n ns ∙ d.0), distinct ns d.1)

pub fits : (f : Forest) → IsForest f → (n : ℕ) → length (below f n) ≤ node_count f
fits f is n = length-le_from_distinct_below (below f n) (node_count f) (distinct (below f n) (below-distinct f is n))
    (λ m among. below-IsNode f is n m (among-below f is n m (sym (among-any m (below f n)) ∙ among)))

-- nor has a node as many below it as there are
pub fits-more : (f : Forest) → IsForest f → (n : ℕ) → n < node_count f → length (below f n) < node_count f
unfolding IsDistinct
fits-more f is n there =
    let apart : list_any (eqb n) (below f n) ≡ false = false_from_ne_true (list_any (eqb n) (below f n)) (λ among.
    below-other f is n n (among-below f is n n (sym (among-any n (below f n)) ∙ among)) refl) in
    let all : length (n ∷ below f n) ≤ node_count f = length-le_from_distinct_below (n ∷ below f n) (node_count f)
    (apart-all n (below f n) apart, distinct (below f n) (below-distinct f is n))
    (λ m among. elim (or_cases (eqb m n) (list_any (eqb m) (below f n)) among) [
      | inl same ↦ rw (eqb-true m n same) there
      | inr later ↦ below-IsNode f is n m (among-below f is n m (sym (among-any m (below f n)) ∙ later))
    ]) in
    omega (arith, all)

pub parent-more : (f : Forest) → IsForest f → (n p : ℕ) → parent_of f n ≡ Some p → length (below f n) < length (below f p)
parent-more f is n p e =
    (climb-less f is p n (below-behind f is p n (child e)) (λ same. below-other f is p n (child e) (sym same)) p e).0

-- so a node is never far below another one
deep-sum : (f : Forest) → IsForest f → (top depth n : ℕ) → is_deep f top depth n ≡ true
    → depth + length (below f n) ≤ length (below f top)
unfolding is_deep
deep-sum f is top zero n h = let same : n ≡ top = eqb-true n top h in rw same (omega arith)
deep-sum f is top (suc depth) n h = by (parent_of f n) refl h (λ p g. deep-sum f is top depth p g)
  where
    by : (o : Option ℕ) → parent_of f n ≡ o → of_parent (is_deep f top depth) o ≡ true
        → ((p : ℕ) → is_deep f top depth p ≡ true → depth + length (below f p) ≤ length (below f top))
        → suc depth + length (below f n) ≤ length (below f top)
    by None e g more = absurd cc
    by (Some p) e g more = let up = more p g in let less = parent-more f is n p e in omega (arith, up, less)

pub deep-fits : (f : Forest) → IsForest f → (top depth n : ℕ) → is_deep f top depth n ≡ true → depth ≤ node_count f
deep-fits f is top depth n h = let sum = deep-sum f is top depth n h in let all = fits f is top in omega (arith, sum, all)
