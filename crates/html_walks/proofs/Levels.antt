-- The height of a node, as a walk counts it.
use Rattle.std.proofs.Common.{◌≡◌, ◌∙◌, ◌+◌, ◌-◌, ◌^◌, ◌<◌, ◌≤◌, ℕ, zero, suc, max, true, List, [], ◌∷◌, ◌++◌, length, arith, refl, sym, ap, subst}
use Rattle.std.proofs.Common.{append_assoc}
use Rattle.std.proofs.Math.Nat.{le-max_left, le-max_right, max-le}
use Rattle.std.proofs.lemmas.List.{length-append}
use Rattle.markup.specs.Forest.{Forest, IsForest, children_of, is_among, node_count}
use Rattle.markup.proofs.Parents.{parent-IsNode}
use Rattle.markup.proofs.WholeTrees.{among-first}
use Rattle.html_nodes.specs.Below.{below_within, each_with_below}
use Rattle.html_walks.proofs.Fitting.{fits-more}
use Rattle.html_walks.specs.Height.{height, levels_each, levels_within}
use Rattle.html_walks.specs.Walk.{steps_each, steps_within, steps_through}
use Rattle.html_walks.specs.declared.steps.Step.{Step}
use Rattle.html_walks.specs.declared.steps.Step.TheVariants.{Enter, Leave}

-- the lowest level of nodes that some steps begin, or the lowest so far, where the first of them is on a level
abbrev pub lowest : ℕ → ℕ → List Step → ℕ
lowest level most [] = most
lowest level most (Enter n ∷ steps) = lowest (suc level) (max most level) steps
lowest level most (Leave n ∷ steps) = lowest (level - 1) most steps

-- it is never higher than the lowest so far
pub lowest-most : (level most : ℕ) (steps : List Step) → most ≤ lowest level most steps
lowest-most level most [] = omega arith
lowest-most level most (Enter n ∷ steps) =
    let rest = lowest-most (suc level) (max most level) steps in
    let one = le-max_left most level in
    omega (arith, rest, one)
lowest-most level most (Leave n ∷ steps) = lowest-most (level - 1) most steps

-- so many levels are below the one above, on which the first of them is
abbrev with_levels : ℕ → ℕ → ℕ → ℕ
with_levels level most zero = most
with_levels level most (suc levels) = max most (level + levels)

some-levels : (level most levels : ℕ) → 0 < levels → with_levels level most levels ≡ max most (level + (levels - 1))
some-levels level most zero some = absurd (omega (arith, some))
some-levels level most (suc levels) some = omega arith

more-levels : (level most inner later : ℕ)
    → with_levels level (with_levels (suc level) (max most level) inner) later ≡ with_levels level most (max (suc inner) later)
more-levels level most inner later = by inner later ∙ sym (some-levels level most (max (suc inner) later) (omega arith))
  where
    by : (inner later : ℕ) → with_levels level (with_levels (suc level) (max most level) inner) later
        ≡ max most (level + (max (suc inner) later - 1))
    by zero zero = omega arith
    by zero (suc later) = omega arith
    by (suc inner) zero = omega arith
    by (suc inner) (suc later) = omega arith

one-less : (level : ℕ) → suc level - 1 ≡ level
one-less level = omega arith

lowest-each : (f : Forest) (g : List ℕ → List Step) (h : List ℕ → ℕ)
    → ((level most : ℕ) (n : ℕ) (rest : List Step) → lowest level most (g (children_of f n) ++ rest)
    ≡ lowest level (with_levels level most (h (children_of f n))) rest)
    → (level most : ℕ) (ns : List ℕ) (rest : List Step)
    → lowest level most (steps_each g f ns ++ rest) ≡ lowest level (with_levels level most (levels_each h f ns)) rest
lowest-each f g h inner level most [] rest = refl
lowest-each f g h inner level most (n ∷ ns) rest =
    ap (lowest (suc level) (max most level)) (append_assoc (g (children_of f n)) (Leave n ∷ steps_each g f ns) rest)
    ∙ inner (suc level) (max most level) n (Leave n ∷ (steps_each g f ns ++ rest))
    ∙ ap (λ above. lowest above (with_levels (suc level) (max most level) (h (children_of f n))) (steps_each g f ns ++ rest))
    (one-less level)
    ∙ lowest-each f g h inner level (with_levels (suc level) (max most level) (h (children_of f n))) ns rest
    ∙ ap (λ low. lowest level low rest) (more-levels level most (h (children_of f n)) (levels_each h f ns))

lowest-within : (f : Forest) (levels level most : ℕ) (n : ℕ) (rest : List Step)
    → lowest level most (steps_within levels f (children_of f n) ++ rest)
    ≡ lowest level (with_levels level most (levels_within levels f (children_of f n))) rest
unfolding steps_within levels_within
lowest-within f zero level most n rest = refl
lowest-within f (suc levels) level most n rest =
    lowest-each f (steps_within levels f) (levels_within levels f) (lowest-within f levels) level most (children_of f n) rest

from-top : (levels : ℕ) → with_levels 1 0 levels ≡ levels
from-top zero = refl
from-top (suc levels) = omega arith

-- the lowest level that a walk comes to is the height
pub lowest-is : (f : Forest) (n : ℕ) → lowest 0 0 (steps_through f n) ≡ height f n
lowest-is f n = lowest-within f (node_count f) 1 0 n (Leave n ∷ []) ∙ from-top (height f n)

-- HOW HIGH A NODE CAN BE

levels-none : (f : Forest) (levels : ℕ) → levels_within levels f [] ≡ 0
unfolding levels_within
levels-none f zero = refl
levels-none f (suc levels) = refl

each-below : (f : Forest) (g : List ℕ → ℕ) (h : ℕ → List ℕ) → ((n : ℕ) → g (children_of f n) ≤ length (h n)) → (ns : List ℕ)
    → levels_each g f ns ≤ length (each_with_below h ns)
each-below f g h inner [] = omega arith
each-below f g h inner (n ∷ ns) =
    let long = length-append (n ∷ h n) (each_with_below h ns) in
    let first = inner n in
    let rest = each-below f g h inner ns in
    max-le (omega (arith, long, first)) (omega (arith, long, rest))

-- each level has a node
within-below : (f : Forest) (levels n : ℕ) → levels_within levels f (children_of f n) ≤ length (below_within levels f n)
unfolding levels_within below_within
within-below f zero n = omega arith
within-below f (suc levels) n = each-below f (levels_within levels f) (below_within levels f) (within-below f levels) (children_of f n)

pub height-less : (f : Forest) → IsForest f → (n : ℕ) → height f n < node_count f
height-less f is n = by (children_of f n) refl
  where
    by : (ns : List ℕ) → children_of f n ≡ ns → height f n < node_count f
    by [] e =
        let none : height f n ≡ 0 = ap (levels_within (node_count f) f) e ∙ levels-none f (node_count f) in
        let some = is.document in
        omega (arith, none, some)
    by (m ∷ ms) e =
        let there : is_among m (children_of f n) ≡ true = subst (λ (l : List ℕ). is_among m l ≡ true) (sym e) (among-first m ms) in
        let few = fits-more f is n (parent-IsNode f m n (is.one_parent n m there)) in
        let low = within-below f (node_count f) n in
        omega (arith, few, low)

-- so a level on which a walk begins a node can be counted
pub level-fits : (f : Forest) → IsForest f → node_count f < 2 ^ 64 → (n m level most : ℕ) (step : Step) (steps rest : List Step)
    → steps ≡ step ∷ rest → step ≡ Enter m → lowest level most steps ≡ height f n → level + 1 < 2 ^ 64
level-fits f is few n m level most step steps rest first begins counted =
    let all : lowest (suc level) (max most level) rest ≡ height f n =
    ap (lowest level most) (sym (first ∙ ap (λ (s : Step). s ∷ rest) begins)) ∙ counted in
    let low = lowest-most (suc level) (max most level) rest in
    let one = le-max_right most level in
    let less = height-less f is n in
    omega (arith, all, low, one, less, few)
