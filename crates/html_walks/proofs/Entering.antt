-- The nodes that a walk enters.
use Rattle.std.proofs.Common.{◌≡◌, ◌∙◌, ℕ, zero, suc, List, [], ◌∷◌, ◌++◌, refl, ap, append-nil}
use Rattle.markup.specs.Forest.{Forest, children_of, node_count}
use Rattle.html_nodes.specs.Below.{below, below_within, each_with_below}
use Rattle.html_walks.specs.Laws.{entered}
use Rattle.html_walks.specs.Walk.{steps_each, steps_within, steps_through}
use Rattle.html_walks.specs.declared.steps.Step.{Step}
use Rattle.html_walks.specs.declared.steps.Step.TheVariants.{Enter, Leave}

entered-append : (a b : List Step) → entered (a ++ b) ≡ entered a ++ entered b
entered-append [] b = refl
entered-append (Enter n ∷ a) b = ap (λ (l : List ℕ). n ∷ l) (entered-append a b)
entered-append (Leave n ∷ a) b = entered-append a b

entered-each : (f : Forest) (g : List ℕ → List Step) (h : ℕ → List ℕ) → ((n : ℕ) → entered (g (children_of f n)) ≡ h n) → (ns : List ℕ)
    → entered (steps_each g f ns) ≡ each_with_below h ns
entered-each f g h same [] = refl
entered-each f g h same (n ∷ ns) =
    ap (λ (l : List ℕ). n ∷ l) (entered-append (g (children_of f n)) (Leave n ∷ steps_each g f ns)
    ∙ (ap (λ (l : List ℕ). l ++ entered (steps_each g f ns)) (same n)
    ∙ ap (λ (l : List ℕ). h n ++ l) (entered-each f g h same ns)))

entered-within : (f : Forest) (levels n : ℕ) → entered (steps_within levels f (children_of f n)) ≡ below_within levels f n
unfolding steps_within below_within
entered-within f zero n = refl
entered-within f (suc levels) n =
    entered-each f (steps_within levels f) (below_within levels f) (entered-within f levels) (children_of f n)

pub nodes-entered : (f : Forest) (n : ℕ) → entered (steps_through f n) ≡ n ∷ below f n
nodes-entered f n =
    ap (λ (l : List ℕ). n ∷ l) (entered-append (steps_within (node_count f) f (children_of f n)) (Leave n ∷ [])
    ∙ (append-nil (entered (steps_within (node_count f) f (children_of f n))) ∙ entered-within f (node_count f) n))
