-- Steps of which each may find nothing.
use Rattle.std.proofs.Common.{◌≡◌, Bool, true, false, refl}
use Rattle.std.specs.Prelude.{Option, Some, None}
use Rattle.html_rules.specs.Choice.{choose}
use Rattle.html_faithful.specs.Harmless.{and_then}

pub then-assoc : {A B C : Type 0} (o : Option A) (f : A → Option B) (g : B → Option C)
    → and_then (and_then o f) g ≡ and_then o (λ x. and_then (f x) g)
then-assoc None f g = refl
then-assoc (Some x) f g = refl

pub then-some : {A : Type 0} (o : Option A) → and_then o (λ x. Some x) ≡ o
then-some None = refl
then-some (Some x) = refl

pub then-none : {A B : Type 0} (o : Option A) → and_then {B = B} o (λ x. None) ≡ None
then-none None = refl
then-none (Some x) = refl

pub choose-none : {A : Type 0} (b : Bool) → choose {A = Option A} b (λ _. None) (λ _. None) ≡ None
choose-none true = refl
choose-none false = refl

-- a step after a choice
pub choose-then : {A B C : Type 0} (b : Bool) (o : Option A) (f : A → Option B) (g : B → Option C)
    → and_then (choose b (λ _. and_then o f) (λ _. None)) g ≡ and_then (choose b (λ _. o) (λ _. None)) (λ x. and_then (f x) g)
choose-then true o f g = then-assoc o f g
choose-then false o f g = refl

pub the : {A : Type 0} (a b : A) → Some a ≡ Some b → a ≡ b
the a b h = cc

pub then-same : {A B : Type 0} (o : Option A) (f g : A → Option B) → ((x : A) → f x ≡ g x) → and_then o f ≡ and_then o g
then-same None f g h = refl
then-same (Some x) f g h = h x

pub choose-first : {A B : Type 0} (b : Bool) (o : Option A) (f : A → Option B)
    → and_then (choose b (λ _. o) (λ _. None)) f ≡ choose b (λ _. and_then o f) (λ _. None)
choose-first true o f = refl
choose-first false o f = refl
