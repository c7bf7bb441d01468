-- Paths, element by element from the outermost on.
use Rattle.std.proofs.Common.{◌≡◌, ◌∙◌, List, [], ◌∷◌, ◌++◌, ap, append-nil, append_assoc, codes, refl, sym, ℕ}
use Rattle.figpliers.specs.Forest.{Forest}
use Rattle.html_listings.specs.Listings.{local_of}
use Rattle.figpliers_program.specs.Checking.{path, slashed}

-- the outermost element comes first
pub slashed-last : (f : Forest) (around : List ℕ) (n : ℕ)
    → slashed f (around ++ n ∷ []) ≡ (codes "/" ++ local_of f n) ++ slashed f around
slashed-last f [] n = sym (append-nil (codes "/" ++ local_of f n))
slashed-last f (m ∷ around) n =
    ap (λ text. text ++ (codes "/" ++ local_of f m)) (slashed-last f around n)
    ∙ append_assoc (codes "/" ++ local_of f n) (slashed f around) (codes "/" ++ local_of f m)

pub path-last : (f : Forest) (around : List ℕ) (n : ℕ) → path f (around ++ n ∷ []) ≡ local_of f n ++ slashed f around
path-last f [] n = sym (append-nil (local_of f n))
path-last f (m ∷ []) n = refl
path-last f (m ∷ k ∷ around) n =
    ap (λ text. text ++ (codes "/" ++ local_of f m)) (path-last f (k ∷ around) n)
    ∙ append_assoc (local_of f n) (slashed f (k ∷ around)) (codes "/" ++ local_of f m)

-- an element more, after a slash
pub slash-more : (f : Forest) (old mid new name : List ℕ) (around left : List ℕ) (n : ℕ) → mid ≡ old ++ codes "/" → new ≡ mid ++ name
    → name ≡ local_of f n → around ≡ left ++ n ∷ [] → new ++ slashed f left ≡ old ++ slashed f around
slash-more f old mid new name around left n slash put is last =
    let whole : new ≡ old ++ (codes "/" ++ local_of f n) =
    put ∙ (ap (λ m. m ++ name) slash ∙ (append_assoc old (codes "/") name ∙ ap (λ w. old ++ (codes "/" ++ w)) is)) in
    ap (λ t. t ++ slashed f left) whole ∙ (append_assoc old (codes "/" ++ local_of f n) (slashed f left)
    ∙ ap (λ t. old ++ t) (sym (slashed-last f left n) ∙ ap (slashed f) (sym last)))
