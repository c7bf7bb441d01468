-- Each known name is at the place that its hash leads to.
use Rattle.std.proofs.Common.{◌≡◌, ◌∙◌, ℕ, zero, suc, ◌+◌, ◌<◌, ◌==◌, ◌&&◌, Bool, true, false, List, [], ◌∷◌, length, get_or}
use Rattle.std.proofs.Common.{refl, ap, sym, arith, eqb-true}
use Rattle.std.specs.List.{list_any}
use Rattle.std.specs.Str.{bytes_eq}
use Rattle.std.proofs.lemmas.Bool.{and_parts}
use Rattle.std.proofs.lemmas.Bool.Decides.{Decides-eqb, Decides-like, same_from_decides}
use Rattle.std.proofs.lemmas.List.{get_or_default}
use Rattle.std.proofs.lemmas.List.Folds.{list_any_at, list_any_none}
use Rattle.std.proofs.lemmas.Slice.Eq.{bytes_eq-Decides}
use Rattle.markup.specs.KnownNames.{IsNameAt, names}
use Rattle.markup.specs.KnownSlots.{name_hash, place_at}

-- the texts are at the places from a first one on
abbrev are_placed : ℕ → List (List ℕ) → Bool
are_placed first [] = true
are_placed first (text ∷ texts) = (place_at (name_hash text) == first) && are_placed (suc first) texts

names-placed : are_placed 0 names ≡ true
unfolding names place_at
names-placed = refl

placed-from : (first : ℕ) (texts : List (List ℕ)) → are_placed first texts ≡ true → (k : ℕ) → k < length texts
    → (d : List ℕ) → place_at (name_hash (get_or texts k d)) ≡ first + k
placed-from first [] h k l d = absurd (omega arith)
placed-from first (text ∷ texts) h zero l d =
    let here : place_at (name_hash text) ≡ first =
    eqb-true _ _ (and_parts (place_at (name_hash text) == first) (are_placed (suc first) texts) h).0 in
    omega (arith, here)
placed-from first (text ∷ texts) h (suc k) l d =
    let later = placed-from (suc first) texts
    (and_parts (place_at (name_hash text) == first) (are_placed (suc first) texts) h).1 k (omega arith) d in
    omega (arith, later)

placed : (k : ℕ) → k < length names → (d : List ℕ) → place_at (name_hash (get_or names k d)) ≡ k
placed k l d =
    let found = placed-from 0 names names-placed k l d in
    omega (arith, found)

apart : (bytes name : List ℕ) (b : Bool) → bytes_eq bytes name ≡ b → (bytes ≡ name → false ≡ true) → bytes_eq bytes name ≡ false
apart bytes name true e h =
    let no = h ((bytes_eq-Decides bytes name).0 e) in
    absurd cc
apart bytes name false e h = e

-- bytes that do not stand where their hash leads to are no known name
pub none_placed : (bytes : List ℕ) (place : ℕ) → place ≡ place_at (name_hash bytes)
    → (place < length names → get_or names place bytes ≡ bytes → false ≡ true) → list_any (bytes_eq bytes) names ≡ false
none_placed bytes place p h =
    list_any_none (bytes_eq bytes) names (λ k d l. apart bytes (get_or names k d) _ refl (λ e.
    let here : place ≡ k = p ∙ ap (λ b. place_at (name_hash b)) e ∙ placed k l d in
    h (rw here l) (rw here (get_or_default names k bytes d l ∙ sym e))))

-- a name has one place
one_place : (i j : ℕ) (name : List ℕ) → IsNameAt i name → IsNameAt j name → i ≡ j
one_place i j name first second =
    let same : place_at (name_hash (get_or names i [])) ≡ place_at (name_hash (get_or names j [])) =
    ap (λ n. place_at (name_hash n)) (first.there ∙ sym second.there) in
    sym (placed i first.within []) ∙ same ∙ placed j second.within []

-- known names are the same where their places are
pub same_places : (i j : ℕ) (a b : List ℕ) → IsNameAt i a → IsNameAt j b → (i == j) ≡ bytes_eq a b
same_places i j a b first second =
    same_from_decides {P = a ≡ b} (i == j) (bytes_eq a b)
    (Decides-like {P = i ≡ j} {Q = a ≡ b} (i == j) (λ e. sym first.there ∙ ap (λ k. get_or names k []) e
    ∙ second.there) (λ e. one_place i j b (rw e at first) second) (Decides-eqb i j))
    (bytes_eq-Decides a b)

-- a text that is no known name is none of them
pub not_known : (i : ℕ) (a b : List ℕ) → IsNameAt i a → list_any (bytes_eq b) names ≡ false → bytes_eq b a ≡ false
not_known i a b known none =
    apart b a _ refl (λ e.
    let here : bytes_eq b (get_or names i []) ≡ true = (bytes_eq-Decides b (get_or names i [])).1 (e ∙ sym known.there) in
    sym none ∙ list_any_at (bytes_eq b) names i [] known.within here)
