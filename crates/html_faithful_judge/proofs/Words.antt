-- Words at the front of characters.
use Rattle.std.proofs.Common.{◌≡◌, ℕ, zero, suc, ◌<◌, ◌≤◌, false, List, [], ◌∷◌, length, refl, arith, drop}
use Rattle.html_tokens.specs.Characters.{begins}

begins-nil : (w : List ℕ) (i : ℕ) → i < length w → begins (drop i w) [] ≡ false
begins-nil [] i l = absurd (omega arith)
begins-nil (x ∷ w) zero l = refl
begins-nil (x ∷ w) (suc i) l = begins-nil w i (omega arith)

-- a word that goes on after the end of a text does not begin it
pub begins-short : (w t : List ℕ) (i : ℕ) → i < length w → length t ≤ i → begins (drop i w) (drop i t) ≡ false
begins-short [] t i l h = absurd (omega arith)
begins-short (x ∷ w) [] zero l h = refl
begins-short (x ∷ w) (c ∷ t) zero l h = absurd (omega arith)
begins-short (x ∷ w) [] (suc i) l h = begins-nil w i (omega arith)
begins-short (x ∷ w) (c ∷ t) (suc i) l h = begins-short w t i (omega arith) (omega arith)
