-- Six numbers that are equal one by one.
use Rattle.std.proofs.Common.{◌≡◌, ℕ, [], ◌∷◌, refl}

pub six-are : {a b c d e f a' b' c' d' e' f' : ℕ} → a ≡ a' → b ≡ b' → c ≡ c' → d ≡ d' → e ≡ e' → f ≡ f'
    → a ∷ b ∷ c ∷ d ∷ e ∷ f ∷ [] ≡ a' ∷ b' ∷ c' ∷ d' ∷ e' ∷ f' ∷ []
six-are p q r s t u = rw (p, q, r, s, t, u) refl
