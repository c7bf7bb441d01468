use Rattle.std.specs.Prelude.{◌≡◌, ℕ, ◌<◌, Bool, true, false, ◌&&◌, if◌then◌else◌, nat_lt, Option, Some, None, List, [], ◌∷◌}
use denote.Bor.{Bor}

-- whether a text begins with a pattern, character by character, where `same` tells an ASCII character and one of the
-- pattern alike: `None` where the text ends before the two differ
abbrev pub begins : (ℕ → ℕ → Bool) → List ℕ → List ℕ → Option Bool
begins same cs [] = Some true
begins same [] (p ∷ ps) = None
begins same (c ∷ cs) (p ∷ ps) = if nat_lt c 128 && same c p then begins same cs ps else Some false

-- a comparison of a byte and one of an ASCII pattern answers as `same` does
abbrev pub Computes : (Bor ℕ → Bor ℕ → Bool → Type 0) → (ℕ → ℕ → Bool) → Type 0
Computes post same = (x y : Bor ℕ) (r : Bool) → x.now < 256 → y.now < 128 → post x y r → r ≡ same x.now y.now

-- it refuses each byte above 7F
abbrev pub RefusesAbove : (Bor ℕ → Bor ℕ → Bool → Type 0) → Type 0
RefusesAbove post = (x y : Bor ℕ) (r : Bool) → 127 < x.now → x.now < 256 → y.now < 128 → post x y r → r ≡ false
