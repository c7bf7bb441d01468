-- What a step of a decoder returns.
use Rattle.std.specs.Prelude.{◌≡◌, ℕ, Option, List, [], ◌∷◌}
use Rattle.html_encodings.specs.Handlers.{Step}
use Rattle.html_encodings.specs.declared.emitted.Emitted.{Emitted}
use Rattle.html_encodings.specs.declared.emitted.Emitted.TheVariants.{Nothing, One, Two, Three, Four}

-- what is emitted, from the first one on
abbrev pub items : Emitted → List (Option ℕ)
items Nothing = []
items (One a) = a ∷ []
items (Two a b) = a ∷ b ∷ []
items (Three a b c) = a ∷ b ∷ c ∷ []
items (Four a b c d) = a ∷ b ∷ c ∷ d ∷ []

-- a step is done: this is emitted, and so stands the handler afterwards
pub record Does {S : Type 0} (step : Step S) (emitted : Emitted) (after : S) : Type 0 where
  pub written : items emitted ≡ step.written
  pub state : after ≡ step.state
