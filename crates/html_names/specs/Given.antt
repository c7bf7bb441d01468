-- A part of a text that is lent.
use Rattle.std.specs.Prelude.{◌≡◌, ◌<◌, ◌∷◌, length, ℕ, List, Option, Some, None}
use Rattle.std.specs.Str.{IsUtf8, chars}
use denote.Bor.{Bor}

-- the part that is lent has these characters, or there is none
abbrev pub Gives : Option (List ℕ) → Option (Bor (List ℕ)) → Type 0
Gives part None = part ≡ None
Gives part (Some lent) = part ≡ Some (chars lent.now)

-- a text is another after its first character
pub record IsRest (whole rest : List ℕ) : Type 0 where
  pub first : ℕ
  pub characters : chars whole ≡ first ∷ chars rest
  pub text : IsUtf8 rest
  pub shorter : length rest < length whole
