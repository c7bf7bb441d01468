-- The parts of a text.
use Rattle.std.specs.Prelude.{◌≡◌, ◌<◌, ◌≤◌, ◌+◌, ◌++◌, true, length, List, ℕ, [], ◌∷◌}
use Rattle.std.specs.Str.{IsUtf8, chars}
use Rattle.html_rules.specs.Tokens.{is_white}

-- a text is its first character and what stands after that
pub record IsSplit (whole one rest : List ℕ) : Type 0 where
  pub first : ℕ
  pub character : chars one ≡ first ∷ []
  pub characters : chars whole ≡ first ∷ chars rest
  pub text : IsUtf8 rest
  pub shorter : length rest < length whole

-- a text is white space at its front, which may be none, and what stands after that
pub record HasWhiteFront (whole front rest : List ℕ) : Type 0 where
  pub characters : chars whole ≡ front ++ chars rest
  pub white : is_white front ≡ true
  pub text : IsUtf8 rest
  pub shorter : length front + length rest ≤ length whole
