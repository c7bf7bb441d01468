-- Bytes of characters that have several (Unicode Standard, table 3-7).
use Rattle.std.specs.Prelude.{ℕ, ◌≤◌, ◌<◌, Bool, nat_le}
use Rattle.std.specs.Str.Lossy.{second_byte_max, second_byte_min}

-- a byte that is not ASCII
abbrev pub is_wide : ℕ → Bool
is_wide b = nat_le 128 b

-- a byte that may be the third or the fourth of a character
pub record IsContinuation (b : ℕ) : Type 0 where
  pub low : 128 ≤ b
  pub high : b < 192

-- a byte that may follow this first byte
pub record IsSecond (first b : ℕ) : Type 0 where
  pub low : second_byte_min first ≤ b
  pub high : b ≤ second_byte_max first
