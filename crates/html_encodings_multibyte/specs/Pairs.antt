-- Characters of two bytes.
use Rattle.std.specs.Prelude.{ℕ, Bool, cond, ◌&&◌, Option, Some, None, List, [], ◌∷◌, nat_le, nat_lt, ◌==◌}

abbrev pub is_within : ℕ → ℕ → ℕ → Bool
is_within low high byte = nat_le low byte && nat_le byte high

-- what a second byte writes: a character; or an error, and the byte too where it is ASCII, since that is put back
abbrev pub second_items : Option ℕ → ℕ → List (Option ℕ)
second_items (Some code) byte = Some code ∷ []
second_items None byte = cond (nat_lt byte 128) (None ∷ Some byte ∷ []) (None ∷ [])

-- an error at the end of the input where a byte is held
abbrev pub held_end : ℕ → List (Option ℕ)
held_end lead = cond (lead == 0) [] (None ∷ [])
