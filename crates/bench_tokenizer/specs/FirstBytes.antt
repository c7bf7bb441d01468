-- The bytes with which characters begin (RFC 3629, section 3): all but those from 0x80 to 0xBF.
use Rattle.std.specs.Prelude.{ℕ, Bool, ◌||◌, nat_lt, not}

abbrev pub is_first : ℕ → Bool
is_first byte = nat_lt byte 128 || not (nat_lt byte 192)
