-- Characters of the input that are parse errors (HTML Standard, section 13.2.3.5; Infra Standard, "control" and "noncharacter").
use Rattle.std.specs.Prelude.{ℕ, Bool, ◌||◌, ◌&&◌, nat_le, nat_eq, ◌%◌}

abbrev pub is_within : ℕ → ℕ → ℕ → Bool
is_within first last c = nat_le first c && nat_le c last

-- a control that is no ASCII white space, and no U+0000
abbrev pub is_control : ℕ → Bool
is_control c = is_within 1 8 c || nat_eq c 11 || is_within 14 31 c || is_within 0x7F 0x9F c

abbrev pub is_noncharacter : ℕ → Bool
is_noncharacter c = is_within 0xFDD0 0xFDEF c || nat_le 0xFFFE (c % 0x1_0000)

abbrev pub is_forbidden : ℕ → Bool
is_forbidden c = is_control c || is_noncharacter c
