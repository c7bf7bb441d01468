-- Bytes that are looked through for a declaration.
use Rattle.std.specs.Prelude.{ℕ, ◌-◌, ◌≤◌, ◌<◌, Bool, true, false, not, ◌&&◌, ◌||◌, List, [], ◌∷◌, length, take, drop, ◌==◌, nat_le, slice_index}
use Rattle.std.specs.List.{prefix_len, suffix_len}
use Rattle.std.specs.Char.{is_ascii_whitespace, to_ascii_lowercase}
use Rattle.html_encodings.specs.declared.scanning.Class.{Class}
use Rattle.html_encodings.specs.declared.scanning.Class.TheVariants.{Space, SpaceOrSlash, Name, Value, Content, Control, Not}

-- whether a byte is of a class
abbrev pub has : Class → ℕ → Bool
has Space byte = is_ascii_whitespace byte
has SpaceOrSlash byte = is_ascii_whitespace byte || (byte == 47)
has Name byte = not (((is_ascii_whitespace byte || (byte == 47)) || (byte == 61)) || (byte == 62))
has Value byte = not (is_ascii_whitespace byte || (byte == 62))
has Content byte = not (is_ascii_whitespace byte || (byte == 59))
has Control byte = nat_le byte 0x20
has (Not one) byte = not (byte == one)

-- whether a byte is not ASCII
abbrev pub is_not_ascii : ℕ → Bool
is_not_ascii byte = nat_le 128 byte

-- the bytes between two places are ASCII
abbrev pub AreAscii : List ℕ → ℕ → ℕ → Type 0
AreAscii bytes from to = (k : ℕ) → from ≤ k → k < to → slice_index bytes k < 128

-- the bytes of a class in front, and what follows them
unfoldable pub front : Class → List ℕ → List ℕ
front class bytes = take (prefix_len (has class) bytes) bytes

unfoldable pub past : Class → List ℕ → List ℕ
past class bytes = drop (prefix_len (has class) bytes) bytes

-- white space at both ends is left out
unfoldable pub trimmed : List ℕ → List ℕ
trimmed bytes = let rest = past Space bytes in take (length rest - suffix_len (has Space) rest) rest

-- a word in small letters stands in front, in letters of any case
abbrev pub begins : List ℕ → List ℕ → Bool
begins [] bytes = true
begins (letter ∷ word) [] = false
begins (letter ∷ word) (byte ∷ bytes) = (to_ascii_lowercase byte == letter) && begins word bytes
