-- Strings of JSON (RFC 8259, section 7).
use Rattle.std.specs.Prelude.{ℕ, ◌+◌, ◌/◌, ◌%◌, ◌==◌, List, ◌++◌, codes, encode_utf8, if◌then◌else◌, nat_lt}
use Rattle.std.specs.List.{flat_map}
use Rattle.std.specs.Str.{chars}

-- the hexadecimal digit of a number below 16
abbrev pub hex_digit : ℕ → ℕ
hex_digit n = if nat_lt n 10 then 48 + n else 87 + n

abbrev pub control_escape : ℕ → List ℕ
control_escape c = codes "\\u00" ++ (encode_utf8 (hex_digit (c / 16)) ++ encode_utf8 (hex_digit (c % 16)))

-- a character in a string, in UTF-8
abbrev pub in_string : ℕ → List ℕ
in_string c =
    if c == 34 then codes "\\\"" else
    (if c == 92 then codes "\\\\" else
    (if c == 10 then codes "\\n" else
    (if nat_lt c 32 then control_escape c else encode_utf8 c)))

-- a text in UTF-8, as a string
abbrev pub string_of : List ℕ → List ℕ
string_of text = codes "\"" ++ (flat_map in_string (chars text) ++ codes "\"")

-- a member of an object: what stands before its value, and a string
unfoldable pub member : List ℕ → List ℕ → List ℕ
member before text = before ++ string_of text
