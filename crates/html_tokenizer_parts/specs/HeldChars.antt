-- The characters that stand after the "&" of a reference.
use Rattle.std.specs.Prelude.{ℕ, Bool, ◌||◌, nat_eq}
use Rattle.std.specs.Char.{is_ascii_alphanumeric}

-- what names and digits are written with: letters, digits and ";"
abbrev pub is_named_with : ℕ → Bool
is_named_with c = is_ascii_alphanumeric c || nat_eq c 59

-- what stands after the "&" of a reference: the same, and "#"
abbrev pub is_held : ℕ → Bool
is_held c = is_named_with c || nat_eq c 35
