-- Bytes of characters that are read as others.
use Rattle.std.specs.Prelude.{ℕ, Bool, ◌||◌, nat_eq}

-- U+0000 or U+000D
abbrev pub is_odd : ℕ → Bool
is_odd b = nat_eq b 0 || nat_eq b 13
