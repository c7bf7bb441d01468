-- Texts of ASCII alone, whose bytes are their characters.
use Rattle.std.specs.Prelude.{ℕ, Bool, true, List, [], ◌∷◌, nat_lt, ◌&&◌}

abbrev pub is_plain : List ℕ → Bool
is_plain [] = true
is_plain (b ∷ bs) = nat_lt b 128 && is_plain bs
