-- Laws of what is written.
use Rattle.std.specs.Prelude.{◌≡◌, ℕ, Bool, true, ◌&&◌, not, List, nat_eq}
use Rattle.std.specs.List.{list_all}
use Rattle.markup.specs.Escape.{Mode, escape_in}
use Rattle.markup.specs.Escape.Mode.{InText, InValue}

-- neither "<" nor ">", and in a value no quote
abbrev pub is_harmless : Mode → ℕ → Bool
is_harmless InText c = not (nat_eq c 0x3C) && not (nat_eq c 0x3E)
is_harmless InValue c = not (nat_eq c 0x3C) && not (nat_eq c 0x3E) && not (nat_eq c 0x22)

abbrev pub AreEscapesHarmless : Type 0
AreEscapesHarmless = (mode : Mode) (text : List ℕ) → list_all (is_harmless mode) (escape_in mode text) ≡ true

-- different texts have different escapes in one mode
abbrev pub AreEscapesApart : Type 0
AreEscapesApart = (mode : Mode) (one other : List ℕ) → escape_in mode one ≡ escape_in mode other → one ≡ other
