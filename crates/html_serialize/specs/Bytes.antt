-- Escaping, byte by byte: in UTF-8, U+00A0 is the bytes C2 and A0, and each other character that is escaped is one byte.
use Rattle.std.specs.Prelude.{◌≡◌, ℕ, suc, ◌+◌, ◌-◌, ◌<◌, ◌≤◌, nat_lt, take, drop, Bool, true, false, cond, ◌&&◌, ◌||◌, List}
use Rattle.std.specs.Prelude.{[], ◌∷◌, ◌++◌, codes, length, nat_eq, slice_index}
use Rattle.markup.specs.Escape.{Mode}
use Rattle.markup.specs.Escape.Mode.{InText, InValue}
use Rattle.html_serialize.specs.declared.escape.Escaping.{Escaping}
use Rattle.html_serialize.specs.declared.escape.Escaping.TheVariants.{Text, Value}

abbrev pub mode_of : Escaping → Mode
mode_of Text = InText
mode_of Value = InValue

abbrev pub in_value : Mode → Bool
in_value InText = false
in_value InValue = true

-- "<", ">" or "&"
abbrev pub is_markup : ℕ → Bool
is_markup b = nat_eq b 0x3C || nat_eq b 0x3E || nat_eq b 0x26

-- a quote in a value, or the byte C2 where A0 is after it
abbrev pub is_other : Mode → ℕ → ℕ → Bool
is_other mode b next = (in_value mode && nat_eq b 0x22) || (nat_eq b 0xC2 && nat_eq next 0xA0)

-- 0, or a byte that may begin an escaped character, where this quote may
abbrev pub is_marked : ℕ → ℕ → Bool
is_marked quote b = nat_eq b 0 || nat_eq b 0xC2 || nat_eq b quote || nat_eq b 0x26 || nat_eq b 0x3E || nat_eq b 0x3C

-- the quote that is escaped; "&", which is anyway, where none is
abbrev pub quote_of : Mode → ℕ
quote_of InText = 0x26
quote_of InValue = 0x22

-- whether a byte begins a character that is escaped, by the byte after it
abbrev pub is_replaced : Mode → ℕ → ℕ → Bool
is_replaced mode b next = is_markup b || is_other mode b next

-- what a character that is escaped is written as, by its first byte
abbrev pub reference_of : ℕ → List ℕ
reference_of b =
    cond (nat_eq b 0x3C) (codes "&lt;")
    (cond (nat_eq b 0x3E) (codes "&gt;")
    (cond (nat_eq b 0x26) (codes "&amp;") (cond (nat_eq b 0x22) (codes "&quot;") (codes "&nbsp;"))))

-- bytes escaped, where the first of them was done with the byte before it or not
abbrev pub escape_bytes : Mode → Bool → List ℕ → List ℕ
escape_bytes mode done [] = []
escape_bytes mode true (b ∷ bs) = escape_bytes mode false bs
escape_bytes mode false (b ∷ bs) =
    cond (is_replaced mode b (slice_index bs 0)) (reference_of b) (b ∷ []) ++ escape_bytes mode
    (is_replaced mode b (slice_index bs 0) && nat_eq b 0xC2) bs

-- from a place on, no byte passes a test before the next place, and that one does, if it is not the end
pub record IsNext (test : ℕ → ℕ → Bool) (bytes : List ℕ) (from next : ℕ) : Type 0 where
  pub within : next ≤ length bytes
  pub passes : next < length bytes → test (slice_index bytes next) (slice_index bytes (suc next)) ≡ true
  pub clear : (i : ℕ) → from ≤ i → i < next → test (slice_index bytes i) (slice_index bytes (suc i)) ≡ false

-- from a place on, no escaped character begins before another place
pub record IsClear (mode : Mode) (bytes : List ℕ) (from at : ℕ) : Type 0 where
  pub low : from ≤ at
  pub within : at ≤ length bytes
  pub clear : (i : ℕ) → from ≤ i → i < at → is_replaced mode (slice_index bytes i) (slice_index bytes (suc i)) ≡ false

-- the bytes from one place up to another, and what the character there is written as, if it is not the end
abbrev pub written_through : List ℕ → ℕ → ℕ → List ℕ
written_through bytes start at = take (at - start) (drop start bytes) ++ cond (nat_lt at (length bytes))
    (reference_of (slice_index bytes at)) []

-- the place after an escaped character, if it is not the end
abbrev pub place_after : List ℕ → ℕ → ℕ
place_after bytes at = cond (nat_lt at (length bytes)) (cond (nat_eq (slice_index bytes at) 0xC2) (at + 2) (at + 1)) at
