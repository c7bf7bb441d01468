-- The code points of a text (CSS Syntax Level 3, sections 3.3, 4.2 and 4.3.8 to 4.3.10).
-- What stands behind the end of a text is 0, which no text has once it is preprocessed.
use Rattle.std.specs.Prelude.{ℕ, Bool, false, cond, not, ◌&&◌, ◌||◌, ◌==◌, ◌-◌, List, [], ◌∷◌, slice_index, nat_le, suc}
use Rattle.std.specs.Char.{is_ascii_alphabetic, is_ascii_digit}

-- "preprocessing the input stream" (section 3.3): CR LF, CR and FF are a line feed each, and U+0000 is U+FFFD
abbrev pub filtered : ℕ → ℕ
filtered c = cond ((c == 12) || (c == 13)) 10 (cond (c == 0) 65533 c)

-- the rest of a text, after a CR or not
abbrev pub preprocessed_after : Bool → List ℕ → List ℕ
preprocessed_after cr [] = []
preprocessed_after cr (c ∷ rest) =
    cond (cr && (c == 10)) (preprocessed_after false rest) (filtered c ∷ preprocessed_after (c == 13) rest)

unfoldable pub preprocessed : List ℕ → List ℕ
preprocessed text = preprocessed_after false text

-- how many characters of a text stand before the one that is at a place of the preprocessed text
abbrev pub place_after : Bool → ℕ → List ℕ → ℕ
place_after cr at [] = 0
place_after cr at (c ∷ rest) =
    cond (cr && (c == 10)) (suc (place_after false at rest)) (cond (at == 0) 0 (suc (place_after (c == 13) (at - 1) rest)))

unfoldable pub place_of : ℕ → List ℕ → ℕ
place_of at text = place_after false at text

-- whitespace, and what names have (section 4.2)
abbrev pub is_whitespace : ℕ → Bool
is_whitespace c = ((c == 10) || (c == 9)) || (c == 32)

abbrev pub begins_name : ℕ → Bool
begins_name c = (is_ascii_alphabetic c || nat_le 128 c) || (c == 95)

abbrev pub is_in_name : ℕ → Bool
is_in_name c = (begins_name c || is_ascii_digit c) || (c == 45)

-- "two code points are a valid escape" (section 4.3.8)
abbrev pub is_escape : ℕ → ℕ → Bool
is_escape a b = (a == 92) && not (b == 10)

-- "three code points would start an ident sequence" (section 4.3.9)
abbrev pub starts_name : ℕ → ℕ → ℕ → Bool
starts_name a b c = cond (a == 45) ((begins_name b || (b == 45)) || is_escape b c) (begins_name a || is_escape a b)

-- "three code points would start a number" (section 4.3.10)
abbrev pub starts_number : ℕ → ℕ → ℕ → Bool
starts_number a b c =
    cond ((a == 43) || (a == 45)) (is_ascii_digit b || ((b == 46) && is_ascii_digit c))
    (cond (a == 46) (is_ascii_digit b) (is_ascii_digit a))

-- the same of what stands in front
unfoldable pub at_escape : List ℕ → Bool
at_escape chars = is_escape (slice_index chars 0) (slice_index chars 1)

unfoldable pub at_name : List ℕ → Bool
at_name chars = starts_name (slice_index chars 0) (slice_index chars 1) (slice_index chars 2)

unfoldable pub at_number : List ℕ → Bool
at_number chars = starts_number (slice_index chars 0) (slice_index chars 1) (slice_index chars 2)
