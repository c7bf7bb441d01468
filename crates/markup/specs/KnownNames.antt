-- The known names, in the order of their characters.
use Rattle.std.specs.Prelude.{◌≡◌, ◌&&◌, ℕ, ◌<◌, Bool, true, List, [], ◌∷◌, map, length, slice_index_or}
use Rattle.std.specs.Cmp.Lexicographic.{slice_cmp}
use Rattle.std.specs.Ordering.{nat_cmp, is_lt}
use Rattle.markup.specs.declared.known_names.TheConstants.{NAMES}

unfoldable pub names : List (List ℕ)
names = map (λ name. name.now) NAMES

-- a text is the known name at a place
pub record IsNameAt (place : ℕ) (name : List ℕ) : Type 0 where
  pub within : place < length names
  pub there : slice_index_or names place [] ≡ name

-- each text comes before the next, from the first on
abbrev pub rises_from : List ℕ → List (List ℕ) → Bool
rises_from x [] = true
rises_from x (y ∷ ys) = is_lt (slice_cmp nat_cmp x y) && rises_from y ys

abbrev pub rises : List (List ℕ) → Bool
rises [] = true
rises (x ∷ xs) = rises_from x xs
