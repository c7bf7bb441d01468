-- How a text is gone through, one character after the other: what the functions of `Front` keep, which callers do not see.
use Rattle.std.specs.Prelude.{◌≡◌, ◌==◌, ℕ, Bool, true, false, not, ◌&&◌, ◌||◌, nat_eq, List, [], ◌∷◌, if◌then◌else◌}
use Rattle.markup.specs.Forest.{one_more}
use Rattle.html_tokens.specs.NormalText.{without_mark}
use Rattle.html_places.specs.Places.{place_after}
use Rattle.html_places.specs.declared.place.Front.{Front}
use Rattle.html_places.specs.declared.place.Place.{Place}

-- whether a text ends with U+000D, or is empty and stands after one
abbrev pub after_return : Bool → List ℕ → Bool
after_return cr [] = cr
after_return cr (c ∷ t) = after_return (nat_eq c 13) t

abbrev pub is_filled : List ℕ → Bool
is_filled [] = false
is_filled (c ∷ t) = true

-- This front of a text was gone through.
pub record IsFront (front : List ℕ) (f : Front) : Type 0 where
  pub place : f.place ≡ place_after front
  pub has_begun : f.has_begun ≡ is_filled front
  pub is_return : f.is_return ≡ after_return false (without_mark true front)

-- whether a character stands at the place before it: the second of a line end, and a byte order mark at the front
abbrev pub stays : (begun return : Bool) → ℕ → Bool
stays begun return c = if c == 10 then return else (c == 0xFEFF && not begun)

-- the place after a character that stays there, or that ends a line or does not
abbrev pub next_place : (stays ends_line : Bool) → Place → Place
next_place true ends_line place = place
next_place false true place = record { line = one_more place.line; column = 1 }
next_place false false place = record place { column = one_more place.column }

-- how far a text was gone through after one more character
abbrev pub passed : Front → ℕ → Front
passed f c = record {
  place = next_place (stays f.has_begun f.is_return c) (c == 10 || c == 13) f.place;
  has_begun = true;
  is_return = c == 13;
}

abbrev pub passed_all : Front → List ℕ → Front
passed_all f [] = f
passed_all f (c ∷ t) = passed_all (passed f c) t
