-- Places in a text by line and column (HTML Standard, section 13.2.3.5).
use Rattle.std.specs.Prelude.{◌≡◌, ◌==◌, ◌+◌, ◌-◌, ◌<◌, ◌++◌, ℕ, Bool, true, false, not, ◌&&◌, ◌||◌, nat_eq, nat_lt, List}
use Rattle.std.specs.Prelude.{All, count_by, get_or, length, min}
use Rattle.std.specs.List.{suffix_len}
use Rattle.std.specs.List.Sorted.{IsSortedBy}
use Rattle.html_tokens.specs.NormalText.{normal_text}
use Rattle.html_places.specs.declared.place.Place.{Place}

-- the number of what comes after so many, up to the greatest number
abbrev pub number_after : ℕ → ℕ
number_after count = min (count + 1) 0xffff_ffff_ffff_ffff

-- the place at the end of a text whose line ends are normalised
abbrev pub place_at_end : List ℕ → Place
place_at_end text = record {
  line = number_after (count_by (λ c. c == 10) text);
  column = number_after (suffix_len (λ c. not (c == 10)) text);
}

-- the place after the front of a text
abbrev pub place_after : List ℕ → Place
place_after front = place_at_end (normal_text true front)

-- A text has a place.
pub record IsPlaceIn (text : List ℕ) (place : Place) : Type 0 where
  pub front : List ℕ
  pub behind : List ℕ
  pub whole : front ++ behind ≡ text
  pub is : place ≡ place_after front

abbrev pub is_before : Place → Place → Bool
is_before a b = nat_lt a.line b.line || (nat_eq a.line b.line && nat_lt a.column b.column)

-- Places of a text, of which none is before an earlier one.
pub record ArePlaces (text : List ℕ) (places : List Place) : Type 0 where
  pub each : All (IsPlaceIn text) places
  pub in_order : IsSortedBy is_before places

-- A place is not before the last of some.
abbrev pub IsNotBefore : List Place → Place → Type 0
IsNotBefore places place = (last : Place) → 0 < length places → is_before place (get_or places (length places - 1) last) ≡ false
