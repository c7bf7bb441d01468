-- Each known name with its letters lowered is a known name.
use Rattle.std.proofs.Common.{◌≡◌, ℕ, zero, suc, ◌<◌, Bool, true, false, List, [], ◌∷◌, ◌&&◌, length, get_or, map, refl, arith}
use Rattle.std.specs.Prelude.{nat_lt}
use Rattle.std.specs.Char.{to_ascii_lowercase}
use Rattle.std.specs.Str.{bytes_eq}
use Rattle.std.proofs.lemmas.Bool.{and_parts, ltb-true}
use Rattle.std.proofs.lemmas.Slice.Eq.{bytes_eq-Decides}
use Rattle.markup.specs.KnownNames.{IsNameAt, names}
use Rattle.markup.specs.declared.known_slots.TheConstants.{LOWERED}

-- a place is in the table, and has the name with its letters lowered
abbrev is_lowered : ℕ → List ℕ → Bool
is_lowered place name = nat_lt place 626 && bytes_eq (get_or names place []) (map to_ascii_lowercase name)

-- so is each place of a list, of the names of another
abbrev are_lowered : List ℕ → List (List ℕ) → Bool
are_lowered places [] = true
are_lowered [] (name ∷ rest) = false
are_lowered (place ∷ places) (name ∷ rest) = is_lowered place name && are_lowered places rest

pub names-count : length names ≡ 626
unfolding names
names-count = refl

names-lowered : are_lowered LOWERED names ≡ true
unfolding names
names-lowered = refl

lowered-at : (places : List ℕ) (texts : List (List ℕ)) → are_lowered places texts ≡ true → (k d : ℕ)
    → k < length texts → is_lowered (get_or places k d) (get_or texts k []) ≡ true
lowered-at places [] h k d l = absurd (omega arith)
lowered-at [] (text ∷ texts) h k d l = absurd cc
lowered-at (place ∷ places) (text ∷ texts) h zero d l = (and_parts _ _ h).0
lowered-at (place ∷ places) (text ∷ texts) h (suc k) d l = lowered-at places texts (and_parts _ _ h).1 k d (omega arith)

-- what the table says of a known name
pub lowered : (k d : ℕ) (name : List ℕ) → IsNameAt k name → IsNameAt (get_or LOWERED k d) (map to_ascii_lowercase name)
lowered k d name at =
    let parts = and_parts _ _ (lowered-at LOWERED names names-lowered k d at.within) in
    record {
      within = rw names-count (ltb-true _ _ parts.0);
      there = rw (← at.there) ((bytes_eq-Decides _ _).0 parts.1);
    }
