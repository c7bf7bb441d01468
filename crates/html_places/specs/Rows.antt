-- Worked examples: the place after a text, and the order of places.
use Rattle.std.specs.Prelude.{◌≡◌, ℕ, Bool, true, false, List, [], ◌∷◌, map, codes}
use Rattle.html_places.specs.Places.{is_before, place_after}
use Rattle.html_places.specs.declared.place.Place.{Place}

abbrev at : ℕ → ℕ → Place
at line column = record { line = line; column = column }

-- texts, and the place after each
abbrev pub place_rows : List (List ℕ × Place)
place_rows = ([], at 1 1)
    ∷ (codes "a", at 1 2)
    ∷ (codes "<p>one", at 1 7)
    ∷ (codes "a\n", at 2 1)
    ∷ (codes "a\nbc", at 2 3)
    ∷ (codes "a\r\nbc", at 2 3)
    ∷ (codes "a\rbc", at 2 3)
    ∷ (codes "a\n\rbc", at 3 3)
    ∷ (codes "a\r", at 2 1)
    ∷ (codes "\r\r\n\n", at 4 1)
    ∷ (codes "\té", at 1 3)
    ∷ (0xFEFF ∷ codes "ab", at 1 3)
    ∷ (97 ∷ 0xFEFF ∷ [], at 1 3)
    ∷ []

abbrev pub ArePlacesOfRows : Type 0
ArePlacesOfRows = map (λ (row : List ℕ × Place). place_after row.0) place_rows ≡ map (λ row. row.1) place_rows

-- two places, and whether the first is before the other
abbrev pub order_rows : List ((Place × Place) × Bool)
order_rows = ((at 1 1, at 1 2), true)
    ∷ ((at 1 9, at 2 1), true)
    ∷ ((at 2 1, at 1 9), false)
    ∷ ((at 3 4, at 3 4), false)
    ∷ []

abbrev pub AreOrdersOfRows : Type 0
AreOrdersOfRows = map (λ (row : (Place × Place) × Bool). is_before row.0.0 row.0.1) order_rows ≡ map (λ row. row.1) order_rows
