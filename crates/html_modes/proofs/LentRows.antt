-- Rows that are lent from a table, or from a part of one.
use Rattle.std.proofs.Common.{◌≡◌, ◌∙◌, ℕ, zero, suc, ◌+◌, ◌<◌, List, [], ◌∷◌, Option, Some, None, length, take, drop, refl, sym, ap, arith}
use Rattle.std.specs.Prelude.{slice_get, option_map}
use Rattle.std.specs.Slice.{IsItemAt}
use Rattle.std.proofs.lemmas.List.{length-map}
use Rattle.std.proofs.lemmas.Option.{slice_get-map, slice_get_past, slice_get_read}
use denote.Bor.{Bor}
use Rattle.html_rules.specs.Table as rules
use Rattle.html_modes.specs.Tables.{row_lent, row_of, rows_of}
use Rattle.html_modes.specs.declared.table.Row.{Row}

lent : (xs : List Row) (place : ℕ) (found : Option (Bor Row)) → IsItemAt xs place found → row_lent found ≡ slice_get (rows_of xs) place
lent xs place None h = sym (slice_get_past (rows_of xs) place (rw length-map h.3))
lent xs place (Some row) h =
    sym (slice_get-map row_of xs place ∙ ap (option_map row_of) (slice_get_read xs (length xs) place row.now refl h.3.0 h.1))

-- a row of a table that stands for the rules' rows
pub got : (xs : List Row) (rows : List rules.Row) (place : ℕ) (found : Option (Bor Row)) → IsItemAt xs place found
    → rows_of xs ≡ rows → row_lent found ≡ slice_get rows place
got xs rows place found h same = lent xs place found h ∙ ap (λ list. slice_get list place) same

pub get-take : {X : Type 0} → (n : ℕ) (xs : List X) (i : ℕ) → i < n → slice_get (take n xs) i ≡ slice_get xs i
get-take zero xs i l = absurd (omega arith)
get-take (suc n) [] i l = refl
get-take (suc n) (x ∷ xs) zero l = refl
get-take (suc n) (x ∷ xs) (suc i) l = get-take n xs i (omega arith)

pub get-drop : {X : Type 0} → (k : ℕ) (xs : List X) (i j : ℕ) → k + i ≡ j → slice_get (drop k xs) i ≡ slice_get xs j
get-drop zero xs i j e = ap (slice_get xs) (omega (arith, e))
get-drop (suc k) [] i j e = refl
get-drop (suc k) (x ∷ xs) i zero e = absurd (omega arith)
get-drop (suc k) (x ∷ xs) i (suc j) e = get-drop k xs i j (omega arith)

-- the same within a part
pub get-part : {X : Type 0} → (n k : ℕ) (xs : List X) (i j : ℕ) → i < n → k + i ≡ j → slice_get (take n (drop k xs)) i ≡ slice_get xs j
get-part n k xs i j l e = get-take n (drop k xs) i l ∙ get-drop k xs i j e
