-- The first row that fits, found row by row.
use Rattle.std.proofs.Common.{◌≡◌, ◌∙◌, ◌<◌, ◌≤◌, ℕ, true, false, List, ◌++◌, length, drop, get_or, refl, drop-cons, add-one, ◌+◌}
use Rattle.std.proofs.lemmas.List.{drop_all}
use Rattle.html_tokens.specs.declared.token.Token.{Token}
use Rattle.html_rules.specs.Choice.{choose}
use Rattle.html_rules.specs.Rules.{first_fit, fits}
use Rattle.html_rules.specs.State.{State}
use Rattle.html_rules.specs.Table as rules
use Rattle.html_modes.specs.Tables.{row_of, rows_of}
use Rattle.html_modes.specs.declared.table.Row.{Row}

-- a search from the front has come so far: none of the rows before fits
pub record IsPassed (xs : List Row) (i : ℕ) (t : Token) (s : State) : Type 0 where
  pub same : (rest : List rules.Row) → first_fit (rows_of xs ++ rest) t s ≡ first_fit (rows_of (drop i xs) ++ rest) t s

pub IsPassed-start : (xs : List Row) (t : Token) (s : State) → IsPassed xs 0 t s
IsPassed-start xs t s = record { same = λ rest. refl }

-- the row at hand, then those after it
at-hand : (xs : List Row) (i : ℕ) (d : Row) (t : Token) (s : State) (rest : List rules.Row) → i < length xs
    → first_fit (rows_of (drop i xs) ++ rest) t s ≡ choose (fits (row_of (get_or xs i d)) t s)
    (λ _. row_of (get_or xs i d)) (λ _. first_fit (rows_of (drop (i + 1) xs) ++ rest) t s)
at-hand xs i d t s rest l = rw (add-one, drop-cons xs i d l) refl

-- it fits
pub found-at : (xs : List Row) (i : ℕ) (d : Row) (t : Token) (s : State) (rest : List rules.Row) → IsPassed xs i t s
    → i < length xs → true ≡ fits (row_of (get_or xs i d)) t s → first_fit (rows_of xs ++ rest) t s ≡ row_of (get_or xs i d)
found-at xs i d t s rest passed l fit = passed.same rest ∙ at-hand xs i d t s rest l ∙ rw (← fit) refl

-- it does not
pub passed-on : (xs : List Row) (i : ℕ) (d : Row) (t : Token) (s : State) → IsPassed xs i t s → i < length xs
    → false ≡ fits (row_of (get_or xs i d)) t s → IsPassed xs (i + 1) t s
passed-on xs i d t s passed l other = record { same = λ rest. passed.same rest ∙ at-hand xs i d t s rest l ∙ rw (← other) refl }

-- none is left
pub none-left : (xs : List Row) (i : ℕ) (t : Token) (s : State) (rest : List rules.Row) → IsPassed xs i t s
    → length xs ≤ i → first_fit (rows_of xs ++ rest) t s ≡ first_fit rest t s
none-left xs i t s rest passed all = passed.same rest ∙ rw (drop_all i xs all) refl
