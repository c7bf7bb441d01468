-- The lines of a table's file, and their parts.
use Rattle.std.proofs.Common.{◌≡◌, ◌∙◌, ℕ, ◌+◌, ◌*◌, ◌<◌, ◌≤◌, ◌^◌, List, [], ◌∷◌, ◌++◌, length, take, drop, map, get_or, refl}
use Rattle.std.proofs.Common.{sym, ap, subst, arith, Bor, Option, Some, None, Result, Ok, Err, append-nil, append_assoc, ◌==◌}
use Rattle.std.proofs.Common.{zero, suc, add-one}
use Rattle.std.specs.Prelude.{MatchOption, option_map}
use Rattle.std.specs.Char.{digit_value}
use Rattle.std.specs.List.{after_first, before_first, position_or_len}
use Rattle.std.proofs.Math.Seq.{drop-cons}
use Rattle.std.proofs.lemmas.Bool.{le-ltb, lt-ltb}
use Rattle.std.proofs.lemmas.List.{drop_all, length-append, take-append-drop}
use Rattle.html_tokens.specs.declared.table.ReferenceRow.{ReferenceRow}
use Rattle.html_input.specs.TableFile.{cut_at, row_of, rows_from, value_after, with_row}

-- what a split at the first such byte says of the parts
pub cut_at-split : (mark : ℕ) (bs : List ℕ) (r : Option (Bor (List ℕ) × Bor (List ℕ)))
    → MatchOption r (position_or_len (λ b. b == mark) bs ≡ length bs)
    (λ x. (x.0.now ≡ before_first (λ b. b == mark) bs) × (x.1.now ≡ after_first (λ b. b == mark) bs)
    × (position_or_len (λ b. b == mark) bs < length bs))
    → option_map (λ parts. (parts.0.now, parts.1.now)) r ≡ cut_at mark bs
cut_at-split mark bs None e = rw (le-ltb (position_or_len (λ b. b == mark) bs) (length bs) (omega arith)) refl
cut_at-split mark bs (Some x) e = rw (lt-ltb (position_or_len (λ b. b == mark) bs) (length bs) e.2, e.0, e.1) refl

-- rows before what others come to
abbrev pub rows_then : List ReferenceRow → Result (List ReferenceRow) ℕ → Result (List ReferenceRow) ℕ
rows_then rows (Ok more) = Ok (rows ++ more)
rows_then rows (Err bad) = Err bad

rows_then-cons : (rows : List ReferenceRow) (number : ℕ) (row : ReferenceRow) (more : Result (List ReferenceRow) ℕ)
    → rows_then rows (with_row number (Some row) more) ≡ rows_then (rows ++ row ∷ []) more
rows_then-cons rows number row (Ok more) = ap (λ xs. Ok xs) (sym (append_assoc rows (row ∷ []) more))
rows_then-cons rows number row (Err bad) = refl

-- lines were read as rows: whatever follows them
abbrev pub AreRows : List (List ℕ) → List ReferenceRow → Type 0
AreRows done rows = (length rows ≡ length done)
    × ((more : List (List ℕ)) → rows_from 1 (done ++ more) ≡ rows_then rows (rows_from (length rows + 1) more))

rows_then-none : (more : Result (List ReferenceRow) ℕ) → more ≡ rows_then [] more
rows_then-none (Ok more) = refl
rows_then-none (Err bad) = refl

pub AreRows-none : AreRows [] []
AreRows-none = (refl, λ more. rows_then-none (rows_from 1 more))

-- one line more
pub AreRows-more : (done : List (List ℕ)) (line : List ℕ) (rows : List ReferenceRow) (row : ReferenceRow)
    → AreRows done rows → Some row ≡ row_of line → AreRows (done ++ line ∷ []) (rows ++ row ∷ [])
AreRows-more done line rows row so_far is = (
  omega (arith, so_far.0, length-append done (line ∷ []), length-append rows (row ∷ [])),
  λ more.
      let len : length (rows ++ row ∷ []) ≡ length rows + 1 = length-append rows (row ∷ []) in
      ap (rows_from 1) (append_assoc done (line ∷ []) more) ∙ so_far.1 (line ∷ more)
      ∙ ap (λ r. rows_then rows (with_row (length rows + 1) r (rows_from (length rows + 1 + 1) more))) (sym is)
      ∙ rows_then-cons rows (length rows + 1) row (rows_from (length rows + 1 + 1) more)
      ∙ ap (λ n. rows_then (rows ++ row ∷ []) (rows_from (n + 1) more)) (sym len),
)

-- all lines are rows
pub AreRows-all : (all : List (List ℕ)) (rows : List ReferenceRow) → AreRows all rows → rows_from 1 all ≡ Ok rows
AreRows-all all rows so_far = ap (rows_from 1) (sym (append-nil all)) ∙ so_far.1 [] ∙ ap (λ xs. Ok xs) (append-nil rows)

-- a line that is none
pub AreRows-bad : (all done : List (List ℕ)) (line : List ℕ) (more : List (List ℕ)) (rows : List ReferenceRow)
    → AreRows done rows → all ≡ done ++ line ∷ more → None ≡ row_of line → rows_from 1 all ≡ Err (length rows + 1)
AreRows-bad all done line more rows so_far split is =
    ap (rows_from 1) split ∙ so_far.1 (line ∷ more)
    ∙ ap (λ r. rows_then rows (with_row (length rows + 1) r (rows_from (length rows + 1 + 1) more))) (sym is)

abbrev pub shown : List (Bor (List ℕ)) → List (List ℕ)
shown xs = map (λ x. x.now) xs

-- the lines of which so many were yielded, and one more
pub split-next : (all : List (List ℕ)) (xs : List (Bor (List ℕ))) (x : Bor (List ℕ))
    → shown xs ≡ take (length xs) all → (length xs < length all) × (x.now ≡ get_or all (length xs) x.now)
    → all ≡ shown xs ++ x.now ∷ drop (suc (length xs)) all
split-next all xs x so_far next =
    sym (take-append-drop (length xs) all) ∙ ap (λ ls. ls ++ drop (length xs) all) (sym so_far)
    ∙ ap (λ ls. shown xs ++ ls) (drop-cons all (length xs) x.now next.0 ∙ ap (λ l. l ∷ drop (suc (length xs)) all) (sym next.1))

shown-more : (xs : List (Bor (List ℕ))) (x : Bor (List ℕ)) → shown (xs ++ x ∷ []) ≡ shown xs ++ x.now ∷ []
shown-more [] x = refl
shown-more (y ∷ xs) x = ap (λ ls. y.now ∷ ls) (shown-more xs x)

-- one line more was read as a row
pub AreRows-next : (xs : List (Bor (List ℕ))) (x : Bor (List ℕ)) (rows new : List ReferenceRow) (row : ReferenceRow)
    → AreRows (shown xs) rows → Some row ≡ row_of x.now → new ≡ rows ++ row ∷ [] → AreRows (shown (xs ++ x ∷ [])) new
AreRows-next xs x rows new row so_far is pushed =
    let P : List (List ℕ) → Type 0 = λ ls. AreRows ls new in
    let Q : List ReferenceRow → Type 0 = λ rs. AreRows (shown xs ++ x.now ∷ []) rs in
    subst P (sym (shown-more xs x)) (subst Q (sym pushed) (AreRows-more (shown xs) x.now rows row so_far is))

-- five digits are less than a million and some
pub small : (i value : ℕ) → i < 6 → value < 16 ^ i → value < 0x10_0000
small zero value within below = omega arith
small (suc zero) value within below = omega arith
small (suc (suc zero)) value within below = omega arith
small (suc (suc (suc zero))) value within below = omega arith
small (suc (suc (suc (suc zero)))) value within below = omega arith
small (suc (suc (suc (suc (suc zero))))) value within below = omega arith
small (suc (suc (suc (suc (suc (suc i)))))) value within below = absurd (omega arith)

-- after a byte that is no digit no value is read
pub value-none : (digits : List ℕ) (i value byte : ℕ) (of : Option ℕ) → i < length digits → byte ≡ get_or digits i 0
    → (digit_value byte < 16 → ⊥) → of ≡ value_after value (drop i digits) → None ≡ of
value-none digits i value byte of within read no_digit so_far =
    sym (so_far ∙ rw (drop-cons digits i 0 within, ← read, le-ltb (digit_value byte) 16 (omega arith)) refl)

-- one digit more of a value
pub value-more : (digits : List ℕ) (i value byte digit : ℕ) (of : Option ℕ) → i < length digits
    → byte ≡ get_or digits i 0 → (digit_value byte < 16) × (digit ≡ digit_value byte) → of ≡ value_after value (drop i digits)
    → of ≡ value_after (value * 16 + digit) (drop (i + 1) digits)
value-more digits i value byte digit of within read is so_far =
    so_far ∙ rw (drop-cons digits i 0 within, ← read, lt-ltb (digit_value byte) 16 is.0, is.1, add-one) refl

-- a value of one digit more is below the next power
pub small-more : (i value byte digit : ℕ) → value < 16 ^ i → (digit_value byte < 16) × (digit ≡ digit_value byte)
    → value * 16 + digit < 16 ^ (i + 1)
small-more i value byte digit below is = rw add-one (omega (arith, is.0, is.1))

-- after the last digit the value is whole
pub value-whole : (digits : List ℕ) (i value : ℕ) (of : Option ℕ) → length digits ≤ i → of ≡ value_after value
    (drop i digits) → Some value ≡ of
value-whole digits i value of all so_far = sym (so_far ∙ ap (value_after value) (drop_all i digits all))
