-- A table of references in a file: a line for each row. All that separates its parts is ASCII, so bytes are spoken of.
use Rattle.std.specs.Prelude.{ℕ, ◌+◌, ◌*◌, ◌==◌, ◌||◌, List, [], ◌∷◌, length, Option, Some, None, Result, Ok, Err, nat_lt}
use Rattle.std.specs.Prelude.{option_map, if◌then◌else◌}
use Rattle.std.specs.Char.{digit_value}
use Rattle.std.specs.List.{after_first, before_first, position_or_len}
use Rattle.std.specs.Str.{chars}
use Rattle.std.specs.Str.Lines.{lines}
use Rattle.html_tokens.specs.declared.table.ReferenceRow.{ReferenceRow}

abbrev pub space : ℕ
space = 0x20

-- what stands before the first such byte, and what stands after it; nothing where there is none
abbrev pub cut_at : ℕ → List ℕ → Option (List ℕ × List ℕ)
cut_at mark bytes = if nat_lt (position_or_len (λ b. b == mark) bytes) (length bytes) then Some
    (before_first (λ b. b == mark) bytes, after_first (λ b. b == mark) bytes) else None

-- the number that hexadecimal digits stand for after those of a value
abbrev pub value_after : ℕ → List ℕ → Option ℕ
value_after value [] = Some value
value_after value (b ∷ bs) = if nat_lt (digit_value b) 16 then value_after (value * 16 + digit_value b) bs else None

-- the number that one to six hexadecimal digits stand for
abbrev pub value_of : List ℕ → Option ℕ
value_of digits = if length digits == 0 || nat_lt 6 (length digits) then None else value_after 0 digits

abbrev pub two_values : Option ℕ → Option ℕ → Option (ℕ × Option ℕ)
two_values None second = None
two_values (Some first) None = None
two_values (Some first) (Some second) = Some (first, Some second)

abbrev pub values_in : List ℕ → Option (List ℕ × List ℕ) → Option (ℕ × Option ℕ)
values_in text None = option_map (λ first. (first, None)) (value_of text)
values_in text (Some parts) = two_values (value_of parts.0) (value_of parts.1)

-- one value, or two with a space between
abbrev pub values_of : List ℕ → Option (ℕ × Option ℕ)
values_of text = values_in text (cut_at space text)

abbrev pub row_in : Option (List ℕ × List ℕ) → Option ReferenceRow
row_in None = None
row_in (Some parts) = if length parts.0 == 0 then None else option_map
    (λ values. record { name = chars parts.0; first = values.0; second = values.1 }) (values_of parts.1)

-- the row of a line: of a name and its values, with a space between; nothing of another line
abbrev pub row_of : List ℕ → Option ReferenceRow
row_of line = row_in (cut_at space line)

-- a row before those after it, or else the number of the first line that is none
abbrev pub with_row : ℕ → Option ReferenceRow → Result (List ReferenceRow) ℕ → Result (List ReferenceRow) ℕ
with_row number None rows = Err number
with_row number (Some row) (Ok rows) = Ok (row ∷ rows)
with_row number (Some row) (Err bad) = Err bad

-- the rows of lines, of which the first has this number; or the number of the first that is none
abbrev pub rows_from : ℕ → List (List ℕ) → Result (List ReferenceRow) ℕ
rows_from number [] = Ok []
rows_from number (line ∷ lines) = with_row number (row_of line) (rows_from (number + 1) lines)

-- the rows of a file, or the number of its first line that is none, counted from 1. A line feed ends a line, and a carriage return
-- before it is dropped; what stands after the last line feed is a line if it is not empty.
abbrev pub rows_of : List ℕ → Result (List ReferenceRow) ℕ
rows_of bytes = rows_from 1 (lines bytes)
