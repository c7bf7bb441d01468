-- Tables of named character references, and the longest name that a text begins with (HTML Standard, sections 13.2.5.73 and 13.5).
use Rattle.std.specs.Prelude.{ℕ, nat_eq, nat_le, nat_lt, Bool, true, false, ◌&&◌, List, [], ◌∷◌, length, Option, Some, None, if◌then◌else◌}
use Rattle.std.specs.List.{list_any, starts_with}
use Rattle.html_tokens.specs.declared.table.ReferenceRow.{ReferenceRow}
use Rattle.html_tokens.specs.Characters.{begins}

-- a name without its "&", and the one or two characters that it stands for
abbrev pub Row : Type 0
Row = ReferenceRow

abbrev pub values_of : ℕ → Option ℕ → List ℕ
values_of first None = first ∷ []
values_of first (Some second) = first ∷ second ∷ []

-- the characters of a row
abbrev pub values : Row → List ℕ
values row = values_of row.first row.second

-- the row with the longer name, the first one where both are as long
abbrev pub longer_of : Option Row → Option Row → Option Row
longer_of None other = other
longer_of (Some row) None = Some row
longer_of (Some row) (Some other) = if nat_le (length other.name) (length row.name) then Some row else Some other

abbrev pub fitting : Bool → Row → Option Row
fitting true row = Some row
fitting false row = None

-- of the rows whose name the text begins with, the one with the longest name
abbrev pub longest : List Row → List ℕ → Option Row
longest [] t = None
longest (row ∷ rows) t = longer_of (fitting (begins row.name t) row) (longest rows t)

-- whether a name goes on after what is held
abbrev pub goes_on_after : List ℕ → List ℕ → Bool
goes_on_after held name = starts_with nat_eq name held && nat_lt (length held) (length name)

-- whether some name of the table goes on after what is held
abbrev pub goes_on : List Row → List ℕ → Bool
goes_on rows held = list_any (λ row. goes_on_after held row.name) rows
