-- Tables of named character references, and what they say of a text (HTML Standard, sections 13.2.5.73 and 13.5).
use Rattle.std.specs.Prelude.{◌≡◌, ◌≢◌, ◌+◌, ◌-◌, ◌≤◌, ◌==◌, ℕ, Bool, true, false, not, ◌&&◌, ◌||◌, nat_eq, nat_lt, List, []}
use Rattle.std.specs.Prelude.{◌∷◌, ◌++◌, length, take, Option, Some, None, if◌then◌else◌, codes, IsTrue, All, AllPairs}
use Rattle.std.specs.Prelude.{Contains}
use Rattle.std.specs.Char.{is_ascii_alphanumeric}
use Rattle.std.specs.List.{list_all, list_any, starts_with, ends_with}
use Rattle.std.specs.Option.{option_map_or, option_or}
use Rattle.std.specs.Str.{bytes_eq}
use Rattle.html_tokens.specs.declared.table.ReferenceRow.{ReferenceRow}
use Rattle.html_tokens.specs.declared.table.TableFault.{TableFault}
use Rattle.html_tokens.specs.declared.table.TableFault.TheVariants.{BadName, Duplicate, BadValue}
pub use Rattle.html_tokens.specs.Table.{goes_on, goes_on_after, longer_of, longest}

-- a name without the ";" at its end
abbrev pub stem : List ℕ → List ℕ
stem name = if ends_with nat_eq name (59 ∷ []) then take (length name - 1) name else name

-- letters and digits, one at least, and ";" or nothing after them
abbrev pub is_reference_name : List ℕ → Bool
is_reference_name name = not (length (stem name) == 0) && list_all is_ascii_alphanumeric (stem name)

-- the number of a character, not 0
abbrev pub is_reference_value : ℕ → Bool
is_reference_value value = nat_lt 0 value && (nat_lt value 0xD800 || (nat_lt 0xDFFF value && nat_lt value 0x11_0000))

abbrev pub has_values : ReferenceRow → Bool
has_values row = is_reference_value row.first && option_map_or is_reference_value row.second true

-- whether a row has this name
abbrev pub is_named : List ReferenceRow → List ℕ → Bool
is_named rows name = list_any (λ row. bytes_eq row.name name) rows

-- whether some name of the table begins with a text, be it all of the name
abbrev pub is_front : List ReferenceRow → List ℕ → Bool
is_front rows text = list_any (λ row. starts_with nat_eq row.name text) rows

-- what is wrong with a row that stands after earlier ones, by its number, counted from 1
abbrev pub fault_after : List ReferenceRow → ReferenceRow → Option TableFault
fault_after earlier row =
    if not (is_reference_name row.name) then Some (BadName (length earlier + 1))
    else if not (has_values row) then Some (BadValue (length earlier + 1))
    else if is_named earlier row.name then Some (Duplicate (length earlier + 1)) else None

-- the fault of the first faulty row of those that stand after earlier ones
abbrev pub first_fault : List ReferenceRow → List ReferenceRow → Option TableFault
first_fault earlier [] = None
first_fault earlier (row ∷ rows) = option_or (fault_after earlier row) (first_fault (earlier ++ row ∷ []) rows)

-- the fault of the first faulty row of a table
abbrev pub fault_of : List ReferenceRow → Option TableFault
fault_of rows = first_fault [] rows

-- the row of a name that stands for one character
abbrev pub row_of : List ℕ → ℕ → ReferenceRow
row_of name value = record { name = name; first = value; second = None }

-- the five names that a written text needs
abbrev pub five_rows : List ReferenceRow
five_rows =
    row_of (codes "amp;") 0x26 ∷ row_of (codes "lt;") 0x3C ∷ row_of (codes "gt;") 0x3E
    ∷ row_of (codes "quot;") 0x22 ∷ row_of (codes "nbsp;") 0xA0 ∷ []

-- a table in which no row is faulty
pub record IsCheckedTable (rows : List ReferenceRow) : Type 0 where
  pub names : All (λ row. IsTrue (is_reference_name row.name)) rows
  pub values : All (λ row. IsTrue (has_values row)) rows
  pub distinct : AllPairs (λ row other. row.name ≢ other.name) rows

-- the rows before some row are a checked table, and that row is faulty so
pub record IsFirstFault (rows : List ReferenceRow) (fault : TableFault) : Type 0 where
  pub earlier : List ReferenceRow
  pub row : ReferenceRow
  pub later : List ReferenceRow
  pub split : rows ≡ earlier ++ row ∷ later
  pub checked : IsCheckedTable earlier
  pub faulty : fault_after earlier row ≡ Some fault

-- the text begins with the name of this row of the table, and with no longer one
pub record IsLongestMatch (rows : List ReferenceRow) (text : List ℕ) (row : ReferenceRow) : Type 0 where
  pub among : Contains rows row
  pub fits : IsTrue (starts_with nat_eq text row.name)
  pub longest : All (λ other. IsTrue (starts_with nat_eq text other.name) → length other.name ≤ length row.name) rows

-- what a text begins with: no name of the table, or this row's and no longer one
abbrev pub MatchesLongest : List ReferenceRow → List ℕ → Option ReferenceRow → Type 0
MatchesLongest rows text None = All (λ row. starts_with nat_eq text row.name ≡ false) rows
MatchesLongest rows text (Some row) = IsLongestMatch rows text row
