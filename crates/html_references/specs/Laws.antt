-- What checked tables are to the definitions of tokenizing (HTML Standard, section 13.2.5.73).
use Rattle.std.specs.Prelude.{◌≡◌, ℕ, Bool, true, nat_eq, List, [], ◌∷◌, ◌++◌, length, codes, Some, Contains}
use Rattle.std.specs.List.{ends_with}
use Rattle.html_tokens.specs.Laws.{has_values, ReadsEscapes}
use Rattle.html_tokens.specs.Reference.{reference_at}
use Rattle.html_tokens.specs.Table.{values, longest}
use Rattle.html_tokens.specs.declared.table.ReferenceRow.{ReferenceRow}
use Rattle.html_references.specs.References.{IsCheckedTable, row_of}

-- no row of a checked table stands for U+0000
abbrev pub AreValuesGiven : Type 0
AreValuesGiven = (rows : List ReferenceRow) → IsCheckedTable rows → has_values rows ≡ true

-- of a text that begins with a name of a checked table that ends in ";", that is the longest name, whatever follows
abbrev pub IsWholeNameLongest : Type 0
IsWholeNameLongest =
    (rows : List ReferenceRow) → IsCheckedTable rows
    → (row : ReferenceRow) → Contains rows row → ends_with nat_eq row.name (59 ∷ []) ≡ true
    → (t : List ℕ) → longest rows (row.name ++ t) ≡ Some row

-- such a name is read as its row's characters, in text and in an attribute's value
abbrev pub IsWholeNameRead : Type 0
IsWholeNameRead =
    (rows : List ReferenceRow) → IsCheckedTable rows
    → (row : ReferenceRow) → Contains rows row → ends_with nat_eq row.name (59 ∷ []) ≡ true
    → (in_value : Bool) (t : List ℕ) → reference_at in_value rows (row.name ++ t) ≡ Some
    (record { chars = values row; len = length row.name })

-- a table that has the names "amp;", "lt;", "gt;", "quot;" and "nbsp;" for their characters
pub record HasEscapes (rows : List ReferenceRow) : Type 0 where
  pub amp : Contains rows (row_of (codes "amp;") 0x26)
  pub lt : Contains rows (row_of (codes "lt;") 0x3C)
  pub gt : Contains rows (row_of (codes "gt;") 0x3E)
  pub quot : Contains rows (row_of (codes "quot;") 0x22)
  pub nbsp : Contains rows (row_of (codes "nbsp;") 0xA0)

-- such a table, if it is checked, reads what escaping writes
abbrev pub AreEscapesRead : Type 0
AreEscapesRead = (rows : List ReferenceRow) → IsCheckedTable rows → HasEscapes rows → ReadsEscapes rows
