-- What reading a table of references from a file tells.
use Rattle.std.specs.Prelude.{◌≡◌, ◌≢◌, ℕ, Bool, true, false, List, [], IsUtf8, Option, Some, Result, Ok, Err}
use Rattle.html_references.specs.References.{IsCheckedTable, IsFirstFault}
use Rattle.html_tokens.specs.declared.table.ReferenceRow.{ReferenceRow}
use Rattle.html_tokens.specs.declared.table.TableFault.{TableFault}
use Rattle.html_tokens.specs.declared.table.TableFault.TheVariants as table
use Rattle.html_input.specs.Reading.{HasBegun, ShowsNotUtf8}
use Rattle.html_input.specs.TableFile.{rows_of}
use Rattle.html_input.specs.declared.fault.TextFault.{TextFault}
use Rattle.html_input.specs.declared.fault.TextFault.TheVariants as text
use Rattle.html_input.specs.declared.table.TableFileFault.{TableFileFault}
use Rattle.html_input.specs.declared.table.TableFileFault.TheVariants.{NotUtf8, Read, BadLine, Table, Memory}

-- A file is UTF-8 and was read to its end, its lines have these rows, and they are a checked table.
pub record IsTableFile (whole : List ℕ) (left : Option (List ℕ)) (rows : List ReferenceRow) : Type 0 where
  pub text : IsUtf8 whole
  pub taken : left ≡ Some []
  pub lines : rows_of whole ≡ Ok rows
  pub checked : IsCheckedTable rows

-- A file is UTF-8, and the first of its lines that is no row has this number.
pub record HasBadLine (whole : List ℕ) (number : ℕ) : Type 0 where
  pub text : IsUtf8 whole
  pub bad : rows_of whole ≡ Err number

-- A file is UTF-8, each of its lines is a row, and this is wrong with the first row that is wrong.
pub record HasBadRow (whole : List ℕ) (fault : TableFault) : Type 0 where
  pub text : IsUtf8 whole
  pub rows : List ReferenceRow
  pub lines : rows_of whole ≡ Ok rows
  pub first : IsFirstFault rows fault

-- What a fault says of the bytes of a file that were left before and are left after its reading.
abbrev pub IsTableFault : (old new : Option (List ℕ)) → TableFileFault → Type 0
IsTableFault old new (NotUtf8 at) = (whole left : List ℕ) → old ≡ Some whole → new ≡ Some left → ShowsNotUtf8 whole left at
IsTableFault old new Read = (whole left : List ℕ) → old ≡ Some whole → new ≡ Some left → HasBegun whole left
IsTableFault old new (BadLine number) = (whole : List ℕ) → old ≡ Some whole → HasBadLine whole number
IsTableFault old new (Table fault) = (fault ≢ table.Memory) × ((whole : List ℕ) → old ≡ Some whole → HasBadRow whole fault)
IsTableFault old new Memory = Unit {0}

-- Whether a reading failed at the device.
abbrev pub is_table_read_fault : {T : Type 0} → Result T TableFileFault → Bool
is_table_read_fault (Err Read) = true
is_table_read_fault result = false

abbrev pub table_fault_of : TextFault → TableFileFault
table_fault_of (text.NotUtf8 at) = NotUtf8 at
table_fault_of text.Read = Read
table_fault_of text.Memory = Memory

-- a fault of lines: the number of the first that is no row, or want of memory
abbrev pub IsLineFault : List ℕ → TableFileFault → Type 0
IsLineFault bytes (NotUtf8 at) = ⊥
IsLineFault bytes Read = ⊥
IsLineFault bytes (BadLine number) = rows_of bytes ≡ Err number
IsLineFault bytes (Table fault) = ⊥
IsLineFault bytes Memory = Unit {0}

-- what is told of rows that are no table
abbrev pub row_fault_of : TableFault → TableFileFault
row_fault_of table.Memory = Memory
row_fault_of (table.BadName row) = Table (table.BadName row)
row_fault_of (table.Duplicate row) = Table (table.Duplicate row)
row_fault_of (table.BadValue row) = Table (table.BadValue row)
