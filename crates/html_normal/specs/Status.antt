-- The statuses with which the program ends.
use Rattle.std.specs.Prelude.{ℕ}
use Rattle.html_input.specs.declared.table.TableFileFault.{TableFileFault}
use Rattle.html_input.specs.declared.table.TableFileFault.TheVariants as file
use Rattle.html_tokens.specs.declared.table.TableFault.TheVariants as table
use Rattle.html_normal.specs.declared.fault.NormalFault.{NormalFault}
use Rattle.html_normal.specs.declared.fault.NormalFault.TheVariants.{NotUtf8, Read, Write, Memory, Refused}
use Rattle.html_normal.specs.declared.program.ProgramFault.{ProgramFault}
use Rattle.html_normal.specs.declared.program.ProgramFault.TheVariants.{Usage, Table, Normal}

-- 1 for the input, 3 for a device, 4 for memory, 5 for a refused token
abbrev pub status_of : NormalFault → ℕ
status_of (NotUtf8 at) = 1
status_of Read = 3
status_of Write = 3
status_of Memory = 4
status_of Refused = 5

-- the same of a table's file, and 2 for what stands in it
abbrev pub table_status_of : TableFileFault → ℕ
table_status_of (file.NotUtf8 at) = 2
table_status_of file.Read = 3
table_status_of (file.BadLine line) = 2
table_status_of (file.Table (table.BadName row)) = 2
table_status_of (file.Table (table.Duplicate row)) = 2
table_status_of (file.Table (table.BadValue row)) = 2
table_status_of (file.Table table.Memory) = 4
table_status_of file.Memory = 4

-- 2 for the words
abbrev pub program_status_of : ProgramFault → ℕ
program_status_of Usage = 2
program_status_of (Table fault) = table_status_of fault
program_status_of (Normal fault) = status_of fault
