-- The program's line on standard error.
use Rattle.std.specs.Prelude.{List, ◌++◌, ℕ, Bool, codes, if◌then◌else◌}
use Rattle.std.specs.Fmt.{decimal}
use Rattle.html_input.specs.declared.table.TableFileFault.{TableFileFault}
use Rattle.html_input.specs.declared.table.TableFileFault.TheVariants as file
use Rattle.html_tokens.specs.declared.table.TableFault.TheVariants as table
use Rattle.markup.specs.declared.quirks.QuirksMode.{QuirksMode}
use Rattle.markup.specs.declared.quirks.QuirksMode.TheVariants.{Quirks, LimitedQuirks, NoQuirks}
use Rattle.html_normal.specs.declared.fault.NormalFault.{NormalFault}
use Rattle.html_normal.specs.declared.fault.NormalFault.TheVariants.{NotUtf8, Read, Write, Memory, Refused}
use Rattle.html_normal.specs.declared.program.ProgramFault.{ProgramFault}
use Rattle.html_normal.specs.declared.program.ProgramFault.TheVariants.{Usage, Table, Normal}
use Rattle.html_normal.specs.declared.report.Report.{Report}

abbrev pub fault_line : NormalFault → List ℕ
fault_line (NotUtf8 at) = codes "fault: not UTF-8 at byte " ++ decimal at
fault_line Read = codes "fault: read"
fault_line Write = codes "fault: write"
fault_line Memory = codes "fault: memory"
fault_line Refused = codes "fault: refused"

abbrev pub plain_word : Bool → List ℕ
plain_word plain = if plain then codes "yes" else codes "no"

abbrev pub quirks_word : QuirksMode → List ℕ
quirks_word NoQuirks = codes "no"
quirks_word LimitedQuirks = codes "limited"
quirks_word Quirks = codes "yes"

abbrev pub report_line : Report → List ℕ
report_line report =
    codes "plain=" ++ plain_word report.plain ++ codes " quirks=" ++ quirks_word report.quirks ++ codes " errors=" ++ decimal report.errors

abbrev pub table_line : TableFileFault → List ℕ
table_line (file.NotUtf8 at) = codes "fault: table: not UTF-8 at byte " ++ decimal at
table_line file.Read = codes "fault: read"
table_line (file.BadLine line) = codes "fault: table: line " ++ decimal line
table_line (file.Table (table.BadName row)) = codes "fault: table: name " ++ decimal row
table_line (file.Table (table.Duplicate row)) = codes "fault: table: duplicate " ++ decimal row
table_line (file.Table (table.BadValue row)) = codes "fault: table: value " ++ decimal row
table_line (file.Table table.Memory) = codes "fault: memory"
table_line file.Memory = codes "fault: memory"

abbrev pub program_line : ProgramFault → List ℕ
program_line Usage = codes "fault: usage: html_normal [TABLE]"
program_line (Table fault) = table_line fault
program_line (Normal fault) = fault_line fault
