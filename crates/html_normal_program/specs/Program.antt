-- What the program does: what it writes to standard output, what to standard error, and its status.
use Rattle.std.specs.Prelude.{◌≡◌, ◌⊎◌, ℕ, ◌≤◌, List, [], ◌∷◌, ◌++◌, length, Option, Some, None, Result, Ok, Err}
use Rattle.html_input.specs.TableFault.{IsTableFault, IsTableFile}
use Rattle.html_input.specs.declared.table.TableFileFault.{TableFileFault}
use Rattle.html_input.specs.declared.table.TableFileFault.TheVariants as file
use Rattle.html_references.specs.References.{five_rows}
use Rattle.html_tokens.specs.Table.{Row}
use Rattle.html_normal.specs.Lines.{program_line, report_line}
use Rattle.html_normal.specs.Normal.{IsFailed, IsNormalised}
use Rattle.html_normal.specs.Status.{program_status_of}
use Rattle.html_normal.specs.declared.fault.NormalFault.TheVariants.{Memory}
use Rattle.html_normal.specs.declared.program.ProgramFault.{ProgramFault}
use Rattle.html_normal.specs.declared.program.ProgramFault.TheVariants.{Usage, Table, Normal}
use Rattle.html_normal.specs.declared.report.Report.{Report}
use Rattle.std.specs.Borrow.{Bor}
use Rattle.std.specs.Prelude.{false}

-- By a file's name: nothing where its bytes are not stated; else the bytes, if there is such a file.
abbrev pub Files : Type 0
Files = List ℕ → Option (Option (List ℕ))

-- THE TABLE OF REFERENCES

-- the table in a file: where its bytes are stated, there is such a file, and the table is that of its lines
abbrev pub IsTableIn : Option (Option (List ℕ)) → List Row → Type 0
IsTableIn None table = Unit {0}
IsTableIn (Some None) table = ⊥
IsTableIn (Some (Some bytes)) table = IsTableFile bytes (Some []) table

-- the table by the words after the program's name: with no word the five names that a written text needs, with one that of the file
abbrev pub IsTable : Files → List (List ℕ) → List Row → Type 0
IsTable files [] table = table ≡ five_rows
IsTable files (name ∷ []) table = IsTableIn (files name) table
IsTable files (name ∷ other ∷ names) table = ⊥

-- the words that name a file, if one is named
abbrev pub named : Option (Bor (List ℕ)) → List (List ℕ)
named None = []
named (Some name) = name.now ∷ []

-- why a file has no table: there is none, or what reading it tells
abbrev pub IsNoTableIn : Option (Option (List ℕ)) → TableFileFault → Type 0
IsNoTableIn None fault = Unit {0}
IsNoTableIn (Some None) fault = fault ≡ file.Read
IsNoTableIn (Some (Some bytes)) fault = (left : Option (List ℕ)) × IsTableFault (Some bytes) left fault

abbrev pub IsNoTable : Files → List (List ℕ) → TableFileFault → Type 0
IsNoTable files (name ∷ []) fault = IsNoTableIn (files name) fault
IsNoTable files names fault = ⊥

-- why there is no table to read the input with
abbrev pub HasNoTable : Files → List (List ℕ) → ProgramFault → Type 0
HasNoTable files words Usage = 2 ≤ length words
HasNoTable files words (Table fault) = IsNoTable files words fault
HasNoTable files words (Normal fault) = fault ≡ Memory

-- THE OUTCOME

-- of a table that the words name
pub record With (files : Files) (words : List (List ℕ)) (P : List Row → Type 0) : Type 0 where
  pub table : List Row
  pub named : IsTable files words table
  pub holds : P table

-- the input was not normalised
abbrev pub IsEnded : List Row → (left left' old new : Option (List ℕ)) → ProgramFault → Type 0
IsEnded table left left' old new (Normal fault) = IsFailed table left left' old new fault
IsEnded table left left' old new fault = ⊥

-- The outcome of the program, by the files and the arguments, the bytes of standard input that are left before and after it, and the bytes
-- that were written to standard output before and after it.
abbrev pub IsOutcome : Files → List (List ℕ) → (left left' old new : Option (List ℕ)) → Result Report ProgramFault → Type 0
IsOutcome files words left left' old new (Ok report) =
    With files words (λ table. (whole : List ℕ) → left ≡ Some whole → IsNormalised table false whole left' old new report)
IsOutcome files words left left' old new (Err fault) = (HasNoTable files words fault × ((left' ≡ left) × (new ≡ old)))
    ⊎ With files words (λ table. IsEnded table left left' old new fault)

abbrev pub words_of : Result Report ProgramFault → List ℕ
words_of (Ok report) = report_line report
words_of (Err fault) = program_line fault

-- the line on standard error
abbrev pub line_of : Result Report ProgramFault → List ℕ
line_of outcome = words_of outcome ++ 10 ∷ []

abbrev pub status_of_outcome : Result Report ProgramFault → ℕ
status_of_outcome (Ok report) = 0
status_of_outcome (Err fault) = program_status_of fault
