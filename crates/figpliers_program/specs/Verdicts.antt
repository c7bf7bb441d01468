-- The verdict of each page, how an error is reported, and the exit status.
use Rattle.std.specs.Prelude.{◌≡◌, ◌++◌, ◌∷◌, ℕ, Bool, List, [], codes, if◌then◌else◌, nat_lt}
use Rattle.std.specs.Fmt.{decimal}
use Rattle.html_normal_program.specs.Streams.{IsPut}
use Rattle.std.specs.Prelude.{Option}
use Rattle.figpliers_program.specs.declared.faults.PageFault.{PageFault}
use Rattle.figpliers_program.specs.declared.faults.PageFault.TheVariants.{Memory, NotUtf8, Open, Read, Write}
use Rattle.figpliers_program.specs.declared.faults.Verdict.{Verdict}
use Rattle.figpliers_program.specs.declared.faults.Verdict.TheVariants.{Errors, Fault, Fine, Nothing, Unwritten}
use Rattle.figpliers_program.specs.declared.faults.Why.{Why}
use Rattle.figpliers_program.specs.declared.faults.Why.TheVariants.{Directory, Forbidden, Missing, Other}

-- VERDICTS

abbrev pub status_of : Verdict → ℕ
status_of Fine = 0
status_of Nothing = 1
status_of Errors = 1
status_of Fault = 2
status_of Unwritten = 2

-- how much a verdict matters beside others
abbrev pub weight : Verdict → ℕ
weight Nothing = 0
weight Fine = 1
weight Errors = 2
weight Fault = 3
weight Unwritten = 4

-- of two verdicts the one that matters more
abbrev pub graver : Verdict → Verdict → Verdict
graver verdict other = if nat_lt (weight verdict) (weight other) then other else verdict

-- FAULTS

abbrev pub open_words : Why → List ℕ
open_words Missing = codes "cannot be opened: no such file"
open_words Forbidden = codes "cannot be opened: permission denied"
open_words Directory = codes "cannot be opened: is a directory"
open_words Other = codes "cannot be opened"

abbrev pub fault_words : PageFault → List ℕ
fault_words (NotUtf8 at) = codes "not UTF-8 at byte " ++ decimal at
fault_words (Open why) = open_words why
fault_words Read = codes "cannot be read"
fault_words Write = codes "standard output cannot be written"
fault_words Memory = codes "no memory was left"

-- the line of a fault, after the name of the page
abbrev pub fault_line : List ℕ → PageFault → List ℕ
fault_line name fault = name ++ (codes ": " ++ (fault_words fault ++ 10 ∷ []))

-- what is reported where not all was written to standard output or to a file
abbrev pub unwritten_line : List ℕ → List ℕ
unwritten_line output = codes "figpliers: " ++ (output ++ codes " cannot be written\n")

-- the verdict of a page that had a fault
abbrev pub verdict_of : PageFault → Verdict
verdict_of Write = Unwritten
verdict_of fault = Fault

-- How an error is reported on standard error: by its line, or a prefix of the line where a write failed. A failed write to standard output
-- is not reported.
abbrev pub IsReported : List ℕ → PageFault → (errors errors' : Option (List ℕ)) → Type 0
IsReported name Write errors errors' = errors' ≡ errors
IsReported name fault errors errors' = (failed : Bool) × IsPut (fault_line name fault) errors errors' failed
