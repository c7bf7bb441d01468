-- What `clean` does, and the outcome of the program.
use Rattle.std.specs.Prelude.{◌≡◌, ◌&&◌, ℕ, Bool, not, cond, List, [], ◌∷◌, Option, Some, None, Result, Ok, Err, String, codes}
use Rattle.std.specs.Prelude.{option_map}
use Rattle.std.specs.List.{list_any}
use Rattle.std.specs.Str.{bytes_eq}
use Rattle.std.specs.String.{string_bytes}
use Rattle.std.specs.declared.alloc.Global.{Global}
use Rattle.figpliers.specs.NormalFault.{NormalFault}
use Rattle.figpliers.specs.NormalFault.TheVariants.{Write}
use Rattle.figpliers.specs.Puts.{WriterView}
use Rattle.html_clean_program.specs.Lines.{IsReported}
use Rattle.html_clean_program.specs.Printing.{IsObeyed}
use Rattle.html_clean_program.specs.Words.{output_named}
use Rattle.html_clean_program.specs.declared.fault.CleanFault.{CleanFault}
use Rattle.html_clean_program.specs.declared.fault.CleanFault.TheVariants.{Normal, Page}
use Rattle.html_normal_program.specs.Program.{Files}
use Rattle.figpliers_program.specs.Jobs.{IsPagesOutcome}
use Rattle.figpliers_program.specs.Outcome.{Stream}
use Rattle.figpliers_program.specs.Rejected.{IsPagesOutput}
use Rattle.figpliers_program.specs.declared.faults.Verdict.{Verdict}
use Rattle.figpliers_program.specs.declared.faults.Verdict.TheVariants.{Fault, Fine, Unwritten}

-- WORDS

-- a word asks for help or for the version
abbrev pub is_about : List ℕ → Bool
is_about word = list_any (bytes_eq word) (codes "--help" ∷ codes "-h" ∷ codes "--version" ∷ codes "-V" ∷ [])

-- The words after `clean`, where that stands after the program's name, and none of them asks for help or for the version.
abbrev pub clean_words : List (List ℕ) → Option (List (List ℕ))
clean_words (program ∷ (command ∷ words)) =
    cond (bytes_eq command (codes "clean") && not (list_any is_about words)) (Some words) None
clean_words words = None

-- CLEANING

abbrev pub stream_verdict : NormalFault → Verdict
stream_verdict Write = Unwritten
stream_verdict fault = Fault

abbrev pub fault_verdict : CleanFault → Verdict
fault_verdict (Normal fault) = stream_verdict fault
fault_verdict (Page fault) = stream_verdict fault
fault_verdict fault = Fault

-- how cleaning ends: its verdict, and how a fault is reported
abbrev pub IsEnded : Result (Unit {0}) CleanFault → (errors errors' : Stream) → Verdict → Type 0
IsEnded (Ok done) errors errors' verdict = (verdict ≡ Fine) × (errors' ≡ errors)
IsEnded (Err fault) errors errors' verdict = (verdict ≡ fault_verdict fault) × IsReported fault errors errors'

-- what the words after `clean` ask for was done, as the definitions of html_clean_program have it, or not, and why is reported
pub record IsClean (files : Files) (words : List (List ℕ)) (left left' old new errors errors' : Stream) (verdict : Verdict) : Type 0 where
  pub result : Result (Unit {0}) CleanFault
  pub between : Stream
  pub obeyed : IsObeyed files words left left' old new errors between result
  pub ended : IsEnded result between errors' verdict

-- THE PROGRAM

-- by the words after `clean`, if there are such
abbrev pub IsOutcomeBy : Option (List (List ℕ)) → Files → List (List ℕ) → (left left' : Stream) (out out' : WriterView)
    (errors errors' : Stream) → Verdict → Type 0
IsOutcomeBy (Some rest) files words left left' out out' errors errors' verdict =
    IsClean files rest left left' out.written out'.written errors errors' verdict
IsOutcomeBy None files words left left' out out' errors errors' verdict =
    IsPagesOutcome files words left left' out out' errors errors' verdict

-- The outcome of the program, by the files and the words, the bytes of standard input that are left before and after it, the view of
-- standard output, and the bytes that were written to standard error.
abbrev pub IsOutcome : Files → List (List ℕ) → (left left' : Stream) (out out' : WriterView) (errors errors' : Stream) → Verdict → Type 0
IsOutcome files words left left' out out' errors errors' verdict =
    IsOutcomeBy (clean_words words) files words left left' out out' errors errors' verdict

-- the file to write to that the words name, by those after `clean`, if there are such
abbrev pub IsOutputBy : Option (List (List ℕ)) → List (List ℕ) → Option (String Global) → Type 0
IsOutputBy (Some rest) words found = option_map string_bytes found ≡ output_named rest
IsOutputBy None words found = IsPagesOutput words found

-- the words name this file to write to, or none
abbrev pub IsOutputOf : List (List ℕ) → Option (String Global) → Type 0
IsOutputOf words found = IsOutputBy (clean_words words) words found
