-- What is written of a page by each command, and what the program does for a command.
use Rattle.std.specs.Prelude.{◌≡◌, ◌⊎◌, ◌∷◌, ℕ, Bool, List, [], map, codes, Result, Ok, Err, nat_lt}
use Rattle.std.specs.Bool.{MatchBool}
use Rattle.std.specs.Str.{chars}
use Rattle.std.specs.Vec.{vec_len}
use Rattle.std.specs.String.{string_bytes}
use Rattle.clap.specs.declared.error.kind.ErrorKind.{ErrorKind}
use Rattle.selectors.specs.declared.selector.Selectors.{Selectors}
use Rattle.html_selector_text.specs.Grammar.{parsed}
use Rattle.html_selector_text.specs.Results.{Fails, Wrong}
use Rattle.html_selector_text.specs.Trees.{list_tree}
use Rattle.html_selector_text.specs.declared.fault.SelectorError.{SelectorError}
use Rattle.figpliers.specs.Puts.{Broke, WriterView, with_bytes}
use Rattle.figpliers.specs.Table.{Row}
use Rattle.figpliers.specs.TableFile.{rows_of}
use Rattle.html_normal_program.specs.Program.{Files}
use Rattle.html_standard_references.specs.declared.rows.TheConstants.{STANDARD_ROWS}
use Rattle.figpliers_program.specs.Asked.{AsksFor}
use Rattle.figpliers_program.specs.Outcome.{AreDone, IsPageDone, Stream}
use Rattle.figpliers_program.specs.Pages.{ErrorsText, FragmentText, PageText}
use Rattle.figpliers_program.specs.Printing.{PrintsSome}
use Rattle.figpliers_program.specs.Reading.{HasNoText, IsTextOf}
use Rattle.figpliers_program.specs.Rejected.{IsRejectedBy, is_help}
use Rattle.figpliers_program.specs.Verdicts.{IsReported}
use Rattle.figpliers_program.specs.declared.command.Asked.{Asked}
use Rattle.figpliers_program.specs.declared.command.DocumentJob.{DocumentJob}
use Rattle.figpliers_program.specs.declared.command.DocumentJob.TheVariants.{Select}
use Rattle.figpliers_program.specs.declared.command.Job.{Job}
use Rattle.figpliers_program.specs.declared.command.Job.TheVariants.{OfDocument, OfErrors, OfFragment}
use Rattle.figpliers_program.specs.declared.faults.PageFault.{PageFault}
use Rattle.figpliers_program.specs.declared.faults.PageFault.TheVariants.{Memory}
use Rattle.figpliers_program.specs.declared.faults.Verdict.{Verdict}
use Rattle.figpliers_program.specs.declared.faults.Verdict.TheVariants.{Fault, Fine, Nothing, Unwritten}

-- whether there are several pages
abbrev pub has_several : Asked → Bool
has_several asked = nat_lt 1 (vec_len asked.files)

-- what a command writes of a page with a name and a text, by the Standard's references
abbrev pub IsWritten : List Row → Job → (several : Bool) → (name page : List ℕ) → (out : WriterView) → Result Verdict PageFault
    → (out' : WriterView) → Type 0
IsWritten table OfErrors several name page out result out' = PrintsSome (ErrorsText table name page) out result out'
IsWritten table (OfFragment element) several name page out result out' =
    PrintsSome (FragmentText table (string_bytes element) page) out result out'
IsWritten table (OfDocument job) several name page out result out' = PrintsSome (PageText table job several name page) out result out'

-- selectors are those of the command `select`
abbrev pub AreSelectorsOf : DocumentJob → Selectors → Type 0
AreSelectorsOf (Select selector show) selectors = parsed (chars (string_bytes selector)) ≡ Ok (list_tree selectors)
AreSelectorsOf job selectors = Unit {0}

abbrev pub AreSelectorsIn : Job → Selectors → Type 0
AreSelectorsIn OfErrors selectors = Unit {0}
AreSelectorsIn (OfFragment element) selectors = Unit {0}
AreSelectorsIn (OfDocument job) selectors = AreSelectorsOf job selectors

-- What is made of a page with a name and bytes: it has no text, or what its text makes was written, or a beginning of that.
abbrev pub IsMadeOf : List Row → Asked → (name bytes : List ℕ) → (out : WriterView) → Result Verdict PageFault
    → (out' : WriterView) → Type 0
IsMadeOf table asked name bytes out result out' =
    ((fault : PageFault) × (result ≡ Err fault) × HasNoText asked.reading bytes fault × (out' ≡ out))
    ⊎ ((page : List ℕ) × IsTextOf table asked.reading bytes page × IsWritten table asked.job (has_several asked) name page out result out')

-- the pages of the files that are named, or with none the one on standard input
abbrev pub ArePagesDone : Files → ((name bytes : List ℕ) → WriterView → Result Verdict PageFault → WriterView → Type 0)
    → (names : List (List ℕ)) → (left left' : Stream) (out out' : WriterView) (errors errors' : Stream) → Verdict → Type 0
ArePagesDone files P [] left left' out out' errors errors' verdict =
    IsPageDone files P (codes "-") left left' out out' errors errors' verdict
ArePagesDone files P (name ∷ names) left left' out out' errors errors' verdict =
    AreDone files P (name ∷ names) Nothing left left' out out' errors errors' verdict

-- why a command has no selectors: the text of those of `select` is none, or memory ran out
abbrev pub AreNoSelectors : Job → SelectorError → Type 0
AreNoSelectors (OfDocument (Select selector show)) error = Fails error (parsed (chars (string_bytes selector)))
AreNoSelectors job error = ⊥

-- the line of the program that says that it is out of memory
abbrev pub ReportsNoMemory : (errors errors' : Stream) → Type 0
ReportsNoMemory errors errors' = IsReported (codes "figpliers") Memory errors errors'

-- Why nothing was done for a command: out of memory; or the text of the selectors of `select` is none, and of what is reported then nothing
-- is said.
abbrev pub IsRefused : Job → (errors errors' : Stream) → Type 0
IsRefused (OfDocument (Select selector show)) errors errors' = ReportsNoMemory errors errors'
    ⊎ ((wrong : Wrong) × (parsed (chars (string_bytes selector)) ≡ Err wrong))
IsRefused job errors errors' = ReportsNoMemory errors errors'

-- What is asked for was done with the Standard's references; or nothing was read or written but to standard error.
abbrev pub IsRun : Files → Asked → (left left' : Stream) (out out' : WriterView) (errors errors' : Stream) → Verdict → Type 0
IsRun files asked left left' out out' errors errors' verdict =
    ((verdict ≡ Fault) × (left' ≡ left) × (out' ≡ out) × IsRefused asked.job errors errors')
    ⊎ ((table : List Row) × (rows_of STANDARD_ROWS.now ≡ Ok table) × ArePagesDone files (IsMadeOf table asked)
    (map string_bytes asked.files.items) left left' out out' errors errors' verdict)

-- help, or the version, is written to standard output, or a beginning of it where a write fails
abbrev pub IsHelped : (out out' : WriterView) (errors errors' : Stream) → Verdict → Type 0
IsHelped out out' errors errors' Fine = (errors' ≡ errors) × ((text : List ℕ) × (out' ≡ with_bytes out text))
IsHelped out out' errors errors' Unwritten = (errors' ≡ errors) × ((text : List ℕ) × Broke out text out')
IsHelped out out' errors errors' verdict = ⊥

-- What is answered to words that are rejected, by the kind of the error. Of what an error other than a request for help writes to standard
-- error nothing is said.
abbrev pub IsAnswered : ErrorKind → (out out' : WriterView) (errors errors' : Stream) → Verdict → Type 0
IsAnswered kind out out' errors errors' verdict =
    MatchBool (is_help kind) (IsHelped out out' errors errors' verdict) ((verdict ≡ Fault) × (out' ≡ out))

-- the program was out of memory before it did anything
abbrev pub IsOutOfMemory : (out out' : WriterView) (errors errors' : Stream) → Verdict → Type 0
IsOutOfMemory out out' errors errors' verdict = (verdict ≡ Fault) × (out' ≡ out) × ReportsNoMemory errors errors'

-- the words are rejected, and this is the answer
abbrev pub IsRejection : List (List ℕ) → (out out' : WriterView) (errors errors' : Stream) → Verdict → Type 0
IsRejection words out out' errors errors' verdict =
    (kind : ErrorKind) × IsRejectedBy words kind × IsAnswered kind out out' errors errors' verdict

-- The outcome of another command than `clean`, by the files and the words, the bytes of standard input that are left before and after it,
-- the view of standard output, and the bytes that were written to standard error.
abbrev pub IsPagesOutcome : Files → List (List ℕ) → (left left' : Stream) (out out' : WriterView) (errors errors' : Stream) → Verdict
    → Type 0
IsPagesOutcome files words left left' out out' errors errors' verdict =
    ((left' ≡ left) × IsOutOfMemory out out' errors errors' verdict)
    ⊎ ((left' ≡ left) × IsRejection words out out' errors errors' verdict)
    ⊎ ((asked : Asked) × AsksFor words asked × IsRun files asked left left' out out' errors errors' verdict)
