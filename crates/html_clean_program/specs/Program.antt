-- What cleaning by words does: what it writes to standard output, and what to standard error.
use Rattle.std.specs.Prelude.{◌≡◌, ◌⊎◌, ℕ, Bool, true, false, List, [], ◌∷◌, ◌++◌, Option, Some, None, Result, Ok, Err, codes}
use Rattle.markup.specs.Trees.{Trees}
use Rattle.html_clean.specs.declared.counts.Cleaned.{Cleaned}
use Rattle.html_clean.specs.declared.policy.Policy.{Policy}
use Rattle.html_clean_document.specs.Clean.{IsCleaned, IsDocumentOf, IsFailed, IsFragmentOf, div_name}
use Rattle.html_tokens.specs.Table.{Row}
use Rattle.html_normal.specs.declared.fault.NormalFault.{NormalFault}
use Rattle.html_normal.specs.declared.fault.NormalFault.TheVariants.{Memory, Read}
use Rattle.html_normal.specs.declared.program.ProgramFault.{ProgramFault}
use Rattle.html_normal.specs.declared.program.ProgramFault.TheVariants as program
use Rattle.html_normal_program.specs.Program.{Files, HasNoTable, IsTable}
use Rattle.html_normal_program.specs.Streams.{IsMissing, IsOpened, IsPut}
use Rattle.html_clean_program.specs.Lines.{IsPageReported, counts_line}
use Rattle.html_clean_program.specs.Policies.{HasRules, LacksPolicy, NamesNeverKept, refused}
use Rattle.html_clean_program.specs.Words.{Request, asked_by, no_request}
use Rattle.html_clean_program.specs.declared.fault.CleanFault.{CleanFault}
use Rattle.html_clean_program.specs.declared.fault.CleanFault.TheVariants.{NeverKept, Normal, Page, Policy as Unread, Table, Usage}

-- what is written to standard output or to standard error, where that is stated
abbrev pub Stream : Type 0
Stream = Option (List ℕ)

-- the trees of a page: those of a document, or of a fragment in a `div`
abbrev pub IsPageOf : Bool → List Row → List ℕ → Trees → Type 0
IsPageOf true table = IsDocumentOf table
IsPageOf false table = IsFragmentOf table div_name

-- the bytes of a file, where they are stated
abbrev pub bytes_of : Option (Option (List ℕ)) → Option (List ℕ)
bytes_of None = None
bytes_of (Some told) = told

-- The page of that name was cleaned, of which `left` is stated: what is kept of it was written to standard output, and to standard error
-- how much is not, or a beginning of that where a write failed.
pub record IsPageDone (of : List ℕ → Trees → Type 0) (policy : Policy) (name : List ℕ) (left left' old new errors errors' : Stream) : Type 0
  where
    pub counts : Cleaned
    pub cleaned : (whole : List ℕ) → left ≡ Some whole → IsCleaned of policy whole left' old new counts
    pub failed : Bool
    pub line : IsPut (counts_line name counts ++ 10 ∷ []) errors errors' failed

module _ (files : Files) (of : List ℕ → Trees → Type 0) (policy : Policy) where
  -- a file was opened, and its page cleaned
  pub record IsFileDone (name : List ℕ) (old new errors errors' : Stream) : Type 0 where
    pub left : Stream
    pub left' : Stream
    pub opened : IsOpened (files name) left
    pub done : IsPageDone of policy name left left' old new errors errors'

  -- a file was opened, and its page not cleaned
  pub record IsPageFailed (name : List ℕ) (old new : Stream) (fault : NormalFault) : Type 0 where
    pub left : Stream
    pub left' : Stream
    pub opened : IsOpened (files name) left
    pub failed : IsFailed of policy left left' old new fault

  -- a file that can't be opened is one that can't be read
  abbrev pub IsUnopened : List ℕ → (old new : Stream) → NormalFault → Type 0
  IsUnopened name old new fault = IsMissing (files name) × (fault ≡ Read) × (new ≡ old)

  abbrev pub IsFileFailed : List ℕ → (old new errors errors' : Stream) → NormalFault → Type 0
  IsFileFailed name old new errors errors' fault =
      IsPageReported name fault errors errors' × (IsUnopened name old new fault ⊎ IsPageFailed name old new fault)

  -- each file's page was cleaned, one after another
  abbrev pub AreDone : List (List ℕ) → (old new errors errors' : Stream) → Type 0
  AreDone [] old new errors errors' = (new ≡ old) × (errors' ≡ errors)
  AreDone (name ∷ names) old new errors errors' = (mid : Stream) × (mid' : Stream) × IsFileDone name old mid errors mid'
      × AreDone names mid new mid' errors'

  -- those before one were, and that one not
  abbrev pub AreEnded : List (List ℕ) → (old new errors errors' : Stream) → NormalFault → Type 0
  AreEnded [] old new errors errors' fault = ⊥
  AreEnded (name ∷ names) old new errors errors' fault = IsFileFailed name old new errors errors' fault
      ⊎ ((mid : Stream) × (mid' : Stream) × IsFileDone name old mid errors mid' × AreEnded names mid new mid' errors' fault)

  -- the pages of the files, or with no file the page on standard input
  abbrev pub ArePagesDone : List (List ℕ) → (left left' old new errors errors' : Stream) → Type 0
  ArePagesDone [] left left' old new errors errors' = IsPageDone of policy (codes "-") left left' old new errors errors'
  ArePagesDone (name ∷ names) left left' old new errors errors' = (left' ≡ left) × AreDone (name ∷ names) old new errors errors'

  abbrev pub ArePagesEnded : List (List ℕ) → (left left' old new errors errors' : Stream) → NormalFault → Type 0
  ArePagesEnded [] left left' old new errors errors' fault =
      IsPageReported (codes "-") fault errors errors' × IsFailed of policy left left' old new fault
  ArePagesEnded (name ∷ names) left left' old new errors errors' fault =
      (left' ≡ left) × AreEnded (name ∷ names) old new errors errors' fault

-- what the words ask for, with its policy and table
pub record Wanted (files : Files) (words : List (List ℕ)) (P : Request → Policy → List Row → Type 0) : Type 0 where
  pub request : Request
  pub policy : Policy
  pub table : List Row
  pub asks : asked_by None no_request words ≡ Some request
  pub has : HasRules files request.policy request.extras policy
  pub allowed : refused request.document policy ≡ None
  pub named : IsTable files request.table table
  pub holds : P request policy table

-- why there is no table of references
abbrev pub LacksTable : Files → List (List ℕ) → CleanFault → Type 0
LacksTable files names Usage = ⊥
LacksTable files names (NeverKept word) = ⊥
LacksTable files names (Unread spelled why) = ⊥
LacksTable files names (Table why) = HasNoTable files names (program.Table why)
LacksTable files names (Normal why) = why ≡ Memory
LacksTable files names (Page why) = ⊥

-- a fault of the table that is named, and else out of memory
abbrev pub table_fault_of : ProgramFault → CleanFault
table_fault_of program.Usage = Normal Memory
table_fault_of (program.Table why) = Table why
table_fault_of (program.Normal why) = Normal Memory

-- what the words ask for lacks something
pub record Lacks (words : List (List ℕ)) (P : Request → Type 0) : Type 0 where
  pub request : Request
  pub asks : asked_by None no_request words ≡ Some request
  pub holds : P request

-- why no page is read
abbrev pub IsRefused : Files → List (List ℕ) → CleanFault → Type 0
IsRefused files words Usage = asked_by None no_request words ≡ None
IsRefused files words (NeverKept word) =
    Lacks words (λ request. NamesNeverKept files request.policy request.extras request.document word)
IsRefused files words (Unread spelled why) = Lacks words (λ request. LacksPolicy files request.policy spelled why)
IsRefused files words (Table why) = Lacks words (λ request. HasNoTable files request.table (program.Table why))
IsRefused files words (Normal why) = why ≡ Memory
IsRefused files words (Page why) = ⊥

-- a page was not read, not cleaned or not written, and that was reported
abbrev pub IsStopped : Files → List (List ℕ) → (left left' old new errors errors' : Stream) → CleanFault → Type 0
IsStopped files words left left' old new errors errors' (Page fault) = Wanted files words (λ request policy table.
    ArePagesEnded files (IsPageOf request.document table) policy request.files left left' old new errors errors' fault)
IsStopped files words left left' old new errors errors' fault = ⊥

-- The outcome, by the files and the words, the bytes of standard input that are left before and after it, and those
-- written to standard output and to standard error before and after it.
abbrev pub IsOutcome : Files → List (List ℕ) → (left left' old new errors errors' : Stream) → Result (Unit {0}) CleanFault → Type 0
IsOutcome files words left left' old new errors errors' (Ok done) = Wanted files words (λ request policy table.
    ArePagesDone files (IsPageOf request.document table) policy request.files left left' old new errors errors')
IsOutcome files words left left' old new errors errors' (Err fault) =
    (IsRefused files words fault × (left' ≡ left) × (new ≡ old) × (errors' ≡ errors))
    ⊎ IsStopped files words left left' old new errors errors' fault
