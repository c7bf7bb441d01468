-- Cleaning by a policy's text, and the texts of the ready policies.
use Rattle.std.specs.Prelude.{◌≡◌, ℕ, List, [], Option, None, Some, Ok, Err, encode_utf8_all, length}
use Rattle.std.specs.Str.{IsUtf8, IsValidUpTo, chars}
use Rattle.markup.specs.Trees.{Trees}
use Rattle.html_clean.specs.Checks.{never_kept, never_kept_in_fragment}
use Rattle.html_clean.specs.declared.counts.Cleaned.{Cleaned}
use Rattle.html_clean.specs.declared.policy.Policy.{Policy}
use Rattle.html_clean_document.specs.Clean.{IsCleaned, IsDocumentOf, IsFragmentOf, div_name}
use Rattle.html_input.specs.TableFault.{IsTableFile}
use Rattle.html_policy_text.specs.PolicyText.{policy_rules}
use Rattle.html_policy_text.specs.ReadyRules.{ready_named, rules_of_ready}
use Rattle.html_policy_text.specs.Rules.{rules_of}
use Rattle.html_policy_text.specs.Written.{policy_text}
use Rattle.html_policy_text.specs.declared.ready.Ready.{Ready}
use Rattle.html_policy_text.specs.declared.rules.Problem.{Problem}
use Rattle.html_tokens.specs.Table.{Row}
use Rattle.html_ffi.specs.Answers.{Fails, Means}
use Rattle.html_ffi.specs.Calls.{IsReportedClean}
use Rattle.html_ffi.specs.Reports.{nothing_at, nothing_cleaned_at, of_text}
use Rattle.html_ffi.specs.declared.answer.Answer.{Answer}
use Rattle.html_ffi.specs.declared.answer.Answer.TheVariants.{Done, NotUtf8, TooShort, Memory, TooLarge, TableNotUtf8}
use Rattle.html_ffi.specs.declared.answer.Answer.TheVariants.{TableLine, TableName, TableDuplicate, TableValue}
use Rattle.html_ffi.specs.declared.answer.Answer.TheVariants.{SelectorNotUtf8, Selector, NotAnImage, NoNode}
use Rattle.html_ffi.specs.declared.answer.Answer.TheVariants.{PolicyNotUtf8, PolicyLine, NeverKept, NoPolicy}
use Rattle.html_ffi.specs.declared.report.FigCleaned.{FigCleaned}
use Rattle.html_ffi.specs.declared.report.FigReport.{FigReport}

-- THE POLICY

-- A text says the rules of a policy.
pub record Says (text : List ℕ) (policy : Policy) : Type 0 where
  pub utf8 : IsUtf8 text
  pub rules : policy_rules (chars text) ≡ Ok (rules_of policy)

-- A text is UTF-8, and this is the number of the first of its lines that is no rule, from 1 on.
pub record HasBadRule (text : List ℕ) (line : ℕ) : Type 0 where
  pub utf8 : IsUtf8 text
  pub problem : Problem
  pub is : policy_rules (chars text) ≡ Err (line, problem)

-- A policy by which a page is cleaned as a document, or as a fragment: `first` is the first word that it names and that is never kept.
module _ (first : Policy → Option (List ℕ)) where
  -- A text says the rules of a policy, which names nothing that is never kept.
  pub record IsPolicyOf (text : List ℕ) (policy : Policy) : Type 0 where
    pub says : Says text policy
    pub all_kept : first policy ≡ None

  -- A text says the rules of a policy that names this word, which is never kept.
  pub record NamesNeverKept (text : List ℕ) : Type 0 where
    pub policy : Policy
    pub says : Says text policy
    pub word : List ℕ
    pub is : first policy ≡ Some word

  -- What the answer of a call that has no text says of the table's bytes, the policy's and the page, with the place in the report.
  abbrev pub FailsToClean : (file policy page : List ℕ) → Answer → ℕ → Type 0
  FailsToClean file policy page PolicyNotUtf8 at = IsValidUpTo policy at
  FailsToClean file policy page PolicyLine at = HasBadRule policy at
  FailsToClean file policy page NeverKept at = (at ≡ 0) × NamesNeverKept policy
  FailsToClean file policy page answer at = Fails file page answer at

-- CLEANING

-- A text is what a policy keeps of a page, as `of` says which trees the page has by a table's rows, and so much was taken away.
pub record IsKeptBy (first : Policy → Option (List ℕ)) (of : List Row → List ℕ → Trees → Type 0) (policy file page text : List ℕ)
    (counts : Cleaned) : Type 0 where
  pub rows : List Row
  pub table : IsTableFile file (Some []) rows
  pub by : Policy
  pub is_policy : IsPolicyOf first policy by
  pub cleaned : IsCleaned (of rows) by page (Some []) (Some []) (Some text) counts

-- trees are those of a fragment in a `div`
abbrev pub IsInDiv : List Row → List ℕ → Trees → Type 0
IsInDiv rows page trees = IsFragmentOf rows div_name page trees

-- a text is what the policy's text keeps of a page as a document, or as a fragment in a `div`
abbrev pub IsDocumentKeptBy : (policy file page text : List ℕ) → Cleaned → Type 0
IsDocumentKeptBy policy file page text counts = IsKeptBy never_kept IsDocumentOf policy file page text counts

abbrev pub IsFragmentKeptBy : (policy file page text : List ℕ) → Cleaned → Type 0
IsFragmentKeptBy policy file page text counts = IsKeptBy never_kept_in_fragment IsInDiv policy file page text counts

-- what an answer says of the table's bytes, the policy's and the page, the room before and after the call, and the report
abbrev pub MeansDocumentBy : (file policy page old new : List ℕ) → FigCleaned → Answer → Type 0
MeansDocumentBy file policy page old new report = Means (IsReportedClean (IsDocumentKeptBy policy) file page report)
    (report ≡ nothing_cleaned_at report.at) (λ answer. FailsToClean never_kept file policy page answer report.at) old new

abbrev pub MeansFragmentBy : (file policy page old new : List ℕ) → FigCleaned → Answer → Type 0
MeansFragmentBy file policy page old new report = Means (IsReportedClean (IsFragmentKeptBy policy) file page report)
    (report ≡ nothing_cleaned_at report.at) (λ answer. FailsToClean never_kept_in_fragment file policy page answer report.at) old new

-- READY POLICIES

-- Characters are those of the ready policy of a name, one rule a line.
pub record IsNamedText (name text : List ℕ) : Type 0 where
  pub ready : Ready
  pub named : ready_named name ≡ Some ready
  pub is : text ≡ policy_text (rules_of_ready ready)

-- Bytes are those of the ready policy of a name, and the report has their number.
pub record IsReadyText (name : List ℕ) (report : FigReport) (bytes : List ℕ) : Type 0 where
  pub text : List ℕ
  pub named : IsNamedText name text
  pub is : bytes ≡ encode_utf8_all text
  pub report_is : report ≡ of_text (length bytes)

-- What the answer of a call that has no text says of the name of a ready policy, with the place in the report.
abbrev pub FailsToName : (name : List ℕ) → Answer → ℕ → Type 0
FailsToName name Memory at = at ≡ 0
FailsToName name PolicyNotUtf8 at = IsValidUpTo name at
FailsToName name NoPolicy at = (at ≡ 0) × (ready_named name ≡ None)
FailsToName name answer at = ⊥

-- what an answer says of the name, the room before and after the call, and the report
abbrev pub MeansReady : (name old new : List ℕ) → FigReport → Answer → Type 0
MeansReady name old new report = Means (IsReadyText name report) (report ≡ nothing_at report.at)
    (λ answer. FailsToName name answer report.at) old new
