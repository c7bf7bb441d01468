-- The texts that calls make of a page, by the table of references that a file's bytes hold.
use Rattle.std.specs.Prelude.{◌≡◌, ℕ, false, List, [], length, Some}
use Rattle.markup.specs.Forest.{Forest}
use Rattle.html_clean.specs.Ready.{IsTextAndLinks}
use Rattle.html_clean.specs.declared.counts.Cleaned.{Cleaned}
use Rattle.html_clean.specs.declared.policy.Policy.{Policy}
use Rattle.html_clean_document.specs.Clean.{IsCleaned, IsDocumentOf, IsFragmentOf, div_name}
use Rattle.html_input.specs.TableFault.{IsTableFile}
use Rattle.html_normal.specs.Normal.{IsNormalised}
use Rattle.html_normal.specs.declared.report.Report.{Report}
use Rattle.html_plain.specs.Grammar.{is_plain_forest}
use Rattle.html_tokens.specs.Table.{Row}
use Rattle.html_ffi.specs.Answers.{Fails, Means}
use Rattle.html_ffi.specs.Reports.{cleaned_of, nothing_at, nothing_cleaned_at, report_of}
use Rattle.html_ffi.specs.declared.answer.Answer.{Answer}
use Rattle.html_ffi.specs.declared.report.FigCleaned.{FigCleaned}
use Rattle.html_ffi.specs.declared.report.FigReport.{FigReport}

-- A text is the normal text of a page, with the report of the page.
pub record IsNormalText (file page text : List ℕ) (report : Report) : Type 0 where
  pub rows : List Row
  pub table : IsTableFile file (Some []) rows
  pub normal : IsNormalised rows false page (Some []) (Some []) (Some text) report

-- A report is that of a forest.
pub record IsReportOf (f : Forest) (report : Report) : Type 0 where
  pub plain : report.plain ≡ is_plain_forest f
  pub quirks : report.quirks ≡ f.quirks
  pub errors : report.errors ≡ f.errors

-- A text is what the ready policy keeps of a page as a document, and so much was taken away.
pub record IsCleanDocument (file page text : List ℕ) (counts : Cleaned) : Type 0 where
  pub rows : List Row
  pub table : IsTableFile file (Some []) rows
  pub policy : Policy
  pub ready : IsTextAndLinks policy
  pub cleaned : IsCleaned (IsDocumentOf rows) policy page (Some []) (Some []) (Some text) counts

-- A text is what the ready policy keeps of a page as a fragment in a `div`, and so much was taken away.
pub record IsCleanFragment (file page text : List ℕ) (counts : Cleaned) : Type 0 where
  pub rows : List Row
  pub table : IsTableFile file (Some []) rows
  pub policy : Policy
  pub ready : IsTextAndLinks policy
  pub cleaned : IsCleaned (IsFragmentOf rows div_name) policy page (Some []) (Some []) (Some text) counts

-- A text is as `Is` says, with a report of the page, and C gets this form of the report.
pub record IsReported (Is : (file page text : List ℕ) → Report → Type 0) (file page : List ℕ) (report : FigReport)
    (text : List ℕ) : Type 0 where
  pub of_page : Report
  pub is : Is file page text of_page
  pub report_is : report ≡ report_of (length text) of_page

pub record IsReportedClean (Is : (file page text : List ℕ) → Cleaned → Type 0) (file page : List ℕ)
    (report : FigCleaned) (text : List ℕ) : Type 0 where
  pub counts : Cleaned
  pub is : Is file page text counts
  pub report_is : report ≡ cleaned_of (length text) counts

-- what an answer says of the table's bytes, the page, the room before and after the call, and the report
abbrev pub MeansText : (Is : (file page text : List ℕ) → Report → Type 0) → (file page old new : List ℕ) → FigReport → Answer → Type 0
MeansText Is file page old new report = Means (IsReported Is file page report) (report ≡ nothing_at report.at)
    (λ answer. Fails file page answer report.at) old new

abbrev pub MeansCleaned : (Is : (file page text : List ℕ) → Cleaned → Type 0) → (file page old new : List ℕ) → FigCleaned → Answer → Type 0
MeansCleaned Is file page old new report = Means (IsReportedClean Is file page report)
    (report ≡ nothing_cleaned_at report.at) (λ answer. Fails file page answer report.at) old new
