-- The images of the trees of pages: of documents, of fragments, and of documents with the places of their nodes.
use Rattle.std.specs.Prelude.{◌≡◌, ℕ, true, false, List, [], ◌∷◌, ◌++◌, Some}
use Rattle.std.specs.Str.{IsUtf8, IsValidUpTo, chars}
use Rattle.markup.specs.Forest.{Forest}
use Rattle.markup.specs.TreeLaws.{with_errors}
use Rattle.html_input.specs.TableFault.{IsTableFile}
use Rattle.html_normal.specs.Fragment.{IsFragment}
use Rattle.html_normal.specs.declared.report.Report.{Report}
use Rattle.html_pages.specs.Pages.{IsPage, html_name}
use Rattle.html_places.specs.Noted.{IsPlaced}
use Rattle.html_places.specs.declared.noted.NotedForest.{NotedForest}
use Rattle.html_places.specs.declared.place.Place.{Place}
use Rattle.html_tokens.specs.Table.{Row}
use Rattle.html_tree_image.specs.Image.{image_of, words}
use Rattle.html_ffi.specs.Answers.{FailsAsTree, Means}
use Rattle.html_ffi.specs.Calls.{IsReportOf, IsReported}
use Rattle.html_ffi.specs.Reports.{nothing_at}
use Rattle.html_ffi.specs.declared.answer.Answer.{Answer}
use Rattle.html_ffi.specs.declared.answer.Answer.TheVariants.{ContextNotUtf8}
use Rattle.html_ffi.specs.declared.report.FigReport.{FigReport}

-- THE TREES OF A PAGE

-- a forest is the document of a page by a table's rows, with the number of its errors: control characters and noncharacters are not counted
abbrev pub IsDocumentBy : List Row → List ℕ → Forest → Type 0
IsDocumentBy rows page f = IsPage rows false page f

-- the same where they are counted
abbrev pub IsNotedBy : List Row → List ℕ → Forest → Type 0
IsNotedBy rows page f = IsPage rows true page f

-- A forest is what the rules make of a page in a new element of HTML of a name, where scripts run (HTML Standard, section 13.4).
pub record IsFragmentIn (context : List ℕ) (rows : List Row) (page : List ℕ) (f : Forest) : Type 0 where
  pub utf8 : IsUtf8 context
  pub fragment : IsFragment rows (html_name (chars context)) page (with_errors 0 f)

-- IMAGES

-- Bytes are the image of the forest that a page has by a table's rows, as `Of` says, with the report of the forest.
pub record IsTreeImage (Of : List Row → List ℕ → Forest → Type 0) (file page bytes : List ℕ) (report : Report) : Type 0 where
  pub rows : List Row
  pub table : IsTableFile file (Some []) rows
  pub forest : Forest
  pub is : Of rows page forest
  pub bytes_are : bytes ≡ image_of forest
  pub report_is : IsReportOf forest report

-- the line and the column of each place, in four bytes each, the lowest first: their low 32 bits
abbrev pub place_words : List Place → List ℕ
place_words [] = []
place_words (place ∷ others) = words (place.line ∷ place.column ∷ []) ++ place_words others

-- Bytes are the image of the document that a page has by a table's rows, and behind it the places of its nodes, in the order of their
-- numbers, with the report of the document.
pub record IsPlacedImage (file page bytes : List ℕ) (report : Report) : Type 0 where
  pub rows : List Row
  pub table : IsTableFile file (Some []) rows
  pub noted : NotedForest
  pub is : IsNotedBy rows page noted.forest
  pub placed : IsPlaced (chars page) noted
  pub bytes_are : bytes ≡ image_of noted.forest ++ place_words noted.places.items
  pub report_is : IsReportOf noted.forest report

-- ANSWERS

-- What the answer of a call that has no image says of the context's name, the table's bytes and the page, with the place in the report.
abbrev pub FailsAsFragment : (context file page : List ℕ) → Answer → ℕ → Type 0
FailsAsFragment context file page ContextNotUtf8 at = IsValidUpTo context at
FailsAsFragment context file page answer at = FailsAsTree (IsFragmentIn context) file page answer at

-- what an answer says of the table's bytes, the page, the room before and after the call, and the report
abbrev pub MeansTree : (file page old new : List ℕ) → FigReport → Answer → Type 0
MeansTree file page old new report = Means (IsReported (IsTreeImage IsDocumentBy) file page report) (report ≡ nothing_at report.at)
    (λ answer. FailsAsTree IsDocumentBy file page answer report.at) old new

abbrev pub MeansPlacedTree : (file page old new : List ℕ) → FigReport → Answer → Type 0
MeansPlacedTree file page old new report = Means (IsReported IsPlacedImage file page report) (report ≡ nothing_at report.at)
    (λ answer. FailsAsTree IsNotedBy file page answer report.at) old new

-- the same of a fragment, and of the name of its context
abbrev pub MeansFragmentTree : (file context page old new : List ℕ) → FigReport → Answer → Type 0
MeansFragmentTree file context page old new report = Means (IsReported (IsTreeImage (IsFragmentIn context)) file page report)
    (report ≡ nothing_at report.at) (λ answer. FailsAsFragment context file page answer report.at) old new
