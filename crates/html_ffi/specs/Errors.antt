-- The parse errors of a page, a line for each.
use Rattle.std.specs.Prelude.{◌≡◌, ℕ, true, List, [], ◌∷◌, ◌++◌, Some, codes, length}
use Rattle.std.specs.Cow.{cow_str_bytes}
use Rattle.std.specs.Fmt.{decimal}
use Rattle.std.specs.List.{flat_map}
use Rattle.markup.specs.Forest.{Forest}
use Rattle.html_input.specs.TableFault.{IsTableFile}
use Rattle.html_normal.specs.declared.report.Report.{Report}
use Rattle.html_pages.specs.Pages.{IsPage}
use Rattle.html_places.specs.declared.noted.Noted.{Noted}
use Rattle.html_tokens.specs.Table.{Row}
use Rattle.html_ffi.specs.Calls.{IsReportOf}

-- the line of the page, and the Standard's code or words
abbrev pub error_line : Noted → List ℕ
error_line error = decimal error.place.line ++ codes ": " ++ cow_str_bytes error.message ++ 10 ∷ []

abbrev pub error_lines : List Noted → List ℕ
error_lines errors = flat_map error_line errors

-- A text has a line for each parse error that is reported for a page (HTML Standard, section 13.2.2), control characters and noncharacters too,
-- and the report is that of the page.
pub record IsErrorList (file page text : List ℕ) (report : Report) : Type 0 where
  pub rows : List Row
  pub table : IsTableFile file (Some []) rows
  pub document : Forest
  pub is_page : IsPage rows true page document
  pub errors : List Noted
  pub each : length errors ≡ document.errors
  pub lines : text ≡ error_lines errors
  pub report_is : IsReportOf document report
