-- What C gets beside an answer.
use Rattle.std.specs.Prelude.{ℕ, Bool, if◌then◌else◌}
use Rattle.markup.specs.declared.quirks.QuirksMode.{QuirksMode}
use Rattle.markup.specs.declared.quirks.QuirksMode.TheVariants.{Quirks, LimitedQuirks, NoQuirks}
use Rattle.html_clean.specs.declared.counts.Cleaned.{Cleaned}
use Rattle.html_normal.specs.declared.report.Report.{Report}
use Rattle.html_ffi.specs.declared.report.FigCleaned.{FigCleaned}
use Rattle.html_ffi.specs.declared.report.FigReport.{FigReport}

abbrev pub flag_of : Bool → ℕ
flag_of is = if is then 1 else 0

abbrev pub quirks_number : QuirksMode → ℕ
quirks_number NoQuirks = 0
quirks_number LimitedQuirks = 1
quirks_number Quirks = 2

-- the report of a page of which a text was made that has so many bytes
abbrev pub report_of : ℕ → Report → FigReport
report_of count report = record {
  length = count;
  errors = report.errors;
  at = 0;
  quirks = quirks_number report.quirks;
  plain = flag_of report.plain;
}

-- the report of a text of so many bytes that is of no page
abbrev pub of_text : ℕ → FigReport
of_text count = record { length = count; errors = 0; at = 0; quirks = 0; plain = 0 }

-- the report of a page of which no text was made, with the place of the fault
abbrev pub nothing_at : ℕ → FigReport
nothing_at at = record { length = 0; errors = 0; at = at; quirks = 0; plain = 0 }

abbrev pub cleaned_of : ℕ → Cleaned → FigCleaned
cleaned_of count counts = record {
  length = count;
  at = 0;
  unwrapped = counts.unwrapped;
  dropped = counts.dropped;
  attributes = counts.attributes;
  comments = counts.comments;
}

abbrev pub nothing_cleaned_at : ℕ → FigCleaned
nothing_cleaned_at at = record { length = 0; at = at; unwrapped = 0; dropped = 0; attributes = 0; comments = 0 }
