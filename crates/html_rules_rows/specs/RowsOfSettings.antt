-- Worked rows: pages read without scripting, without their doctype, and as the document of an `iframe` with `srcdoc`.
use Rattle.std.specs.Prelude.{◌≡◌, ℕ, true, false, List, [], ◌∷◌, ◌++◌, codes, Ok, Err, Result}
use Rattle.markup.specs.Forest.{empty_forest}
use Rattle.markup.specs.declared.quirks.QuirksMode.{QuirksMode}
use Rattle.markup.specs.declared.quirks.QuirksMode.TheVariants.{Quirks, LimitedQuirks, NoQuirks}
use Rattle.html_tokens.specs.RowForms.{five}
use Rattle.html_tokens.specs.Sink.{Refusal}
use Rattle.html_rules.specs.Documents.{Setting, document}
use Rattle.html_rules.specs.State.{State}
use Rattle.html_rules_rows.specs.RowForms.{Rows, AreReadWith, default_options, default_setting, row, row_of, body_row, page_row}

abbrev without_scripting : Setting
without_scripting = record default_setting { opts = record default_setting.opts { scripting_enabled = false } }

abbrev without_doctype : Setting
without_doctype = record default_setting { opts = record default_setting.opts { drop_doctype = true } }

abbrev in_srcdoc : Setting
in_srcdoc = record default_setting { opts = record default_setting.opts { iframe_srcdoc = true } }

abbrev pub unscripted_rows : Rows
unscripted_rows =
    -- what stands in a `noscript` of the head, and what ends it
    row "<noscript>" "<html><head><noscript></noscript></head><body></body></html>"
    ∷ row "<noscript></br>" "<html><head><noscript></noscript></head><body><br></body></html>"
    ∷ row_of (codes "<noscript>&#10</NOSCRIPT>") (codes "<html><head><noscript>" ++ 10 ∷ codes "</noscript></head><body></body></html>")
    ∷ row "<noscript><style>" "<html><head><noscript><style></style></noscript></head><body></body></html>"
    ∷ row "<noscript><noscript>" "<html><head><noscript></noscript></head><body></body></html>"
    ∷ row "<noscript><html>" "<html><head><noscript></noscript></head><body></body></html>"
    ∷ row "<noscript><!--c-->" "<html><head><noscript><!--c--></noscript></head><body></body></html>"
    ∷ row "<noscript></y>" "<html><head><noscript></noscript></head><body></body></html>"
    -- in a body it is an element like others, whose written text is not escaped
    ∷ page_row "<p><noscript><b>a</noscript>" "<p><noscript><b>a</b></noscript></p>"
    ∷ []

abbrev pub undoctyped_rows : Rows
undoctyped_rows =
    body_row "<!DOCTYPE html><p>a" "<p>a</p>"
    ∷ body_row "<!DOCTYPE" ""
    ∷ []

abbrev quirks_by : Result State Refusal → QuirksMode
quirks_by (Ok s) = s.forest.quirks
quirks_by (Err refusal) = Quirks

-- the quirks mode that the sink is told
abbrev quirks_read : Setting → List ℕ → QuirksMode
quirks_read setting text = quirks_by (document five default_options setting empty_forest text)

abbrev pub AreSettingRowsRead : Type 0
AreSettingRowsRead = AreReadWith without_scripting unscripted_rows × AreReadWith without_doctype undoctyped_rows

-- no doctype, a doctype, and both in an `iframe` with `srcdoc`
abbrev pub AreQuirksRowsRead : Type 0
AreQuirksRowsRead =
    (quirks_read default_setting (codes "a") ≡ Quirks)
    × (quirks_read default_setting (codes "<!DOCTYPE html>a") ≡ NoQuirks)
    × (quirks_read default_setting
    (codes "<!doctype html public \"-//W3C//DTD HTML 4.01 Transitional//EN\" \"http://www.w3.org/TR/html4/loose.dtd\">")
    ≡ LimitedQuirks)
    × (quirks_read default_setting (codes "<!DOCTYPE") ≡ Quirks)
    × (quirks_read without_doctype (codes "<!DOCTYPE html>a") ≡ NoQuirks)
    × (quirks_read in_srcdoc (codes "a") ≡ NoQuirks)
    × (quirks_read in_srcdoc (codes "<!DOCTYPE html PUBLIC \"html\">a") ≡ NoQuirks)
    × (quirks_read in_srcdoc (codes "<!DOCTYPE x>a") ≡ Quirks)
