-- Worked rows: what comes before the head.
use Rattle.std.specs.Prelude.{[], ◌∷◌}
use Rattle.html_rules_rows.specs.RowForms.{Rows, AreRead, row, body_row, body_row_of}

abbrev pub beginning_rows : Rows
beginning_rows =
    -- the "before head" insertion mode
    -- <head>
    body_row "<HeAD>" ""
    -- <html>
    ∷ body_row "<html><html>" ""
    -- comment
    ∷ row "<html><!" "<html><!----><head></head><body></body></html>"
    -- end
    ∷ body_row "<html></m>" ""
    -- space
    ∷ row "<!><html> " "<!----><html><head></head><body></body></html>"
    -- the "before html" insertion mode
    -- <html>
    ∷ body_row "<html>" ""
    -- comment
    ∷ row "</p><!" "<!----><html><head></head><body></body></html>"
    -- end
    ∷ body_row "</i>" ""
    -- space
    ∷ body_row "</y> " ""
    -- the "initial" insertion mode
    -- comment
    ∷ row "<!" "<!----><html><head></head><body></body></html>"
    -- space
    ∷ body_row_of (13 ∷ []) ([])
    -- doctype elsewhere
    ∷ body_row "<<!DOCTYPE" "&lt;"
    -- doctype in Initial; doctype in Initial err; quirks forced or name
    ∷ row "<!DOCTYPE" "<!DOCTYPE ><html><head></head><body></body></html>"
    ∷ []

abbrev pub AreBeginningRowsRead : Type 0
AreBeginningRowsRead = AreRead beginning_rows
