-- Worked rows: framesets.
use Rattle.std.specs.Prelude.{[], ◌∷◌, ◌++◌, codes}
use Rattle.html_rules_rows.specs.RowForms.{Rows, AreRead, row, row_of}

abbrev pub frameset_rows : Rows
frameset_rows =
    -- the "after after frameset" insertion mode
    -- <html>
    row "<frameset></frameset></html><html>" "<html><head></head><frameset></frameset></html>"
    -- <noframes>
    ∷ row "<frameset></frameset></html><noframes>" "<html><head></head><frameset></frameset><noframes></noframes></html>"
    -- comment
    ∷ row "</><frameset></frameset></html><!" "<html><head></head><frameset></frameset></html><!---->"
    -- else
    ∷ row "<b><frameset></frameset></html>x" "<html><head></head><frameset></frameset></html>"
    -- end of input; "after frameset", </html>
    ∷ row "<b><frameset></frameset></html>" "<html><head></head><frameset></frameset></html>"
    -- space
    ∷ row "<b><frameset></frameset></html> " "<html><head></head><frameset></frameset><b> </b></html>"
    -- the "after frameset" insertion mode
    -- <html>
    ∷ row "<C><frameset></frameset><html>" "<html><head></head><frameset></frameset></html>"
    -- <noframes>
    ∷ row "<D><frameset></frameset><noframes>" "<html><head></head><frameset></frameset><noframes></noframes></html>"
    -- comment
    ∷ row "<!><frameset></frameset><!" "<!----><html><head></head><frameset></frameset><!----></html>"
    -- else
    ∷ row "<frameset></frameset>a" "<html><head></head><frameset></frameset></html>"
    -- end of input
    ∷ row "<frameset></frameset>" "<html><head></head><frameset></frameset></html>"
    -- space
    ∷ row "<!><frameset></frameset> " "<!----><html><head></head><frameset></frameset> </html>"
    -- the "in frameset" insertion mode
    -- </frameset>; </frameset> the last
    ∷ row "<b><frameset></frameset>" "<html><head></head><frameset></frameset></html>"
    -- <frame>
    ∷ row "<frameset><frame>" "<html><head></head><frameset><frame></frameset></html>"
    -- <frameset>
    ∷ row "<frameset><frameset>" "<html><head></head><frameset><frameset></frameset></frameset></html>"
    -- <html>
    ∷ row "<t><frameset><html>" "<html><head></head><frameset></frameset></html>"
    -- <noframes>
    ∷ row "<frameset><noframes>" "<html><head></head><frameset><noframes></noframes></frameset></html>"
    -- comment
    ∷ row "<frameset><!" "<html><head></head><frameset><!----></frameset></html>"
    -- else
    ∷ row "<frameset>a" "<html><head></head><frameset></frameset></html>"
    -- space
    ∷ row_of (codes "<frameset>" ++ 9 ∷ []) (codes "<html><head></head><frameset>" ++ 9 ∷ codes "</frameset></html>")
    ∷ []

abbrev pub AreFramesetRowsRead : Type 0
AreFramesetRowsRead = AreRead frameset_rows
