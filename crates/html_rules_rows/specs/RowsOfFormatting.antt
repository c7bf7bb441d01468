-- Worked rows: formatting elements and the adoption agency.
use Rattle.std.specs.Prelude.{[], ◌∷◌}
use Rattle.html_rules_rows.specs.RowForms.{Rows, AreRead, body_row}

abbrev pub formatting_rows : Rows
formatting_rows =
    -- adoption F not current
    body_row "<b><i></b>" "<b><i></i></b>"
    -- adoption F not open
    ∷ body_row "<select><b><select></b>" "<select><b></b></select>"
    -- adoption after the first copy; adoption copy
    ∷ body_row "<a><big><p><a>" "<a><big></big></a><big><p><a></a><a></a></p></big>"
    -- adoption current unlisted
    ∷ body_row "<b><b><b><b></b></b></b></b>" "<b><b><b><b></b></b></b></b>"
    -- adoption eight turns
    ∷ body_row "<a><div><div><div><div><div><div><div><div><a>"
    "<a></a><div><a></a><div><a></a><div><a></a><div><a></a><div><a></a><div><a></a><div><a></a><div><a><a></a></a></div></div></div></div></div></div></div></div>"
    -- adoption in place of F
    ∷ body_row "<a><div><a>" "<a></a><div><a></a><a></a></div>"
    -- adoption no B
    ∷ body_row "<b></b>" "<b></b>"
    -- adoption past the third
    ∷ body_row "<a><b><b><b><b><div><a>" "<a><b><b><b><b></b></b></b></b></a><b><b><b><div><a></a><a></a></div></b></b></b>"
    -- adoption past the third listed
    ∷ body_row "<tt><b><f><b><b><div></tt>" "<tt><b><f><b><b></b></b></f></b></tt><b><b><div><tt></tt></div></b></b>"
    -- adoption unlisted leaves
    ∷ body_row "<a><b><div><b><b><b><a>" "<a><b></b></a><div><a><b><b><b></b></b></b></a><b><b><b><a></a></b></b></b></div>"
    -- formatting earliest leaves
    ∷ body_row "<b><b><b><b>" "<b><b><b><b></b></b></b></b>"
    -- reconstruct
    ∷ body_row "<b><i></b>=" "<b><i></i></b><i>=</i>"
    ∷ []

abbrev pub AreFormattingRowsRead : Type 0
AreFormattingRowsRead = AreRead formatting_rows
