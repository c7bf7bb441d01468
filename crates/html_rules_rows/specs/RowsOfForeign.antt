-- Worked rows: foreign content.
use Rattle.std.specs.Prelude.{[], ◌∷◌, ◌++◌, codes}
use Rattle.html_rules_rows.specs.RowForms.{Rows, AreRead, body_row, body_row_of}

abbrev pub foreign_rows : Rows
foreign_rows =
    -- foreign </br p>
    body_row "<svg></p>" "<svg></svg><p></p>"
    -- foreign <font> with color
    ∷ body_row "<math><font color>" "<math></math><font color=\"\"></font>"
    -- foreign NUL
    ∷ body_row_of (codes "<math>" ++ 0 ∷ []) (codes "<math>" ++ 0xFFFD ∷ codes "</math>")
    -- foreign breakout; foreign pop until HTML or a point
    ∷ body_row "<math><P>" "<math></math><p></p>"
    -- foreign comment
    ∷ body_row "<svg><?" "<svg><!--?--></svg>"
    -- foreign end: as the mode; foreign end: first not equal
    ∷ body_row "<math></d>" "<math></math>"
    -- foreign end: cut
    ∷ body_row "<svg><td></td>" "<svg><td></td></svg>"
    -- foreign except: MathML point
    ∷ body_row "<math><mi><" "<math><mi>&lt;</mi></math>"
    -- foreign except: SVG point
    ∷ body_row "<svg><desc><" "<svg><desc>&lt;</desc></svg>"
    -- foreign except: annotation-xml <svg>
    ∷ body_row "<math><annotation-xml><svg>" "<math><annotation-xml><svg></svg></annotation-xml></math>"
    -- foreign except: annotation-xml integration point
    ∷ body_row "<math><annotation-xml encoding=text/html>b" "<math><annotation-xml encoding=\"text/html\">b</annotation-xml></math>"
    -- foreign start MathML
    ∷ body_row "<math><c>" "<math><c></c></math>"
    -- foreign start SVG
    ∷ body_row "<svg><c>" "<svg><c></c></svg>"
    -- foreign start self-closing; self-closing without err
    ∷ body_row "<svg/>" "<svg></svg>"
    -- foreign text
    ∷ body_row "<svg><" "<svg>&lt;</svg>"
    -- foreign: mglyph malignmark at a MathML point
    ∷ body_row "<math><mi><malignmark>" "<math><mi><malignmark></malignmark></mi></math>"
    -- integration point annotation-xml
    ∷ body_row "<math><annotation-xml encoding=text/html>" "<math><annotation-xml encoding=\"text/html\"></annotation-xml></math>"
    -- rename SVG attribute
    ∷ body_row_of (codes "<svg" ++ 13 ∷ codes "attributename>") (codes "<svg attributeName=\"\"></svg>")
    -- rename SVG tag
    ∷ body_row "<svg><lineargradient>" "<svg><linearGradient></linearGradient></svg>"
    -- rename definitionURL
    ∷ body_row "<math definitionurl>" "<math definitionURL=\"\"></math>"
    -- rename foreign attribute
    ∷ body_row "<math xlink:title>" "<math xlink:title=\"\"></math>"
    ∷ []

abbrev pub AreForeignRowsRead : Type 0
AreForeignRowsRead = AreRead foreign_rows
