-- Worked rows: tables.
use Rattle.std.specs.Prelude.{[], ◌∷◌, ◌++◌, codes}
use Rattle.html_rules_rows.specs.RowForms.{Rows, AreRead, row, row_of, body_row, body_row_of}

abbrev pub table_rows : Rows
table_rows =
    -- the "in caption" insertion mode
    -- </body .. tr>
    body_row "<table><caption></html>" "<table><caption></caption></table>"
    -- </caption>
    ∷ body_row "<table><caption></caption>" "<table><caption></caption></table>"
    -- </table>
    ∷ body_row "<table><caPTIoN></table>" "<table><caption></caption></table>"
    -- <caption .. tr>
    ∷ body_row "<table><caption><td>" "<table><caption></caption><tbody><tr><td></td></tr></tbody></table>"
    -- else; "in table", <caption>
    ∷ body_row "<table><caption>" "<table><caption></caption></table>"
    -- the "in cell" insertion mode
    -- </body caption col colgroup html>
    ∷ body_row "<table><td></html>" "<table><tbody><tr><td></td></tr></tbody></table>"
    -- </table tbody tfoot thead tr>; "in row", </table>; "in table body", </table>
    ∷ body_row "<table><th></table>" "<table><tbody><tr><th></th></tr></tbody></table>"
    -- </table tbody tfoot thead tr> err
    ∷ body_row "<table><th></tfoot>" "<table><tbody><tr><th></th></tr></tbody></table>"
    -- </td th>
    ∷ body_row "<table><td></td>" "<table><tbody><tr><td></td></tr></tbody></table>"
    -- </td th> err
    ∷ body_row "<table><td></th>" "<table><tbody><tr><td></td></tr></tbody></table>"
    -- <caption .. tr>
    ∷ body_row "<table><th><th>" "<table><tbody><tr><th></th><th></th></tr></tbody></table>"
    -- close err
    ∷ body_row "<table><td><X><th>" "<table><tbody><tr><td><x></x></td><th></th></tr></tbody></table>"
    -- else; "in row", <th td>; "in table", <td th tr>; "in table body", <th td>
    ∷ body_row "<table><td>" "<table><tbody><tr><td></td></tr></tbody></table>"
    -- the "in column group" insertion mode
    -- </col>
    ∷ body_row "<table><colgroup></col>" "<table><colgroup></colgroup></table>"
    -- </colgroup>
    ∷ body_row "<table><colgroup></colgroup>" "<table><colgroup></colgroup></table>"
    -- </template>
    ∷ row "<template><colgroup></template>" "<html><head><template><colgroup></colgroup></template></head><body></body></html>"
    -- <col>; end of input; "in template", <col>
    ∷ row "<template><col>" "<html><head><template><col></template></head><body></body></html>"
    -- <html>
    ∷ row "<template><COlgroUp><html>" "<html><head><template><colgroup></colgroup></template></head><body></body></html>"
    -- <template>; reset InColumnGroup
    ∷ row "<template><colgroup><template>"
    "<html><head><template><colgroup><template></template></colgroup></template></head><body></body></html>"
    -- comment
    ∷ body_row "<table><colgroup><!" "<table><colgroup><!----></colgroup></table>"
    -- else
    ∷ body_row "<table><colgroup>'" "'<table><colgroup></colgroup></table>"
    -- else err
    ∷ row "<template><col>>" "<html><head><template><col></template></head><body></body></html>"
    -- space
    ∷ body_row "<table><col> " "<table><colgroup><col> </colgroup></table>"
    -- the "in row" insertion mode
    -- </body .. th>
    ∷ body_row "<table><tr></html>" "<table><tbody><tr></tr></tbody></table>"
    -- </tbody tfoot thead>
    ∷ body_row "<tAble><td></tbody>" "<table><tbody><tr><td></td></tr></tbody></table>"
    -- </tbody tfoot thead> err
    ∷ row "<template><TR></tfoot>" "<html><head><template><tr></tr></template></head><body></body></html>"
    -- </tr>
    ∷ body_row "<table><tr></tr>" "<table><tbody><tr></tr></tbody></table>"
    -- </tr> err
    ∷ row "<template><td><tr></tr>" "<html><head><template><td></td></template></head><body></body></html>"
    -- <caption .. tr>; "in table body", <caption .. thead> </table> err
    ∷ row "<template><Tr><COL>" "<html><head><template><tr></tr></template></head><body></body></html>"
    -- <caption .. tr> </table> err
    ∷ row "<template><td><thead>" "<html><head><template><td></td></template></head><body></body></html>"
    -- else; "in table body", <tr>
    ∷ body_row "<table><tr>" "<table><tbody><tr></tr></tbody></table>"
    -- the "in table" insertion mode
    -- </body .. tr>
    ∷ body_row "<table></html>" "<table></table>"
    -- </table>
    ∷ body_row "<table></table>" "<table></table>"
    -- </template>
    ∷ body_row "<table></template>" "<table></table>"
    -- <col>
    ∷ body_row "<table><col>" "<table><colgroup><col></colgroup></table>"
    -- <colgroup>
    ∷ body_row "<table><colgroup>" "<table><colgroup></colgroup></table>"
    -- <form>; <form> put
    ∷ body_row "<table><form>" "<table><form></form></table>"
    -- <input>
    ∷ body_row "<table><input>" "<input><table></table>"
    -- <input> hidden
    ∷ body_row "<table><input type=\"HIDDEN\">" "<table><input type=\"HIDDEN\"></table>"
    -- <style script template>
    ∷ body_row "<table><script>" "<table><script></script></table>"
    -- <table>; <table> in scope
    ∷ body_row "<table><table>" "<table></table><table></table>"
    -- <table> not in scope
    ∷ row "<template><tfoot><table>" "<html><head><template><tfoot></tfoot></template></head><body></body></html>"
    -- <tbody tfoot thead>; "in table body", else
    ∷ body_row "<table><tHEaD>" "<table><thead></thead></table>"
    -- NUL, current in foster; "in table text", NUL; "in table text", nothing kept
    ∷ body_row_of (codes "<table>" ++ 0 ∷ []) (codes "<table></table>")
    -- NUL, else
    ∷ row_of (codes "<template><Tr><t>" ++ 0 ∷ []) (codes "<html><head><template><tr></tr><t></t></template></head><body></body></html>")
    -- comment
    ∷ body_row "<table><!" "<table><!----></table>"
    -- else end
    ∷ body_row "<table></m>" "<table></table>"
    -- else start
    ∷ body_row "<table><h>" "<h></h><table></table>"
    -- text, current in foster; "in table text", fostered; "in table text", text
    ∷ body_row "<table>n" "n<table></table>"
    -- text, else
    ∷ body_row "<TAblE><h>/" "<h>/</h><table></table>"
    -- the "in table body" insertion mode
    -- </body .. tr>
    ∷ body_row "<table><tfoot></html>" "<table><tfoot></tfoot></table>"
    -- </tbody tfoot thead>
    ∷ body_row "<table><tbody></tbody>" "<table><tbody></tbody></table>"
    -- </tbody tfoot thead> err
    ∷ body_row "<table><thead></tbody>" "<table><thead></thead></table>"
    -- <caption .. thead>
    ∷ body_row "<table><thead><col>" "<table><thead></thead><colgroup><col></colgroup></table>"
    -- the "in table text" insertion mode
    -- all white space
    ∷ body_row_of (codes "<table>" ++ 10 ∷ codes "<e") (codes "<table>" ++ 10 ∷ codes "</table>")
    -- place before the table; place foster table
    ∷ body_row "<table>>" "&gt;<table></table>"
    -- place foster template
    ∷ row "<template><Tr><" "<html><head><template><tr></tr>&lt;</template></head><body></body></html>"
    ∷ []

abbrev pub AreTableRowsRead : Type 0
AreTableRowsRead = AreRead table_rows
