-- Worked rows: templates, and the modes that are reset.
use Rattle.std.specs.Prelude.{[], ◌∷◌, ◌++◌, codes}
use Rattle.html_rules_rows.specs.RowForms.{Rows, AreRead, row, row_of, body_row}

abbrev pub template_rows : Rows
template_rows =
    -- the "in template" insertion mode
    -- <base .. title>; reset template
    row "<template><template>" "<html><head><template><template></template></template></head><body></body></html>"
    -- <caption colgroup tbody tfoot thead>
    ∷ row "<template><caption>" "<html><head><template><caption></caption></template></head><body></body></html>"
    -- <td th>
    ∷ row "<template><td>" "<html><head><template><td></td></template></head><body></body></html>"
    -- <tr>
    ∷ row "<template><tr>" "<html><head><template><tr></tr></template></head><body></body></html>"
    -- comment
    ∷ row "<template></<" "<html><head><template><!--<--></template></head><body></body></html>"
    -- else NUL
    ∷ row_of (codes "<template>" ++ 0 ∷ []) (codes "<html><head><template></template></head><body></body></html>")
    -- else end
    ∷ row "<template></s>" "<html><head><template></template></head><body></body></html>"
    -- text; place template contents
    ∷ row "<template>#" "<html><head><template>#</template></head><body></body></html>"
    -- reset AfterHead
    ∷ row "<head></head><html><template>" "<html><head><template></template></head><body></body></html>"
    -- reset InCaption
    ∷ row "<template><caption><template>"
    "<html><head><template><caption><template></template></caption></template></head><body></body></html>"
    -- reset InCell
    ∷ body_row "<table><td><template>" "<table><tbody><tr><td><template></template></td></tr></tbody></table>"
    -- reset InHead
    ∷ row "<template>" "<html><head><template></template></head><body></body></html>"
    -- reset InRow
    ∷ body_row "<table><td></td><template>" "<table><tbody><tr><td></td><template></template></tr></tbody></table>"
    -- reset InTable
    ∷ body_row "<table><template>" "<table><template></template></table>"
    -- reset InTableBody
    ∷ row "<template><thead><template>" "<html><head><template><thead><template></template></thead></template></head><body></body></html>"
    -- reset not HTML
    ∷ body_row "<math><annotation-xml encoding=text/html><template>"
    "<math><annotation-xml encoding=\"text/html\"><template></template></annotation-xml></math>"
    ∷ []

abbrev pub AreTemplateRowsRead : Type 0
AreTemplateRowsRead = AreRead template_rows
