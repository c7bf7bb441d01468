-- Worked rows: texts that are read without anything that is not clean, and without an error of the rules; and texts that are not.
use Prim.Native.String.{String}
use Rattle.std.specs.Prelude.{◌≡◌, ℕ, Bool, true, false, List, [], ◌∷◌, map, codes}
use Rattle.markup.specs.Forest.{empty_forest}
use Rattle.html_tokens.specs.NormalText.{normal_text}
use Rattle.html_tokens.specs.RowForms.{five}
use Rattle.html_rules.specs.Documents.{before_document, is_quiet_text, stand_of}
use Rattle.html_rules_rows.specs.RowForms.{default_options, default_setting}

abbrev is_quiet : List ℕ → Bool
is_quiet text = is_quiet_text five (stand_of default_options) (before_document default_setting empty_forest) (normal_text true text)

abbrev quiet : String → List ℕ × Bool
quiet text = (codes text, true)

abbrev loud : String → List ℕ × Bool
loud text = (codes text, false)

abbrev pub quiet_rows : List (List ℕ × Bool)
quiet_rows =
    quiet "<!DOCTYPE html><html><head> <title>a&lt;b</title></head> <body><ul> <li>a</li></ul></body></html>"
    ∷
    quiet
    "<!DOCTYPE html><html><head></head><body><p><a href=\"x\"><b>1</b></a></p><div><b><b><b><b>y</b></b></b></b>z</div></body></html>"
    ∷
    quiet
    "<!DOCTYPE html><html><head></head><body><h1>a</h1><table> <tbody><tr> <td>1</td><th>2</th></tr></tbody></table><ol><li>b<br>c</li></ol></body></html>"
    -- tags that are left out, where the rules allow that
    ∷ quiet "<!DOCTYPE html><title>a</title><p>a<p>b<ul><li>c<li>d</ul>"
    ∷ quiet "<!DOCTYPE html><table><tr><td>a<td>b<tr><td>c</table>"
    ∷ quiet "<!DOCTYPE html>"
    -- comments, wherever they stand
    ∷ quiet "<!DOCTYPE html><!--a--><html><!----><head><!--b--></head><body>c<!-- d&e --><ul><!--f--></ul></body><!--g--></html><!--h-->"
    -- errors of the rules: no doctype, misnested tags, text in a table, an end tag of nothing
    ∷ loud "<p>a"
    ∷ loud "<!DOCTYPE html><p>1<b>2</p>3</b>"
    ∷ loud "<!DOCTYPE html><table>a</table>"
    ∷ loud "<!DOCTYPE html></p>"
    ∷ loud "<!DOCTYPE html><div>"
    ∷ loud "<!DOCTYPE html><div/></div>"
    -- what is not clean: a value without quotes, "&" as text, a hyphen in a comment
    ∷ loud "<!DOCTYPE html><p class=a>b"
    ∷ loud "<!DOCTYPE html>a & b"
    ∷ loud "<!DOCTYPE html><!--a-b-->"
    ∷ []

abbrev pub AreQuietRowsRead : Type 0
AreQuietRowsRead = map (λ r. is_quiet r.0) quiet_rows ≡ map (λ r. r.1) quiet_rows
