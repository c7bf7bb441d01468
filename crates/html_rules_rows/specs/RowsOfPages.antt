-- Worked rows: whole pages.
use Rattle.std.specs.Prelude.{[], ◌∷◌, ◌++◌, codes}
use Rattle.html_rules_rows.specs.RowForms.{Rows, AreRead, row, body_row, page_row, page_row_of}

abbrev pub page_rows : Rows
page_rows =
    -- what is missing is there all the same
    body_row "" ""
    ∷ page_row "<p>a<br>b" "<p>a<br>b</p>"
    ∷ row "<meta charset=\"UTF-8\" /><meta charset=\"UTF-8\" /> other stuff"
    "<html><head><meta charset=\"UTF-8\"><meta charset=\"UTF-8\"> </head><body>other stuff</body></html>"
    ∷ row "<!DOCTYPE html><title>&lt;/title></title><a href=\"x&amp;y\">z"
    "<!DOCTYPE html><html><head><title>&lt;/title&gt;</title></head><body><a href=\"x&amp;y\">z</a></body></html>"
    -- misnested formatting elements
    ∷ body_row "<p>1<b>2<i>3</b>4</i>5</p>" "<p>1<b>2<i>3</i></b><i>4</i>5</p>"
    ∷ page_row "<b>1<p>2</b>3</p>" "<b>1</b><p><b>2</b>3</p>"
    ∷ page_row "<a>1<a>2" "<a>1</a><a>2</a>"
    ∷ page_row "<p><b><b><b><b>x</b></b></b></b>" "<p><b><b><b><b>x</b></b></b></b></p>"
    ∷ page_row "<p><b><b><b><b>x<p>y" "<p><b><b><b><b>x</b></b></b></b></p><p><b><b><b>y</b></b></b></p>"
    ∷ page_row "<b><i><em><code><u><p>x</b>" "<b><i><em><code><u></u></code></em></i></b><em><code><u><p><b>x</b></p></u></code></em>"
    -- blocks, headings and lists
    ∷ page_row "<p>a<h1>b<h2>c" "<p>a</p><h1>b</h1><h2>c</h2>"
    ∷ page_row "<ul><li>a<li>b</ul>" "<ul><li>a</li><li>b</li></ul>"
    ∷ page_row "a</br x=y>b" "a<br>b"
    -- a line feed that is dropped
    ∷ page_row_of (codes "<textarea>" ++ 10 ∷ codes "x</textarea>") (codes "<textarea>x</textarea>")
    ∷ page_row "<pre>&#10x</pre>" "<pre>x</pre>"
    -- comments after the body
    ∷ row "<!DOCTYPE html></body><!--c--></html><!--d-->" "<!DOCTYPE html><html><head></head><body></body><!--c--></html><!--d-->"
    ∷ page_row "<p>a</p><!--c-->" "<p>a</p><!--c-->"
    -- U+0000 and a carriage return
    ∷ page_row_of (codes "<p>a" ++ 0 ∷ codes "b") (codes "<p>ab</p>")
    ∷ page_row_of (codes "<p>&#13;") (codes "<p>" ++ 13 ∷ codes "</p>")
    -- tables
    ∷ page_row "<table>x<tr><td>y</table>" "x<table><tbody><tr><td>y</td></tr></tbody></table>"
    ∷ page_row "<table> <tr> <td>1</td></tr></table>" "<table> <tbody><tr> <td>1</td></tr></tbody></table>"
    ∷ page_row "<table><tr><td><b>1</table>2" "<table><tbody><tr><td><b>1</b></td></tr></tbody></table>2"
    ∷ page_row "<table><b>1<tr><td>2" "<b>1</b><table><tbody><tr><td>2</td></tr></tbody></table>"
    ∷ page_row "<table> x<tr>" " x<table><tbody><tr></tr></tbody></table>"
    ∷ page_row "<table><tr><td><!-- c --></table>" "<table><tbody><tr><td><!-- c --></td></tr></tbody></table>"
    -- templates
    ∷ row "<!DOCTYPE html><template><p>a" "<!DOCTYPE html><html><head><template><p>a</p></template></head><body></body></html>"
    ∷ row "<!DOCTYPE html><template><tr><td>a</template>b"
    "<!DOCTYPE html><html><head><template><tr><td>a</td></tr></template></head><body>b</body></html>"
    -- foreign content
    ∷ page_row "<svg><![CDATA[a<b]]></svg>" "<svg>a&lt;b</svg>"
    ∷ page_row "<svg viewbox=\"0\"><foreignobject>a</foreignobject><circle/></svg>b"
    "<svg viewBox=\"0\"><foreignObject>a</foreignObject><circle></circle></svg>b"
    ∷ page_row "<svg><p>a" "<svg></svg><p>a</p>"
    ∷ page_row_of (codes "<svg>a" ++ 0 ∷ []) (codes "<svg>a" ++ 0xFFFD ∷ codes "</svg>")
    -- framesets
    ∷ row "<!DOCTYPE html><frameset><frame></frameset>" "<!DOCTYPE html><html><head></head><frameset><frame></frameset></html>"
    ∷ row "<!DOCTYPE html><p><frameset>" "<!DOCTYPE html><html><head></head><frameset></frameset></html>"
    ∷ page_row "a<frameset>" "a"
    -- pages that are written as they are read
    ∷ row "<!DOCTYPE html><html><head> <title></title></head> <body><ul> <li>a</li></ul></body></html>"
    "<!DOCTYPE html><html><head> <title></title></head> <body><ul> <li>a</li></ul></body></html>"
    ∷
    row
    "<!DOCTYPE html><html><head></head><body><p><a href=\"x\"><b>1</b></a></p><div><b><b><b><b>y</b></b></b></b>z</div></body></html>"
    "<!DOCTYPE html><html><head></head><body><p><a href=\"x\"><b>1</b></a></p><div><b><b><b><b>y</b></b></b></b>z</div></body></html>"
    ∷ []

abbrev pub ArePageRowsRead : Type 0
ArePageRowsRead = AreRead page_rows
