-- Worked rows beside the law: texts of plain documents that are read as they stand, and texts of others that are not.
use Prim.Native.String.{String}
use Rattle.std.specs.Prelude.{◌≡◌, ℕ, Bool, true, false, ◌&&◌, List, [], ◌∷◌, ◌++◌, map, codes, Result, Ok, Err}
use Rattle.std.specs.Str.{bytes_eq}
use Rattle.markup.specs.Forest.{data_of, empty_forest, integration_point_of}
use Rattle.html_plain.specs.Grammar.{is_plain_forest}
use Rattle.html_plain.specs.Laws.{text_of}
use Rattle.html_rules.specs.Documents.{before_document, document, is_quiet_text, stand_of}
use Rattle.html_rules.specs.State.{State}
use Rattle.html_tokens.specs.RowForms.{five}
use Rattle.html_tokens.specs.Sink.{Refusal}
use Rattle.html_round_trip.specs.ReadBack.ReadBack.{default_opts, default_setting, document_trees}
use Rattle.html_round_trip.specs.ReadBack.States.{Around}

-- scripts run, and there are no shadow trees
abbrev usual : Around
usual = record {
  scripting = true;
  answers = record {
    integration_point = λ f n. integration_point_of (data_of f n);
    allows_shadow_roots = λ f n. true;
    attaches_shadow = λ f host template attributes. false;
  };
}

-- whether a document is written so, and whether it is judged plain
abbrev is_written_so : List ℕ → Result State Refusal → Bool
is_written_so text (Ok s) = bytes_eq (text_of true (document_trees s.forest)) text
is_written_so text (Err refusal) = false

abbrev is_judged_plain : Result State Refusal → Bool
is_judged_plain (Ok s) = is_plain_forest s.forest
is_judged_plain (Err refusal) = false

abbrev read_usually : List ℕ → Result State Refusal
read_usually text = document five (default_opts false) (default_setting usual) empty_forest text

-- whether a text writes itself, is plain, and is read without an error
abbrev reads_itself : List ℕ → Bool
reads_itself text = is_written_so text (read_usually text) && is_judged_plain (read_usually text)
    && is_quiet_text five (stand_of (default_opts false)) (before_document (default_setting usual) empty_forest) text

-- a page with that in its body
abbrev page : String → List ℕ
page body = codes "<!DOCTYPE html><html><head></head><body>" ++ codes body ++ codes "</body></html>"

abbrev plain_texts : List (List ℕ)
plain_texts =
    codes "<!DOCTYPE html><html><head></head><body></body></html>"
    ∷ codes "<!DOCTYPE html><html><head> <title></title></head> <body><ul> <li>a</li></ul></body></html>"
    ∷
    codes
    "<!DOCTYPE html><html lang=\"en\"><head id=\"h\"> <title class=\"t\">&lt;/title&gt;</title> </head><body data-1=\"\"></body></html>"
    ∷ page "<p>a<br>b</p>" ∷ page "<b>1</b><p><b>2</b>3</p>" ∷ page "<p>ab</p>"
    ∷ page "<p>&amp;lt; &amp;amp; &nbsp; \"</p><a href=\"?a=&quot;1&quot;&amp;amp;b=&lt;2&gt;\">z</a>"
    -- more than three equal formatting elements: the fourth drives out the first
    ∷ page "<p><a href=\"x\"><b>1</b></a></p><div><b><b><b><b>y</b></b></b></b>z</div>"
    ∷ page "<p><b>1<b>2<b>3<b>4</b>5</b>6</b>7</b>8</p><p>9</p>"
    ∷ page "<em>a<code>b<i>c</i></code></em>d<i>e</i>"
    -- text that waits in a table
    ∷ page "x<table><tbody><tr><td>y</td></tr></tbody></table>"
    ∷ page "<table> <tbody> <tr> <td>1</td> <th>2</th> </tr> </tbody> <tbody></tbody></table>z"
    ∷ page "<table><tbody><tr><td><table> <tbody><tr><th><b>1</b></th></tr></tbody></table></td></tr></tbody></table>"
    -- comments
    ∷ page "<!---->" ∷ page "a<!-- b &amp;\"! -->c<p>d</p><!--?x-->" ∷ page "<div>a<!---->b</div><ul><li><!--c--></li></ul>"
    ∷ page "<table><tbody><tr><td><!--d--><b>e</b><!--f--></td><th><!----></th></tr></tbody></table>"
    ∷ page "<h1>a</h1><h2>b<br></h2><ol><li><p>c</p><ul><li></li></ul></li> </ol><div><div></div></div>"
    ∷ []

-- texts of trees that are not plain, each of which is read as something else
abbrev odd_texts : List (List ℕ)
odd_texts =
    page "<p><p></p></p>" ∷ page "<p><div></div></p>" ∷ page "<a>1<a>2</a></a>" ∷ page "<h1><h2></h2></h1>"
    ∷ page "<table>x</table>" ∷ page "<table><tr></tr></table>" ∷ page "<br></br>" ∷ page "<b><p>1</b>2</p>"
    ∷ page "<li><div><li></li></div></li><li><li></li></li>" ∷ codes "<!DOCTYPE html><html><head>x</head><body></body></html>"
    ∷ (codes "<!DOCTYPE html><html><head></head><body>a" ++ 13 ∷ codes "</body></html>") ∷
    (codes "<!DOCTYPE html><html><head></head><body>a" ++ 0 ∷ codes "</body></html>")
    ∷ page "<!-->a-->" ∷ page "<!--a--!>b-->" ∷ page "<!--<!--a-->b-->" ∷
    (codes "<!DOCTYPE html><html><head></head><body><!--" ++ 13 ∷ codes "--></body></html>") ∷
    (codes "<!DOCTYPE html><html><head></head><body><!--" ++ 0 ∷ codes "--></body></html>")
    ∷ []

abbrev pub ArePlainTextsReadBack : Type 0
ArePlainTextsReadBack = map reads_itself plain_texts ≡ map (λ text. true) plain_texts

abbrev pub AreOddTextsReadOtherwise : Type 0
AreOddTextsReadOtherwise = map (λ text. is_written_so text (read_usually text)) odd_texts ≡ map (λ text. false) odd_texts
