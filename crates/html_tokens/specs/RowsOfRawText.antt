-- Worked rows: text of elements with raw text, the three modes of scripts, and plain text.
use Rattle.std.specs.Prelude.{ℕ, false, List, [], ◌∷◌, ◌++◌, codes, Option, Some, None}
use Rattle.html_tokens.specs.declared.states.RawKind.{RawKind}
use Rattle.html_tokens.specs.declared.states.RawKind.TheVariants.{Rcdata, Rawtext, ScriptData}
use Rattle.html_tokens.specs.Item.{InRaw, InPlaintext, Stand}
use Rattle.html_tokens.specs.RowForms.{Rows, AreRead, row, row_of, text, text_of, at, start, end, closed, raw_text, goes_on}
use Rattle.html_tokens.specs.RowForms.{data_stand, five}

abbrev pub raw_rows : Rows
raw_rows =
    row "<title>a</title" (start "title" [] ∷ text "a</title" ∷ [])
    ∷ row "<title>a</title " (start "title" [] ∷ text "a" ∷ [])
    ∷ row "<title>&lt;b&amp;<p></title>&lt;" (start "title" [] ∷ text "<b&<p>" ∷ end "title" [] ∷ text "<" ∷ [])
    ∷ row "<title></titlex></titl></ title></TITLE x=1 />"
    (start "title" [] ∷ text "</titlex></titl></ title>" ∷ closed (end "title" (at "x" "1" ∷ [])) ∷ [])
    ∷ row "<title><!--</title>-->" (start "title" [] ∷ text "<!--" ∷ end "title" [] ∷ text "-->" ∷ [])
    ∷ row "<Title>a</style></tITLE/>b" (start "title" [] ∷ text "a</style>" ∷ closed (end "title" []) ∷ text "b" ∷ [])
    ∷ row_of (codes "<title>" ++ 0 ∷ codes "</title" ++ 10 ∷ codes ">") (start "title" [] ∷ text_of (0xFFFD ∷ []) ∷ end "title" [] ∷ [])
    ∷ row "<style>&lt;</styl</STYLE >b" (start "style" [] ∷ text "&lt;</styl" ∷ end "style" [] ∷ text "b" ∷ [])
    ∷ row_of (codes "<style>" ++ 0 ∷ codes "<</style>") (start "style" [] ∷ text_of (0xFFFD ∷ codes "<") ∷ end "style" [] ∷ [])
    ∷ row "<style>a</" (start "style" [] ∷ text "a</" ∷ [])
    ∷ row_of (codes "<plaintext>&lt;</plaintext>" ++ 0 ∷ []) (start "plaintext" [] ∷ text_of (codes "&lt;</plaintext>" ++ 0xFFFD ∷ []) ∷ [])
    ∷ row "<p><title>a</title></p><title>b</title>"
    (start "p" [] ∷ start "title" [] ∷ text "a" ∷ end "title" [] ∷ end "p" [] ∷ start "title" [] ∷ text "b" ∷ end "title" [] ∷ [])
    ∷ []

abbrev pub AreRawRowsRead : Type 0
AreRawRowsRead = AreRead five raw_text false data_stand raw_rows

abbrev pub script_rows : Rows
script_rows =
    row "<script>a<b&lt;</p></script>x" (start "script" [] ∷ text "a<b&lt;</p>" ∷ end "script" [] ∷ text "x" ∷ [])
    -- escaped
    ∷ row "<script><!--</script>-->" (start "script" [] ∷ text "<!--" ∷ end "script" [] ∷ text "-->" ∷ [])
    ∷ row "<script><!--></script>" (start "script" [] ∷ text "<!-->" ∷ end "script" [] ∷ [])
    ∷ row "<script><!---><script></script>" (start "script" [] ∷ text "<!---><script>" ∷ end "script" [] ∷ [])
    ∷ row "<script><!--a--><script></script>" (start "script" [] ∷ text "<!--a--><script>" ∷ end "script" [] ∷ [])
    ∷ row "<script><!--a---><script></script>" (start "script" [] ∷ text "<!--a---><script>" ∷ end "script" [] ∷ [])
    ∷ row "<script><!-<script></script>" (start "script" [] ∷ text "<!-<script>" ∷ end "script" [] ∷ [])
    ∷ row "<script><!--<!--</SCRIPT/>" (start "script" [] ∷ text "<!--<!--" ∷ closed (end "script" []) ∷ [])
    ∷ row "<script><!--<scriptx></script>" (start "script" [] ∷ text "<!--<scriptx>" ∷ end "script" [] ∷ [])
    ∷ row "<script><!--<script</script>" (start "script" [] ∷ text "<!--<script" ∷ end "script" [] ∷ [])
    ∷ row "<script><!--<s></script>" (start "script" [] ∷ text "<!--<s>" ∷ end "script" [] ∷ [])
    -- escaped twice
    ∷ row "<script><!--<script></script>--></script>x"
    (start "script" [] ∷ text "<!--<script></script>-->" ∷ end "script" [] ∷ text "x" ∷ [])
    ∷ row "<script><!-- <script> --></script>" (start "script" [] ∷ text "<!-- <script> -->" ∷ end "script" [] ∷ [])
    ∷ row "<script><!-- -><script></script></script>" (start "script" [] ∷ text "<!-- -><script></script>" ∷ end "script" [] ∷ [])
    ∷ row "<script><!--<SCRIPT/</script>a</script>" (start "script" [] ∷ text "<!--<SCRIPT/</script>a" ∷ end "script" [] ∷ [])
    ∷ row "<script><!--<script ></SCRIPT/></script>" (start "script" [] ∷ text "<!--<script ></SCRIPT/>" ∷ end "script" [] ∷ [])
    ∷ row "<script><!--<script></scriptx></script></script>"
    (start "script" [] ∷ text "<!--<script></scriptx></script>" ∷ end "script" [] ∷ [])
    ∷ row "<script><!--<script><script></script></script>" (start "script" [] ∷ text "<!--<script><script></script>" ∷ end "script" [] ∷ [])
    ∷ row "<script><!--<script></script><script></script></script>"
    (start "script" [] ∷ text "<!--<script></script><script></script>" ∷ end "script" [] ∷ [])
    ∷ row "<script><!--<script>---></script>" (start "script" [] ∷ text "<!--<script>--->" ∷ end "script" [] ∷ [])
    ∷ row_of (codes "<script><!--<script" ++ 10 ∷ codes "</script" ++ 9 ∷ codes "</script>")
    (start "script" [] ∷ text_of (codes "<!--<script" ++ 10 ∷ codes "</script" ++ 9 ∷ []) ∷ end "script" [] ∷ [])
    -- U+0000 in each mode
    ∷ row_of (codes "<script>" ++ 0 ∷ codes "<!--" ++ 0 ∷ codes "<script>" ++ 0 ∷ codes "-->")
    (start "script" [] ∷ text_of (0xFFFD ∷ codes "<!--" ++ 0xFFFD ∷ codes "<script>" ++ 0xFFFD ∷ codes "-->") ∷ [])
    ∷ row_of (codes "<script><!--<script>-" ++ 0 ∷ codes "-></script></script>")
    (start "script" [] ∷ text_of (codes "<!--<script>-" ++ 0xFFFD ∷ codes "-></script>") ∷ end "script" [] ∷ [])
    -- ends of input
    ∷ row "<script>a</scrip" (start "script" [] ∷ text "a</scrip" ∷ [])
    ∷ row "<script>a<!-" (start "script" [] ∷ text "a<!-" ∷ [])
    ∷ row "<script><!--a-" (start "script" [] ∷ text "<!--a-" ∷ [])
    ∷ row "<script><!--a</script" (start "script" [] ∷ text "<!--a</script" ∷ [])
    ∷ row "<script><!--<script>a</script" (start "script" [] ∷ text "<!--<script>a</script" ∷ [])
    ∷ row "<script><!--<script></script" (start "script" [] ∷ text "<!--<script></script" ∷ [])
    ∷ []

abbrev pub AreScriptRowsRead : Type 0
AreScriptRowsRead = AreRead five raw_text false data_stand script_rows

-- where a reading stands in raw text from the beginning
abbrev pub raw_stand : RawKind → Option (List ℕ) → Stand
raw_stand kind last = record { place = InRaw kind; last_start_tag = last }

-- which end tag fits, by the name of the last start tag
abbrev pub AreEndRowsRead : Type 0
AreEndRowsRead =
    AreRead five goes_on false (raw_stand Rcdata None) (row "<b>&lt;</title>" (text "<b><</title>" ∷ []) ∷ [])
    × AreRead five goes_on false (raw_stand Rcdata (Some (codes "title")))
    (row "<b></title>&lt;<b>" (text "<b>" ∷ end "title" [] ∷ text "<" ∷ start "b" [] ∷ []) ∷ [])
    × AreRead five goes_on false (raw_stand Rawtext (Some (codes "TITLE"))) (row "&lt;</Title>" (text "&lt;" ∷ end "title" [] ∷ []) ∷ [])
    × AreRead five goes_on false (raw_stand Rawtext (Some (codes "h1"))) (row "a</h1></h>" (text "a</h1></h>" ∷ []) ∷ [])
    × AreRead five goes_on false (raw_stand Rawtext (Some [])) (row "a</></ >" (text "a</></ >" ∷ []) ∷ [])
    × AreRead five goes_on false (raw_stand ScriptData (Some (codes "b")))
    (row "<!--<script></b></script></b>" (text "<!--<script></b></script>" ∷ end "b" [] ∷ []) ∷ [])
    × AreRead five goes_on false (record { place = InPlaintext; last_start_tag = Some (codes "p") })
    (row "&lt;</p>" (text "&lt;</p>" ∷ []) ∷ [])
