-- Worked rows: comments, bogus comments and CDATA sections.
use Rattle.std.specs.Prelude.{true, false, [], ◌∷◌, ◌++◌, codes}
use Rattle.html_tokens.specs.RowForms.{Rows, AreRead, row, row_of, text, null, comment, comment_of, start, end, goes_on, data_stand, five}

abbrev pub comment_rows : Rows
comment_rows =
    row "<!--a--!>b<!-->c<!--->d" (comment "a" ∷ text "b" ∷ comment "" ∷ text "c" ∷ comment "" ∷ text "d" ∷ [])
    ∷ row "<!---->a<!----!>b<!----->c" (comment "" ∷ text "a" ∷ comment "" ∷ text "b" ∷ comment "-" ∷ text "c" ∷ [])
    ∷ row "<!--a--b--><!--a->b--><!--a>b-->" (comment "a--b" ∷ comment "a->b" ∷ comment "a>b" ∷ [])
    ∷ row "<!--a--!b--><!--a--!--><!--a---><!--a---!>" (comment "a--!b" ∷ comment "a--!" ∷ comment "a-" ∷ comment "a-" ∷ [])
    ∷ row "<!-- <!-- x --> y -->" (comment " <!-- x " ∷ text " y -->" ∷ [])
    ∷ row "<!--<!--><!--<!-x--><!--<a-->" (comment "<!" ∷ comment "<!-x" ∷ comment "<a" ∷ [])
    ∷ row "<!---!>a-->" (comment "-!>a" ∷ [])
    ∷ row "<!--&amp;<b>-->" (comment "&amp;<b>" ∷ [])
    ∷ row_of (codes "<!--a" ++ 0 ∷ 13 ∷ 10 ∷ codes "b-->") (comment_of (codes "a" ++ 0xFFFD ∷ 10 ∷ codes "b") ∷ [])
    -- ends of input
    ∷ row "<!--" (comment "" ∷ [])
    ∷ row "<!---" (comment "" ∷ [])
    ∷ row "<!----" (comment "" ∷ [])
    ∷ row "<!----!" (comment "" ∷ [])
    ∷ row "<!--a" (comment "a" ∷ [])
    ∷ row "<!--a-" (comment "a" ∷ [])
    ∷ row "<!--a--" (comment "a" ∷ [])
    ∷ row "<!--a--!" (comment "a" ∷ [])
    ∷ row "<!--a---" (comment "a-" ∷ [])
    ∷ row "<!--a--!-" (comment "a--!" ∷ [])
    ∷ row "<!--a<!" (comment "a<!" ∷ [])
    -- bogus comments
    ∷ row "</>x</ a><?b?><!c>y</" (text "x" ∷ comment " a" ∷ comment "?b?" ∷ comment "c" ∷ text "y</" ∷ [])
    ∷ row "<!><!-a><!doctyp><!ELEMENT a>" (comment "" ∷ comment "-a" ∷ comment "doctyp" ∷ comment "ELEMENT a" ∷ [])
    ∷ row "</1></!x></?x><//></-->" (comment "1" ∷ comment "!x" ∷ comment "?x" ∷ comment "/" ∷ comment "--" ∷ [])
    ∷ row "<?xml version=\"1\"?>a" (comment "?xml version=\"1\"?" ∷ text "a" ∷ [])
    ∷ row_of (codes "</" ++ 0 ∷ codes "><?" ++ 0 ∷ codes "><!" ++ 0 ∷ codes ">")
    (comment_of (0xFFFD ∷ []) ∷ comment_of (codes "?" ++ 0xFFFD ∷ []) ∷ comment_of (0xFFFD ∷ []) ∷ [])
    ∷ row "<!" (comment "" ∷ [])
    ∷ row "<!-" (comment "-" ∷ [])
    ∷ row "<!a" (comment "a" ∷ [])
    ∷ row "<?" (comment "?" ∷ [])
    ∷ row "</ a" (comment " a" ∷ [])
    -- without leave a CDATA section is a bogus comment
    ∷ row "<![CDATA[a]]]>b" (comment "[CDATA[a]]]" ∷ text "b" ∷ [])
    ∷ row "<![cdata[a]]>" (comment "[cdata[a]]" ∷ [])
    ∷ []

abbrev pub AreCommentRowsRead : Type 0
AreCommentRowsRead = AreRead five goes_on false data_stand comment_rows

abbrev pub cdata_rows : Rows
cdata_rows =
    row "<![CDATA[a]]]>b" (text "a]b" ∷ [])
    ∷ row "<svg><![CDATA[a<b]]></svg>" (start "svg" [] ∷ text "a<b" ∷ end "svg" [] ∷ [])
    ∷ row "x<![CDATA[y&amp;]]>&amp;<b>" (text "xy&amp;&" ∷ start "b" [] ∷ [])
    ∷ row "<![CDATA[]]>" []
    ∷ row "<![CDATA[a]>b]] >c]]>" (text "a]>b]] >c" ∷ [])
    ∷ row_of (codes "<![CDATA[a" ++ 0 ∷ codes "b]]>") (text "a" ∷ null ∷ text "b" ∷ [])
    ∷ row "<![CDATA[a" (text "a" ∷ [])
    ∷ row "<![CDATA[a]" (text "a]" ∷ [])
    ∷ row "<![CDATA[a]]" (text "a]]" ∷ [])
    ∷ row "<![cdata[a]]><![CDATA" (comment "[cdata[a]]" ∷ comment "[CDATA" ∷ [])
    ∷ []

abbrev pub AreCdataRowsRead : Type 0
AreCdataRowsRead = AreRead five goes_on true data_stand cdata_rows
