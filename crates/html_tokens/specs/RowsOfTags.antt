-- Worked rows: tags and attributes.
use Rattle.std.specs.Prelude.{false, [], ◌∷◌, ◌++◌, codes}
use Rattle.html_tokens.specs.RowForms.{Rows, AreRead, row, row_of, text, comment, at, at_of, start, start_of, end, closed}
use Rattle.html_tokens.specs.RowForms.{repeated, goes_on, data_stand, five}

abbrev pub tag_rows : Rows
tag_rows =
    row "<A B=1 b=2 =c d>" (repeated (start "a" (at "b" "1" ∷ at "=c" "" ∷ at "d" "" ∷ [])) ∷ [])
    ∷ row "<a b=>c<a b=c/><a/ b/>"
    (start "a" (at "b" "" ∷ []) ∷ text "c" ∷ start "a" (at "b" "c/" ∷ []) ∷ closed (start "a" (at "b" "" ∷ [])) ∷ [])
    -- names
    ∷ row "<P></P><H1><a-B:c.1>" (start "p" [] ∷ end "p" [] ∷ start "h1" [] ∷ start "a-b:c.1" [] ∷ [])
    ∷ row "<a<b>" (start "a<b" [] ∷ [])
    ∷ row_of (codes "<a" ++ 0xC9 ∷ codes ">") (start_of (codes "a" ++ 0xC9 ∷ []) [] ∷ [])
    ∷ row_of (codes "<a" ++ 0 ∷ codes "b>") (start_of (codes "a" ++ 0xFFFD ∷ codes "b") [] ∷ [])
    -- white space in tags
    ∷ row_of (codes "<a" ++ 10 ∷ codes "b" ++ 9 ∷ codes "c" ++ 12 ∷ codes "d" ++ 13 ∷ codes "e >")
    (start "a" (at "b" "" ∷ at "c" "" ∷ at "d" "" ∷ at "e" "" ∷ []) ∷ [])
    -- "/" before ">"
    ∷ row "<a/><br /><a//><a b='c'/>"
    (closed (start "a" []) ∷ closed (start "br" []) ∷ closed (start "a" []) ∷ closed (start "a" (at "b" "c" ∷ [])) ∷ [])
    ∷ row "<a / ><a/b><a b/ c>" (start "a" [] ∷ start "a" (at "b" "" ∷ []) ∷ start "a" (at "b" "" ∷ at "c" "" ∷ []) ∷ [])
    ∷ row "<a b= /><a =/>" (start "a" (at "b" "/" ∷ []) ∷ closed (start "a" (at "=" "" ∷ [])) ∷ [])
    -- how an attribute ends: by white space, "/", ">", "=", a quote or the next attribute
    ∷ row "<a b='1' c=\"2\"d=3 e>" (start "a" (at "b" "1" ∷ at "c" "2" ∷ at "d" "3" ∷ at "e" "" ∷ []) ∷ [])
    ∷ row "<a b = 'x' c= y d =z e = >" (start "a" (at "b" "x" ∷ at "c" "y" ∷ at "d" "z" ∷ at "e" "" ∷ []) ∷ [])
    ∷ row "<a b c=d/e f/g>" (start "a" (at "b" "" ∷ at "c" "d/e" ∷ at "f" "" ∷ at "g" "" ∷ []) ∷ [])
    ∷ row "<a b='' c=\"\">" (start "a" (at "b" "" ∷ at "c" "" ∷ []) ∷ [])
    ∷ row "<a b='\"<>' c=\"'=/\">" (start "a" (at "b" "\"<>" ∷ at "c" "'=/" ∷ []) ∷ [])
    ∷ row "<a b=c\"d'e<f`=g>" (start "a" (at "b" "c\"d'e<f`=g" ∷ []) ∷ [])
    ∷ row "<a =><a ==><a ===b><a =b=c>"
    (start "a" (at "=" "" ∷ []) ∷ start "a" (at "=" "" ∷ []) ∷ start "a" (at "=" "=b" ∷ []) ∷ start "a" (at "=b" "c" ∷ []) ∷ [])
    ∷ row "<a b\"c='d'e <f>" (start "a" (at "b\"c" "d" ∷ at "e" "" ∷ at "<f" "" ∷ []) ∷ [])
    ∷ row "<a 'b' \"c\">" (start "a" (at "'b'" "" ∷ at "\"c\"" "" ∷ []) ∷ [])
    ∷ row "<a B=X dAtA-X='Y'>" (start "a" (at "b" "X" ∷ at "data-x" "Y" ∷ []) ∷ [])
    ∷ row "<a b='&amp;&lt;' c=&amp; d=\"&quot;\" e=&amp>" (start "a" (at "b" "&<" ∷ at "c" "&" ∷ at "d" "\"" ∷ at "e" "&amp" ∷ []) ∷ [])
    ∷ row_of (codes "<a " ++ 0 ∷ codes "=" ++ 0 ∷ codes " c" ++ 0 ∷ codes "='" ++ 0 ∷ codes "' d=\"" ++ 0 ∷
    codes "\">") (start_of (codes "a") (at_of (0xFFFD ∷ []) (0xFFFD ∷ []) ∷ at_of (codes "c" ++ 0xFFFD ∷ [])
    (0xFFFD ∷ []) ∷ at_of (codes "d") (0xFFFD ∷ []) ∷ []) ∷ [])
    ∷ row_of (codes "<a b='x" ++ 13 ∷ 10 ∷ codes "y'>") (start_of (codes "a") (at_of (codes "b") (codes "x" ++ 10 ∷ codes "y") ∷ []) ∷ [])
    -- attributes of one name
    ∷ row "<a b=1 B=2 b c b='3'>" (repeated (start "a" (at "b" "1" ∷ at "c" "" ∷ [])) ∷ [])
    -- end tags keep what they have
    ∷ row "</A b=c/>" (end "a" (at "b" "c/" ∷ []) ∷ [])
    ∷ row "</a b b/></a />" (repeated (closed (end "a" (at "b" "" ∷ []))) ∷ closed (end "a" []) ∷ [])
    -- a tag that the end of input cuts off
    ∷ row "a<b c" (text "a" ∷ [])
    ∷ row "a<b" (text "a" ∷ [])
    ∷ row "a</b" (text "a" ∷ [])
    ∷ row "<a " []
    ∷ row "<a/" []
    ∷ row "<a b=" []
    ∷ row "<a b= " []
    ∷ row "<a b=c" []
    ∷ row "<a b='" []
    ∷ row "<a b='c>" []
    ∷ row "<a b=\"c&amp" []
    ∷ row "<a b=''" []
    ∷ row "<a b =" []
    ∷ row "</a b " []
    -- after a tag comes data again
    ∷ row "<p>a&amp;b</p>c<!--d-->" (start "p" [] ∷ text "a&b" ∷ end "p" [] ∷ text "c" ∷ comment "d" ∷ [])
    ∷ []

abbrev pub AreTagRowsRead : Type 0
AreTagRowsRead = AreRead five goes_on false data_stand tag_rows
