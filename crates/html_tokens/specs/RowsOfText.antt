-- Worked rows: normalised text, U+0000 and character references in text.
use Rattle.std.specs.Prelude.{false, List, [], ◌∷◌, ◌++◌, codes, Some}
use Rattle.html_tokens.specs.Table.{Row}
use Rattle.html_tokens.specs.RowForms.{Rows, AreRead, row, row_of, text, text_of, null, start, at, at_of, goes_on, data_stand, value, five}

abbrev pub text_rows : Rows
text_rows =
    -- a byte order mark is dropped at the front of the stream alone, and CR LF and CR are LF
    row_of (0xFEFF ∷ codes "a" ++ 13 ∷ 10 ∷ 0xFEFF ∷ codes "b") (text_of (codes "a" ++ 10 ∷ 0xFEFF ∷ codes "b") ∷ [])
    ∷ row_of (0xFEFF ∷ 0xFEFF ∷ codes "a") (text_of (0xFEFF ∷ codes "a") ∷ [])
    ∷ row_of (codes "a" ++ 0xFEFF ∷ []) (text_of (codes "a" ++ 0xFEFF ∷ []) ∷ [])
    ∷ row_of (13 ∷ 13 ∷ 10 ∷ 10 ∷ 13 ∷ []) (text_of (10 ∷ 10 ∷ 10 ∷ 10 ∷ []) ∷ [])
    ∷ row_of (codes "a" ++ 13 ∷ codes "b") (text_of (codes "a" ++ 10 ∷ codes "b") ∷ [])
    -- U+0000 is a token of its own
    ∷ row_of (codes "a" ++ 0 ∷ codes "b") (text "a" ∷ null ∷ text "b" ∷ [])
    ∷ row_of (0 ∷ 0 ∷ []) (null ∷ null ∷ [])
    -- "<" that opens nothing
    ∷ row "a<" (text "a<" ∷ [])
    ∷ row "a</" (text "a</" ∷ [])
    ∷ row "1 < 2 <3 a<=b <>" (text "1 < 2 <3 a<=b <>" ∷ [])
    ∷ row_of (codes "<" ++ 0xE9 ∷ codes ">") (text_of (codes "<" ++ 0xE9 ∷ codes ">") ∷ [])
    ∷ row_of (codes "<" ++ 0 ∷ []) (text "<" ∷ null ∷ [])
    ∷ row "" []
    -- numeric references
    ∷ row "&#x80;&#0;&#xD800;&#x110000;&#13x&#x;" (text_of (0x20AC ∷ 0xFFFD ∷ 0xFFFD ∷ 0xFFFD ∷ 13 ∷ codes "x&#x;") ∷ [])
    ∷ row "&#65;&#x41;&#X4a;&#x4A;&#65&#x41" (text "AAJJAA" ∷ [])
    ∷ row "&#;&#x;&#xg&#&" (text "&#;&#x;&#xg&#&" ∷ [])
    ∷ row "&#1114111;&#x10FFFF;&#1114112;" (text_of (0x10FFFF ∷ 0x10FFFF ∷ 0xFFFD ∷ []) ∷ [])
    ∷ row "&#xD7FF;&#xDFFF;&#xE000;" (text_of (0xD7FF ∷ 0xFFFD ∷ 0xE000 ∷ []) ∷ [])
    ∷ row "&#99999999999999999999999999;" (text_of (0xFFFD ∷ []) ∷ [])
    ∷ row "&#10;&#13;&#1;&#127;" (text_of (10 ∷ 13 ∷ 1 ∷ 127 ∷ []) ∷ [])
    ∷ row "&#0x;" (text_of (0xFFFD ∷ codes "x;") ∷ [])
    ∷ row "&#128;&#129;&#130;&#131;&#132;&#133;&#134;&#135;&#136;&#137;&#138;&#139;&#140;&#141;&#142;&#143;"
    (text_of (0x20AC ∷ 0x81 ∷ 0x201A ∷ 0x0192 ∷ 0x201E ∷ 0x2026 ∷ 0x2020 ∷ 0x2021 ∷ 0x02C6 ∷ 0x2030 ∷ 0x0160 ∷
    0x2039 ∷ 0x0152 ∷ 0x8D ∷ 0x017D ∷ 0x8F ∷ []) ∷ [])
    ∷ row "&#144;&#145;&#146;&#147;&#148;&#149;&#150;&#151;&#152;&#153;&#154;&#155;&#156;&#157;&#158;&#159;"
    (text_of (0x90 ∷ 0x2018 ∷ 0x2019 ∷ 0x201C ∷ 0x201D ∷ 0x2022 ∷ 0x2013 ∷ 0x2014 ∷ 0x02DC ∷ 0x2122 ∷ 0x0161 ∷
    0x203A ∷ 0x0153 ∷ 0x9D ∷ 0x017E ∷ 0x0178 ∷ []) ∷ [])
    -- named references
    ∷ row "&amp&amp;" (text "&amp&" ∷ [])
    ∷ row "&lt;&gt;&quot;&nbsp;&apos;" (text_of (codes "<>\"" ++ 0xA0 ∷ codes "&apos;") ∷ [])
    ∷ row "& a &&amp;&lt" (text "& a &&&lt" ∷ [])
    ∷ row "&AMP;&Amp;" (text "&AMP;&Amp;" ∷ [])
    ∷ row "&lt;b&gt;" (text "<b>" ∷ [])
    ∷ row "&#60;b>" (text "<b>" ∷ [])
    ∷ []

abbrev pub AreTextRowsRead : Type 0
AreTextRowsRead = AreRead five goes_on false data_stand text_rows

-- a table in which one name begins another, and one name stands for two characters
abbrev pub not_table : List Row
not_table = value "not" 0xAC ∷ value "notin;" 0x2209 ∷ record { name = codes "acE;"; first = 0x223E; second = Some 0x333 } ∷ []

abbrev pub longest_rows : Rows
longest_rows =
    row "&notit;&notin;" (text_of (0xAC ∷ codes "it;" ++ 0x2209 ∷ []) ∷ [])
    ∷ row "&no" (text "&no" ∷ [])
    ∷ row "&not" (text_of (0xAC ∷ []) ∷ [])
    ∷ row "&not;&notin&no" (text_of (0xAC ∷ codes ";" ++ 0xAC ∷ codes "in&no") ∷ [])
    ∷ row "&acE;" (text_of (0x223E ∷ 0x333 ∷ []) ∷ [])
    -- in an attribute's value a name without ";" is text where it goes on
    ∷ row "<a b=\"&notit\" c=\"&not=\" d=\"&not\">" (start "a" (at "b" "&notit" ∷ at "c" "&not=" ∷ at_of (codes "d") (0xAC ∷ []) ∷ []) ∷ [])
    ∷ row "<a b=&not c='&not;' d=&not1 e='&not x' f=&not>"
    (start "a" (at_of (codes "b") (0xAC ∷ []) ∷ at_of (codes "c") (0xAC ∷ codes ";") ∷ at "d" "&not1" ∷
    at_of (codes "e") (0xAC ∷ codes " x") ∷ at_of (codes "f") (0xAC ∷ []) ∷ []) ∷ [])
    ∷ row "<a b='&notin;x' c='&acE;' d='&#65' e=&#65b f='&' g=&&>"
    (start "a" (at_of (codes "b") (0x2209 ∷ codes "x") ∷ at_of (codes "c") (0x223E ∷ 0x333 ∷ []) ∷ at "d" "A" ∷
    at "e" "Ab" ∷ at "f" "&" ∷ at "g" "&&" ∷ []) ∷ [])
    ∷ row "<a b='&#34;' c=&#62;>" (start "a" (at "b" "\"" ∷ at "c" ">" ∷ []) ∷ [])
    ∷ []

abbrev pub AreLongestRowsRead : Type 0
AreLongestRowsRead = AreRead not_table goes_on false data_stand longest_rows

abbrev pub AreUntabledRowsRead : Type 0
AreUntabledRowsRead = AreRead [] goes_on false data_stand (row "&amp;&#38;" (text "&amp;&" ∷ []) ∷ [])
