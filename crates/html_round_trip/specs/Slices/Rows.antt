-- Worked rows of reading written forms back.
use Rattle.std.specs.Prelude.{◌≡◌, ℕ, Bool, true, false, List, [], ◌∷◌, ◌++◌, map, codes}
use Rattle.markup.specs.Escape.{escape, start_tag, end_tag, written_comment, written_doctype}
use Rattle.html_tokens.specs.Clean.{is_clean_reading}
use Rattle.html_tokens.specs.Listing.{empty, step}
use Rattle.html_tokens.specs.RowForms.{Rows, AreRead, row_of, text, text_of, null, comment, comment_of, at, at_of, start, end}
use Rattle.html_tokens.specs.RowForms.{repeated, doctype, yes, no, raw_text, data_stand, five}

-- each written form, and its token
abbrev pub form_rows : Rows
form_rows =
    row_of (written_doctype (codes "html")) (doctype (yes "html") no no ∷ [])
    ∷ row_of (start_tag (codes "p") []) (start "p" [] ∷ [])
    ∷ row_of (start_tag (codes "h1") (at "id" "" ∷ at "data-1" "x y" ∷ [])) (start "h1" (at "id" "" ∷ at "data-1" "x y" ∷ []) ∷ [])
    ∷ row_of (start_tag (codes "a") (at_of (codes "href") (codes "?a=\"1\"&b=<2>&amp;" ++ 0xA0 ∷ 10 ∷ []) ∷ []))
    (start "a" (at_of (codes "href") (codes "?a=\"1\"&b=<2>&amp;" ++ 0xA0 ∷ 10 ∷ []) ∷ []) ∷ [])
    ∷ row_of (end_tag (codes "h1")) (end "h1" [] ∷ [])
    ∷ row_of (escape (codes "a < b && c > \"d\" &lt;")) (text "a < b && c > \"d\" &lt;" ∷ [])
    ∷ row_of (escape (0xA0 ∷ 10 ∷ 0x1F600 ∷ [])) (text_of (0xA0 ∷ 10 ∷ 0x1F600 ∷ []) ∷ [])
    ∷ row_of (written_comment []) (comment "" ∷ [])
    ∷ row_of (written_comment (codes " c&amp;\"! " ++ 0xA0 ∷ 10 ∷ [])) (comment_of (codes " c&amp;\"! " ++ 0xA0 ∷ 10 ∷ []) ∷ [])
    -- in the text of a title tags are text, written or not
    ∷ row_of (start_tag (codes "title") [] ++ escape (codes "a<b></titl>&") ++ end_tag (codes "title"))
    (start "title" [] ∷ text "a<b></titl>&" ∷ end "title" [] ∷ [])
    ∷ row_of (written_doctype (codes "html") ++ start_tag (codes "p") (at "class" "\"" ∷ [])
    ++ escape (codes "1 & 2") ++ end_tag (codes "p"))
    (doctype (yes "html") no no ∷ start "p" (at "class" "\"" ∷ []) ∷ text "1 & 2" ∷ end "p" [] ∷ [])
    ∷ []

abbrev pub AreFormRowsRead : Type 0
AreFormRowsRead = AreRead five raw_text false data_stand form_rows

-- what is written with something that no law takes, and what it is read as instead
abbrev pub odd_rows : Rows
odd_rows =
    -- an upper-case letter in a tag's name, and in an attribute's
    row_of (start_tag (codes "P") []) (start "p" [] ∷ [])
    ∷ row_of (start_tag (codes "p") (at "ID" "" ∷ [])) (start "p" (at "id" "" ∷ []) ∷ [])
    -- a name that begins with a digit, and an empty one
    ∷ row_of (start_tag (codes "1") []) (text "<1>" ∷ [])
    ∷ row_of (start_tag (codes "p") (at "" "x" ∷ [])) (start "p" (at "=\"x\"" "" ∷ []) ∷ [])
    -- two attributes of one name
    ∷ row_of (start_tag (codes "p") (at "id" "1" ∷ at "id" "2" ∷ [])) (repeated (start "p" (at "id" "1" ∷ [])) ∷ [])
    -- U+0000 and U+000D
    ∷ row_of (escape (codes "a" ++ 0 ∷ [])) (text "a" ∷ null ∷ [])
    ∷ row_of (start_tag (codes "p") (at_of (codes "id") (0 ∷ []) ∷ [])) (start "p" (at_of (codes "id") (0xFFFD ∷ []) ∷ []) ∷ [])
    ∷ row_of (escape (codes "a" ++ 13 ∷ codes "b")) (text_of (codes "a" ++ 10 ∷ codes "b") ∷ [])
    -- comments that end before their end, U+0000 in one
    ∷ row_of (written_comment (codes ">a")) (comment "" ∷ text "a-->" ∷ [])
    ∷ row_of (written_comment (codes "a-->b")) (comment "a" ∷ text "b-->" ∷ [])
    ∷ row_of (written_comment (codes "a--!>b")) (comment "a" ∷ text "b-->" ∷ [])
    ∷ row_of (written_comment (0 ∷ [])) (comment_of (0xFFFD ∷ []) ∷ [])
    ∷ []

abbrev pub AreOddRowsRead : Type 0
AreOddRowsRead = AreRead five raw_text false data_stand odd_rows

-- whether a text is read without anything that is not clean, over a sink that lists tokens
abbrev pub is_clean : List ℕ → Bool
is_clean t = is_clean_reading (step raw_text) (λ s token. true) (λ s. false) five data_stand 0 (empty false) t

-- each form is clean
abbrev pub AreFormRowsClean : Type 0
AreFormRowsClean = map (λ r. is_clean r.0) form_rows ≡ map (λ r. true) form_rows
