-- Worked rows: doctypes.
use Rattle.std.specs.Prelude.{false, [], ◌∷◌, ◌++◌, codes, Some}
use Rattle.html_tokens.specs.RowForms.{Rows, AreRead, row, row_of, text, doctype, quirky, no, yes, goes_on, data_stand, five}

abbrev pub doctype_rows : Rows
doctype_rows =
    row "<!doctype HTML PUBLIC \"a\" 'b' c>" (doctype (yes "html") (yes "a") (yes "b") ∷ [])
    ∷ row "<!DOCTYPE html>x" (doctype (yes "html") no no ∷ text "x" ∷ [])
    ∷ row "<!DocTypehtml><!DOCTYPE  Ht-Ml  >" (doctype (yes "html") no no ∷ doctype (yes "ht-ml") no no ∷ [])
    ∷ row "<!DOCTYPE html PUBLIC \"a\">" (doctype (yes "html") (yes "a") no ∷ [])
    ∷ row "<!DOCTYPE html public 'A\"' \"B'\" >" (doctype (yes "html") (yes "A\"") (yes "B'") ∷ [])
    ∷ row "<!DOCTYPE html PUBLIC'a'\"b\"><!DOCTYPE html PUBLIC \"\" ''>"
    (doctype (yes "html") (yes "a") (yes "b") ∷ doctype (yes "html") (yes "") (yes "") ∷ [])
    ∷ row "<!doctype html SYSTEM 'about:legacy-compat'><!doctype html system\"\">"
    (doctype (yes "html") no (yes "about:legacy-compat") ∷ doctype (yes "html") no (yes "") ∷ [])
    ∷ row "<!DOCTYPE html SYSTEM \"a\" x 'y>z" (doctype (yes "html") no (yes "a") ∷ text "z" ∷ [])
    ∷ row "<!DOCTYPE html SYSTEM \"a\" x" (doctype (yes "html") no (yes "a") ∷ [])
    ∷ row "<!DOCTYPE html PUBLIC \"a\" \"b\" x" (doctype (yes "html") (yes "a") (yes "b") ∷ [])
    -- U+0000 and line breaks
    ∷ row_of (codes "<!DOCTYPE" ++ 10 ∷ 0 ∷ codes "H" ++ 13 ∷ codes "SYSTEM'" ++ 0 ∷ codes "'>")
    (doctype (Some (0xFFFD ∷ codes "h")) no (Some (0xFFFD ∷ [])) ∷ [])
    ∷ row_of (codes "<!DOCTYPE h PUBLIC \"" ++ 0 ∷ codes "\">") (doctype (yes "h") (Some (0xFFFD ∷ [])) no ∷ [])
    -- no name
    ∷ row "<!DOCTYPE>" (quirky no no no ∷ [])
    ∷ row "<!DOCTYPE  >" (quirky no no no ∷ [])
    -- another word after the name
    ∷ row "<!DOCTYPE html x>" (quirky (yes "html") no no ∷ [])
    ∷ row "<!DOCTYPE html x \"a>b" (quirky (yes "html") no no ∷ text "b" ∷ [])
    ∷ row "<!DOCTYPE PUBLIC \"a\">" (quirky (yes "public") no no ∷ [])
    ∷ row "<!DOCTYPE html PUBLI \"a\">" (quirky (yes "html") no no ∷ [])
    -- no quote after a keyword
    ∷ row "<!DOCTYPE html PUBLIC>" (quirky (yes "html") no no ∷ [])
    ∷ row "<!DOCTYPE html PUBLIC a>" (quirky (yes "html") no no ∷ [])
    ∷ row "<!DOCTYPE html SYSTEM >" (quirky (yes "html") no no ∷ [])
    ∷ row "<!DOCTYPE html SYSTEMX 'a'>" (quirky (yes "html") no no ∷ [])
    -- ">" inside an identifier
    ∷ row "<!DOCTYPE html PUBLIC \"a>b" (quirky (yes "html") (yes "a") no ∷ text "b" ∷ [])
    ∷ row "<!DOCTYPE html PUBLIC \"a\" 'b>c" (quirky (yes "html") (yes "a") (yes "b") ∷ text "c" ∷ [])
    ∷ row "<!DOCTYPE html SYSTEM 'a>b" (quirky (yes "html") no (yes "a") ∷ text "b" ∷ [])
    -- junk after a public identifier
    ∷ row "<!DOCTYPE html PUBLIC \"a\" b \"c\">" (quirky (yes "html") (yes "a") no ∷ [])
    -- ends of input
    ∷ row "<!DOCTYPE" (quirky no no no ∷ [])
    ∷ row "<!DOCTYPE " (quirky no no no ∷ [])
    ∷ row "<!DOCTYPE html" (quirky (yes "html") no no ∷ [])
    ∷ row "<!DOCTYPE html " (quirky (yes "html") no no ∷ [])
    ∷ row "<!DOCTYPE html x" (quirky (yes "html") no no ∷ [])
    ∷ row "<!DOCTYPE html PUBLIC" (quirky (yes "html") no no ∷ [])
    ∷ row "<!DOCTYPE html PUBLIC " (quirky (yes "html") no no ∷ [])
    ∷ row "<!DOCTYPE html PUBLIC \"a" (quirky (yes "html") (yes "a") no ∷ [])
    ∷ row "<!DOCTYPE html PUBLIC \"a\"" (quirky (yes "html") (yes "a") no ∷ [])
    ∷ row "<!DOCTYPE html PUBLIC \"a\" " (quirky (yes "html") (yes "a") no ∷ [])
    ∷ row "<!DOCTYPE html PUBLIC \"a\" \"b" (quirky (yes "html") (yes "a") (yes "b") ∷ [])
    ∷ row "<!DOCTYPE html PUBLIC \"a\" \"b\"" (quirky (yes "html") (yes "a") (yes "b") ∷ [])
    ∷ row "<!DOCTYPE html SYSTEM" (quirky (yes "html") no no ∷ [])
    ∷ row "<!DOCTYPE html SYSTEM 'a" (quirky (yes "html") no (yes "a") ∷ [])
    ∷ row "<!DOCTYPE html SYSTEM 'a' " (quirky (yes "html") no (yes "a") ∷ [])
    ∷ []

abbrev pub AreDoctypeRowsRead : Type 0
AreDoctypeRowsRead = AreRead five goes_on false data_stand doctype_rows
