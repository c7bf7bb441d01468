-- Worked rows, which the check computes.
use Prim.Native.String.{String}
use Rattle.std.specs.Prelude.{◌≡◌, ℕ, Option, Some, None, List, [], ◌∷◌, map, codes}
use Rattle.html_encodings.specs.Handlers.{characters}
use Rattle.html_encodings.specs.Decoders.{decoding}
use Rattle.html_encodings.specs.Basic.{basic_step, basic_end, basic_start}
use Rattle.html_encodings.specs.Labels.{label_encoding}
use Rattle.html_encodings.specs.Prescan.{prescanned}
use Rattle.html_encodings.specs.declared.basic.Basic.{Basic}
use Rattle.html_encodings.specs.declared.names.Encoding.{Encoding}
use Rattle.html_encodings.specs.declared.names.Encoding.TheVariants as encodings

-- Bytes in an encoding, and their characters

abbrev pub Row : Type 0
Row = Encoding × List ℕ × List ℕ

abbrev pub decoded_from : Option Basic → List ℕ → List ℕ
decoded_from None bytes = []
decoded_from (Some start) bytes = characters (decoding basic_step basic_end start bytes)

abbrev pub byte_rows : List Row
byte_rows =
    (encodings.Windows1252, 0x41 ∷ 0x80 ∷ 0x81 ∷ 0xE9 ∷ 0xFF ∷ [], 0x41 ∷ 0x20AC ∷ 0x81 ∷ 0xE9 ∷ 0xFF ∷ [])
    ∷ (encodings.Windows1253, 0xAA ∷ 0xD2 ∷ 0xE1 ∷ 0xFF ∷ [], 0xFFFD ∷ 0xFFFD ∷ 0x3B1 ∷ 0xFFFD ∷ [])
    ∷ (encodings.Koi8R, 0xD0 ∷ 0xCF ∷ [], 0x43F ∷ 0x43E ∷ [])
    ∷ (encodings.Iso8859_8I, 0xE0 ∷ 0xA1 ∷ [], 0x5D0 ∷ 0xFFFD ∷ [])
    ∷ (encodings.XUserDefined, 0x7F ∷ 0x80 ∷ 0xFF ∷ [], 0x7F ∷ 0xF780 ∷ 0xF7FF ∷ [])
    ∷ (encodings.Replacement, 0x41 ∷ 0x42 ∷ [], 0xFFFD ∷ [])
    ∷ (encodings.Replacement, [], [])
    ∷ []

abbrev pub utf_8_rows : List Row
utf_8_rows =
    (encodings.Utf8, 0x41 ∷ 0xC3 ∷ 0xA9 ∷ 0xE2 ∷ 0x82 ∷ 0xAC ∷ 0xF0 ∷ 0x9F ∷ 0x98 ∷ 0x80 ∷ [], 0x41 ∷ 0xE9 ∷ 0x20AC ∷ 0x1F600 ∷ [])
    -- as much as may begin a character is one error
    ∷ (encodings.Utf8, 0xF0 ∷ 0x9F ∷ 0x98 ∷ 0x41 ∷ [], 0xFFFD ∷ 0x41 ∷ [])
    ∷ (encodings.Utf8, 0xE0 ∷ 0x80 ∷ 0x80 ∷ [], 0xFFFD ∷ 0xFFFD ∷ 0xFFFD ∷ [])
    ∷ (encodings.Utf8, 0xED ∷ 0xA0 ∷ 0x80 ∷ [], 0xFFFD ∷ 0xFFFD ∷ 0xFFFD ∷ [])
    ∷ (encodings.Utf8, 0xF4 ∷ 0x90 ∷ 0xC0 ∷ 0xE2 ∷ 0x82 ∷ [], 0xFFFD ∷ 0xFFFD ∷ 0xFFFD ∷ 0xFFFD ∷ [])
    ∷ []

abbrev pub utf_16_rows : List Row
utf_16_rows =
    (encodings.Utf16le, 0x41 ∷ 0 ∷ 0x3D ∷ 0xD8 ∷ 0 ∷ 0xDE ∷ [], 0x41 ∷ 0x1F600 ∷ [])
    ∷ (encodings.Utf16be, 0 ∷ 0x41 ∷ 0xD8 ∷ 0x3D ∷ 0xDE ∷ 0 ∷ [], 0x41 ∷ 0x1F600 ∷ [])
    -- surrogates that have no partner, and half a code unit
    ∷ (encodings.Utf16be, 0xD8 ∷ 0 ∷ 0 ∷ 0x41 ∷ 0xDC ∷ 0 ∷ 0 ∷ [], 0xFFFD ∷ 0x41 ∷ 0xFFFD ∷ 0xFFFD ∷ [])
    ∷ (encodings.Utf16le, 0 ∷ 0xD8 ∷ 0 ∷ 0xD8 ∷ 0x41 ∷ [], 0xFFFD ∷ 0xFFFD ∷ [])
    ∷ []

abbrev pub is_read : Row → List ℕ
is_read row = decoded_from (basic_start row.0) row.1

abbrev pub AreRead : List Row → Type 0
AreRead rows = map is_read rows ≡ map (λ row. row.2) rows

-- Labels, and the encoding of each

abbrev pub label_rows : List (String × Option Encoding)
label_rows =
    ("utf-8", Some encodings.Utf8) ∷ (" LATIN1\n", Some encodings.Windows1252) ∷ ("ISO-8859-1", Some encodings.Windows1252)
    ∷ ("euc-kr", Some encodings.EucKr) ∷ ("ks_c_5601-1987", Some encodings.EucKr) ∷ ("x-sjis", Some encodings.ShiftJis)
    ∷ ("hz-gb-2312", Some encodings.Replacement) ∷ ("utf-16", Some encodings.Utf16le) ∷ ("utf 8", None) ∷ ("", None) ∷ []

abbrev pub AreLabelsRead : Type 0
AreLabelsRead = map (λ row. label_encoding (codes row.0)) label_rows ≡ map (λ row. row.1) label_rows

-- The beginnings of pages, and the encoding that each declares

abbrev pub page_rows : List (String × Option Encoding)
page_rows =
    ("<meta charset=euc-kr>", Some encodings.EucKr)
    ∷ ("<!doctype html><html lang='ko'><META CHARSET = \"EUC-KR\" />", Some encodings.EucKr)
    ∷ ("<meta http-equiv=content-type content='text/html; charset=koi8-r'>", Some encodings.Koi8R)
    ∷ ("<meta content='text/html; charset=koi8-r'>", None)
    ∷ ("<meta content='charset;charset = \"gbk\"' http-equiv=Content-Type>", Some encodings.Gbk)
    -- the first of two attributes counts, and of a label and a content the label
    ∷ ("<meta charset=x charset=gbk><meta charset=big5>", Some encodings.Big5)
    ∷ ("<meta http-equiv=content-type content='charset=gbk' charset=big5>", Some encodings.Big5)
    -- comments, other tags, and what is in quotes
    ∷ ("<!--><meta charset=gbk>--><meta charset=big5>", Some encodings.Gbk)
    ∷ ("<!-- <meta charset=gbk> --><meta charset=big5>", Some encodings.Big5)
    ∷ ("<a b='<meta charset=gbk>'></a c='<meta charset=gbk>'><?<meta charset=gbk><meta charset=big5>", Some encodings.Big5)
    -- what is cut off declares nothing
    ∷ ("<meta charset=gbk", None) ∷ ("<meta charset='gbk>", None) ∷ ("<meta charset=gbk ", None)
    ∷ ("<metacharset=gbk>", None) ∷ ("<meta/charset=gbk>", Some encodings.Gbk)
    -- a declaration that can be read is not in UTF-16
    ∷ ("<meta charset=utf-16be>", Some encodings.Utf8) ∷ ("<meta charset=x-user-defined>", Some encodings.Windows1252)
    ∷ ("<?xml version='1.0' encoding='koi8-r'?><p>", Some encodings.Koi8R)
    ∷ ("<?xml version='1.0' encoding='koi8-r'?><meta charset=gbk>", Some encodings.Gbk)
    ∷ ("<?xml encoding='koi8 -r'?>", None) ∷ (" <?xml encoding='koi8-r'?>", None)
    ∷ []

abbrev pub ArePagesRead : Type 0
ArePagesRead = map (λ row. prescanned (codes row.0)) page_rows ≡ map (λ row. row.1) page_rows
