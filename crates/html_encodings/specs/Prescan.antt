-- A declared encoding (HTML Standard, section 13.2.3.2: "prescan a byte stream to determine its encoding").
-- A byte stream is what is left of it from the position on. Where the position goes beyond the last byte, nothing is left.
use Rattle.std.specs.Prelude.{ℕ, zero, suc, Bool, false, cond, not, ◌&&◌, ◌||◌, Option, Some, None, List, [], ◌∷◌, length, drop, nat_lt}
use Rattle.std.specs.Prelude.{nat_eq, ◌==◌, slice_index, unwrap_or}
use Rattle.std.specs.Option.{option_and_then, option_or, option_map}
use Rattle.std.specs.Char.{is_ascii_alphabetic, is_ascii_whitespace}
use Rattle.std.specs.List.{list_any, starts_with}
use Rattle.std.specs.Str.{str_eq_ignore_ascii_case}
use lib.Chars.{codes}
use Rattle.html_encodings.specs.Scanning.{has, front, past, begins}
use Rattle.html_encodings.specs.Labels.{label_encoding}
use Rattle.html_encodings.specs.declared.names.Encoding.{Encoding}
use Rattle.html_encodings.specs.declared.names.Encoding.TheVariants.{Utf8, Utf16be, Utf16le, XUserDefined, Windows1252}
use Rattle.html_encodings.specs.declared.scanning.Class.TheVariants.{Space, SpaceOrSlash, Name, Value, Content, Control, Not}

-- Attributes

-- an attribute, with its letters as they stand
pub record Attribute : Type 0 where
  pub name : List ℕ
  pub value : List ℕ

-- an attribute if there is one, and what is left
pub record Attempt : Type 0 where
  pub attribute : Option Attribute
  pub rest : List ℕ

abbrev pub attribute_with : List ℕ → List ℕ → List ℕ → Attempt
attribute_with name value rest = record { attribute = Some (record { name = name; value = value }); rest = rest }

-- "value": in quotes, or up to white space or `>`. Quotes that are not closed leave nothing.
abbrev pub value_after : List ℕ → List ℕ → Attempt
value_after name [] = record { attribute = None; rest = [] }
value_after name (first ∷ bytes) = cond ((first == 34) || (first == 39))
    (attribute_with name (front (Not first) bytes) (drop 1 (past (Not first) bytes)))
    (attribute_with name (front Value (first ∷ bytes)) (past Value (first ∷ bytes)))

-- what follows a name: a value only behind `=`
abbrev pub attribute_after : List ℕ → List ℕ → Attempt
attribute_after name [] = record { attribute = None; rest = [] }
attribute_after name (next ∷ bytes) = cond (next == 61) (value_after name (past Space bytes)) (attribute_with name [] (next ∷ bytes))

-- a name begins with any byte, and goes on to white space, `/`, `=` or `>`
abbrev pub attribute_from : List ℕ → Attempt
attribute_from [] = record { attribute = None; rest = [] }
attribute_from (first ∷ bytes) = cond (first == 62) (record { attribute = None; rest = first ∷ bytes })
    (attribute_after (first ∷ front Name bytes) (past Space (past Name bytes)))

-- "get an attribute"
abbrev pub attribute : List ℕ → Attempt
attribute bytes = attribute_from (past SpaceOrSlash bytes)

-- Declarations

-- what the attributes of a `meta` have to say, each by its first value
pub record Meta : Type 0 where
  pub http_equiv : Option (List ℕ)
  pub content : Option (List ℕ)
  pub charset : Option (List ℕ)

abbrev pub if_named : List ℕ → Attribute → Option (List ℕ) → Option (List ℕ)
if_named name attribute (Some value) = Some value
if_named name attribute None = cond (str_eq_ignore_ascii_case attribute.name name) (Some attribute.value) None

abbrev pub heeding : Meta → Attribute → Meta
heeding meta attribute = record {
  http_equiv = if_named (codes "http-equiv") attribute meta.http_equiv;
  content = if_named (codes "content") attribute meta.content;
  charset = if_named (codes "charset") attribute meta.charset;
}

-- what is declared so far, and what is left
pub record Tag : Type 0 where
  pub meta : Meta
  pub rest : List ℕ

-- attributes are got until there is none; each takes a byte at least, so there are not more of them than bytes
abbrev pub attributes : ℕ → Tag → Tag
attributes zero tag = tag
attributes (suc count) tag =
    let got = attribute tag.rest in
    elim got.attribute as (λ _. Tag) [
      | None ↦ record { meta = tag.meta; rest = got.rest }
      | Some a ↦ attributes count (record { meta = heeding tag.meta a; rest = got.rest })
    ]

abbrev pub tag_from : List ℕ → Tag
tag_from bytes = attributes (length bytes) (record { meta = record { http_equiv = None; content = None; charset = None }; rest = bytes })

-- the encoding that is taken for a declared one: no declaration that can be read is in UTF-16
abbrev pub mended : Encoding → Encoding
mended Utf16be = Utf8
mended Utf16le = Utf8
mended XUserDefined = Windows1252
mended encoding = encoding

-- "extracting a character encoding from a meta element": a label in quotes that are closed, or up to white space or `;`
abbrev pub label_of_value : List ℕ → Option (List ℕ)
label_of_value [] = None
label_of_value (first ∷ bytes) = cond ((first == 34) || (first == 39))
    (cond (nat_lt (length (front (Not first) bytes)) (length bytes)) (Some (front (Not first) bytes)) None)
    (Some (front Content (first ∷ bytes)))

-- what follows `=`, without white space in front
abbrev pub after_equals : List ℕ → Option (List ℕ)
after_equals [] = None
after_equals (next ∷ bytes) = cond (next == 61) (Some (past Space bytes)) None

-- what a `charset` in front is set to
abbrev pub charset_value : List ℕ → Option (List ℕ)
charset_value bytes = cond (begins (codes "charset") bytes) (after_equals (past Space (drop 7 bytes))) None

-- the first `charset` that is set
abbrev pub content_encoding : List ℕ → Option Encoding
content_encoding [] = None
content_encoding (byte ∷ bytes) = elim (charset_value (byte ∷ bytes)) as (λ _. Option Encoding) [
  | None ↦ content_encoding bytes
  | Some value ↦ option_and_then label_encoding (label_of_value value)
]

abbrev pub is_pragma : Option (List ℕ) → Bool
is_pragma None = false
is_pragma (Some value) = str_eq_ignore_ascii_case value (codes "content-type")

-- what a `meta` declares: its `charset`, or with the pragma the encoding in its `content`
abbrev pub declared_by : Option (List ℕ) → Bool → Option (List ℕ) → Option Encoding
declared_by (Some label) pragma content = option_map mended (label_encoding label)
declared_by None pragma content = cond pragma (option_map mended (option_and_then content_encoding content)) None

abbrev pub declared_encoding : Meta → Option Encoding
declared_encoding meta = declared_by meta.charset (is_pragma meta.http_equiv) meta.content

-- Turns

-- an encoding, if one is found, and what is left
pub record Turn : Type 0 where
  pub found : Option Encoding
  pub rest : List ℕ

abbrev pub going : List ℕ → Turn
going rest = record { found = None; rest = rest }

-- what follows a word, the first time that it stands there
abbrev pub after_word : List ℕ → List ℕ → Option (List ℕ)
after_word word [] = None
after_word word (byte ∷ bytes) = cond (starts_with nat_eq (byte ∷ bytes) word)
    (Some (drop (length word) (byte ∷ bytes))) (after_word word bytes)

-- the position goes beyond a comment, whose end may share the hyphens of its start
abbrev pub comment_turn : List ℕ → Turn
comment_turn bytes = going (unwrap_or (after_word (codes "-->") (drop 2 bytes)) [])

-- a `meta` that is whole declares an encoding, or not
abbrev pub meta_turn_of : Tag → Turn
meta_turn_of tag = record { found = cond (length tag.rest == 0) None (declared_encoding tag.meta); rest = drop 1 tag.rest }

abbrev pub meta_turn : List ℕ → Turn
meta_turn bytes = meta_turn_of (tag_from (drop 5 bytes))

-- any other tag is passed over
abbrev pub tag_turn : List ℕ → Turn
tag_turn bytes = going (drop 1 (tag_from (past Value bytes)).rest)

-- and so is what else begins with `<!`, `</` or `<?`
abbrev pub bogus_turn : List ℕ → Turn
bogus_turn bytes = going (drop 1 (past (Not 62) bytes))

-- "loop"
abbrev pub turn : List ℕ → Turn
turn bytes =
    cond (not (slice_index bytes 0 == 60)) (going (drop 1 bytes))
    (cond (begins (codes "<!--") bytes) (comment_turn bytes)
    (cond (begins (codes "<meta") bytes && (is_ascii_whitespace (slice_index bytes 5) || (slice_index bytes 5 == 47))) (meta_turn bytes)
    (cond (is_ascii_alphabetic (slice_index bytes 1) || ((slice_index bytes 1 == 47)
    && is_ascii_alphabetic (slice_index bytes 2))) (tag_turn bytes)
    (cond (((slice_index bytes 1 == 33) || (slice_index bytes 1 == 47)) || (slice_index bytes 1 == 63)) (bogus_turn bytes)
    (going (drop 1 bytes))))))

-- each turn takes a byte at least, so there are not more of them than bytes
abbrev pub scan : ℕ → List ℕ → Option Encoding
scan zero bytes = None
scan (suc count) bytes =
    let next = turn bytes in
    elim next.found as (λ _. Option Encoding) [ None ↦ scan count next.rest | Some encoding ↦ Some encoding ]

-- "get an XML encoding"
abbrev pub mended_xml : Encoding → Encoding
mended_xml Utf16be = Utf8
mended_xml Utf16le = Utf8
mended_xml encoding = encoding

abbrev pub xml_value : List ℕ → Option Encoding
xml_value [] = None
xml_value (quote ∷ bytes) =
    let label = front (Not quote) bytes in
    cond (((quote == 34) || (quote == 39)) && (nat_lt (length label) (length bytes) && not (list_any (has Control) label)))
    (option_map mended_xml (label_encoding label)) None

abbrev pub xml_after_equals : List ℕ → Option Encoding
xml_after_equals [] = None
xml_after_equals (next ∷ bytes) = cond (next == 61) (xml_value (past Control bytes)) None

abbrev pub xml_encoding : List ℕ → Option Encoding
xml_encoding bytes = cond (starts_with nat_eq bytes (codes "<?xml") && list_any (λ byte. byte == 62) bytes)
    (option_and_then (λ rest. xml_after_equals (past Control rest)) (after_word (codes "encoding") bytes)) None

-- "prescan a byte stream to determine its encoding", of the bytes that are at hand
unfoldable pub prescanned : List ℕ → Option Encoding
prescanned bytes =
    cond (starts_with nat_eq bytes (60 ∷ 0 ∷ 63 ∷ 0 ∷ 120 ∷ 0 ∷ [])) (Some Utf16le)
    (cond (starts_with nat_eq bytes (0 ∷ 60 ∷ 0 ∷ 63 ∷ 0 ∷ 120 ∷ [])) (Some Utf16be)
    (option_or (scan (length bytes) bytes) (xml_encoding bytes)))
