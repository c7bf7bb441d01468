-- "Changing the encoding while parsing" (HTML Standard, section 13.2.3.4).
use Rattle.std.specs.Prelude.{ℕ, Bool, true, false, List, [], ◌∷◌, Option, Some, None, Result, Ok, Err, encode_utf8_all}
use Rattle.std.specs.Str.{chars}
use Rattle.markup.specs.Forest.{empty_forest}
use Rattle.html_tokens.specs.NormalText.{normal_text}
use Rattle.html_tokens.specs.Notes.{pauses}
use Rattle.html_tokens.specs.Sink.{Reply}
use Rattle.html_tokens.specs.Table.{Row}
use Rattle.html_tokens.specs.declared.replies.TokenSinkResult.TheVariants.{EncodingIndicator}
use Rattle.html_rules.specs.Documents.{before_document, stand_of}
use Rattle.html_rules.specs.ForeignContent.{asks_cdata}
use Rattle.html_rules.specs.State.{hushed}
use Rattle.html_rules.specs.Step.{ended, is_quiet, step}
use Rattle.html_normal.specs.Document.{default_opts, default_setting}
use Rattle.html_encodings.specs.Labels.{label_encoding}
use Rattle.html_encodings.specs.Prescan.{mended}
use Rattle.html_encodings.specs.declared.names.Encoding.{Encoding}
use Rattle.html_encodings.specs.declared.names.Encoding.TheVariants.{Utf16be, Utf16le}
use Rattle.html_encodings.specs.declared.sniffing.Why.{Why}
use Rattle.html_encodings.specs.declared.sniffing.Why.TheVariants.{Declaration, Fallback}

-- the encoding that a start tag `meta` names, where a reading pauses for it ("in head", section 13.2.6.4.4)
abbrev pub named_at : Reply → Option Encoding
named_at (EncodingIndicator label) = label_encoding (encode_utf8_all label)
named_at _ = None

abbrev pub or_first : Option Encoding → Option Encoding → Option Encoding
or_first (Some encoding) others = Some encoding
or_first None others = others

-- the first encoding that is named at the pauses of a reading
abbrev pub first_named : List Reply → Option Encoding
first_named [] = None
first_named (pause ∷ pauses) = or_first (named_at pause) (first_named pauses)

-- of a refused text there are no pauses; no document's text is refused
abbrev pub named_by : {E : Type 0} → Result (List Reply) E → Option Encoding
named_by (Ok pauses) = first_named pauses
named_by (Err refusal) = None

-- the first encoding that a `meta` names as the rules make a document of a text in UTF-8
unfoldable pub named_in : List Row → List ℕ → Option Encoding
named_in table bytes = named_by (pauses step is_quiet asks_cdata ended table (stand_of default_opts) 0
    (hushed (before_document default_setting empty_forest)) (normal_text true (chars bytes)))

-- the encoding of a page that was read in one, once another is named: UTF-16 stays; that of a `meta` that could be read is not
-- UTF-16, and x-user-defined is windows-1252
abbrev pub changed_to : Encoding → Encoding → Encoding
changed_to Utf16be named = Utf16be
changed_to Utf16le named = Utf16le
changed_to encoding named = mended named

abbrev pub settled : Encoding → Option Encoding → Encoding
settled encoding None = encoding
settled encoding (Some named) = changed_to encoding named

-- whether the confidence in an encoding is tentative, by how it was found out (section 13.2.3.2)
abbrev pub is_tentative : Why → Bool
is_tentative Declaration = true
is_tentative Fallback = true
is_tentative _ = false

-- the encoding in which a page is read in the end: only a tentative one gives way
abbrev pub settled_if : Bool → Encoding → Option Encoding → Encoding
settled_if true encoding named = settled encoding named
settled_if false encoding named = encoding
