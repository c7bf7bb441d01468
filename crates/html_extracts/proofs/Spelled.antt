-- Bytes that spell known characters.
use Rattle.std.proofs.Common.{◌≡◌, ◌∙◌, ℕ, List, Option, Some, None, rules, ap, sym, encode_utf8_all}
use Rattle.std.specs.Str.{IsUtf8, chars}
use Rattle.std.proofs.lemmas.Str.{chars-IsAscii, chars-nil, encodes-chars}
use Rattle.markup.specs.declared.namespaces.KnownNamespace.{KnownNamespace}
use Rattle.markup.specs.declared.namespaces.KnownNamespace.TheVariants.{Html, MathMl, NoNamespace, Svg, XLink, Xml, Xmlns}
use Rattle.html_extracts.specs.Lines.{word_of}

pub bytes_of : (bytes characters : List ℕ) → IsUtf8 bytes → chars bytes ≡ characters → bytes ≡ encode_utf8_all characters
bytes_of bytes characters utf8 spells = sym (encodes-chars bytes utf8) ∙ ap encode_utf8_all spells

pub chars-word : (known : Option KnownNamespace) → chars (word_of known) ≡ word_of known
chars-word (Some Svg) = chars-IsAscii _ (search rules)
chars-word (Some MathMl) = chars-IsAscii _ (search rules)
chars-word (Some XLink) = chars-IsAscii _ (search rules)
chars-word (Some Xml) = chars-IsAscii _ (search rules)
chars-word (Some Xmlns) = chars-IsAscii _ (search rules)
chars-word (Some Html) = chars-nil
chars-word (Some NoNamespace) = chars-nil
chars-word None = chars-nil
