-- Escaping a string, and the written forms of tags and of what stands beside them (HTML Standard, section 13.3, "Serializing HTML
-- fragments").
use Rattle.std.specs.Prelude.{ℕ, Bool, true, false, cond, List, [], ◌∷◌, ◌++◌, Option, Some, codes, nat_eq}
use Rattle.std.specs.Str.{bytes_eq}
use Rattle.markup.specs.Namespaces.{known_namespace}
use Rattle.markup.specs.declared.attributes.Attribute.{Attribute}
use Rattle.markup.specs.declared.names.QualName.{QualName}
use Rattle.markup.specs.declared.namespaces.KnownNamespace.{KnownNamespace}
use Rattle.markup.specs.declared.namespaces.KnownNamespace.TheVariants.{NoNamespace, XLink, Xml, Xmlns}

-- where a string is escaped: in text, or in the value of an attribute
pub data Mode : Type 0 where
  InText : Mode
  InValue : Mode

-- by whether the character is "&", "<", ">" or U+00A0
abbrev pub escaped_by : Bool → Bool → Bool → Bool → ℕ → List ℕ
escaped_by true lt gt nbsp c = codes "&amp;"
escaped_by false true gt nbsp c = codes "&lt;"
escaped_by false false true nbsp c = codes "&gt;"
escaped_by false false false true c = codes "&nbsp;"
escaped_by false false false false c = c ∷ []

-- a character of a text
abbrev pub escaped : ℕ → List ℕ
escaped c = escaped_by (nat_eq c 0x26) (nat_eq c 0x3C) (nat_eq c 0x3E) (nat_eq c 0xA0) c

-- a character, in either mode
abbrev pub escaped_in : Mode → ℕ → List ℕ
escaped_in InText c = escaped c
escaped_in InValue c = cond (nat_eq c 0x22) (codes "&quot;") (escaped c)

abbrev pub escape_in : Mode → List ℕ → List ℕ
escape_in mode [] = []
escape_in mode (c ∷ cs) = escaped_in mode c ++ escape_in mode cs

abbrev pub escape : List ℕ → List ℕ
escape text = escape_in InText text

abbrev pub escape_value : List ℕ → List ℕ
escape_value value = escape_in InValue value

-- what stands before the local name of an attribute, by its namespace and whether the local name is "xmlns"
abbrev pub prefix_by : Option KnownNamespace → Bool → List ℕ
prefix_by (Some NoNamespace) xmlns = []
prefix_by (Some Xml) xmlns = codes "xml:"
prefix_by (Some Xmlns) true = []
prefix_by (Some Xmlns) false = codes "xmlns:"
prefix_by (Some XLink) xmlns = codes "xlink:"
prefix_by _ xmlns = codes "unknown_namespace:"

abbrev pub attribute_prefix : QualName → List ℕ
attribute_prefix name = prefix_by (known_namespace name.ns) (bytes_eq name.local (codes "xmlns"))

abbrev pub written_attribute : Attribute → List ℕ
written_attribute attribute =
    codes " " ++ (attribute_prefix attribute.name
    ++ (attribute.name.local ++ (codes "=\"" ++ (escape_value attribute.value ++ codes "\""))))

abbrev pub written_attributes : List Attribute → List ℕ
written_attributes [] = []
written_attributes (attribute ∷ rest) = written_attribute attribute ++ written_attributes rest

abbrev pub start_tag : List ℕ → List Attribute → List ℕ
start_tag name attributes = codes "<" ++ (name ++ (written_attributes attributes ++ codes ">"))

abbrev pub end_tag : List ℕ → List ℕ
end_tag name = codes "</" ++ (name ++ codes ">")

abbrev pub written_comment : List ℕ → List ℕ
written_comment text = codes "<!--" ++ (text ++ codes "-->")

abbrev pub written_doctype : List ℕ → List ℕ
written_doctype name = codes "<!DOCTYPE " ++ (name ++ codes ">")

abbrev pub written_instruction : List ℕ → List ℕ → List ℕ
written_instruction target text = codes "<?" ++ (target ++ (codes " " ++ (text ++ codes ">")))
