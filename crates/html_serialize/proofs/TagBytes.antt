-- The bytes of tags, part by part.
use Rattle.std.proofs.Common.{◌≡◌, ◌∙◌, ℕ, Bool, true, false, List, [], ◌∷◌, ◌++◌, Option, Some, None, refl, sym, ap, ap₂}
use Rattle.std.proofs.Common.{append_assoc, encode_utf8_all}
use Rattle.std.specs.Prelude.{codes}
use Rattle.std.specs.Str.{IsUtf8, bytes_eq, chars}
use Rattle.std.proofs.lemmas.List.{append-nil}
use Rattle.std.proofs.lemmas.Str.{encodes-append, encodes-chars}
use lib.Utf8.{encode}
use Rattle.markup.specs.Escape.{attribute_prefix, end_tag, escape_value, prefix_by, start_tag, written_attribute}
use Rattle.markup.specs.Escape.{written_attributes, written_comment, written_doctype, written_instruction}
use Rattle.markup.specs.Namespaces.{known_namespace}
use Rattle.markup.specs.declared.attributes.Attribute.{Attribute}
use Rattle.markup.specs.declared.names.QualName.{QualName}
use Rattle.markup.specs.declared.namespaces.KnownNamespace.{KnownNamespace}
use Rattle.markup.specs.declared.namespaces.KnownNamespace.TheVariants.{NoNamespace, Html, MathMl, Svg, XLink, Xml, Xmlns}
use Rattle.html_serialize.specs.KnownTags.{attribute_front, before_value}

-- bytes of a text that is known by its characters
pub bytes-chars : (bytes text : List ℕ) → IsUtf8 bytes → chars bytes ≡ text → encode_utf8_all text ≡ bytes
bytes-chars bytes text utf8 same = ap encode_utf8_all (sym same) ∙ encodes-chars bytes utf8

prefix_by-bytes : (known : Option KnownNamespace) (xmlns : Bool) → encode_utf8_all (prefix_by known xmlns) ≡ prefix_by known xmlns
unfolding encode
prefix_by-bytes None xmlns = refl
prefix_by-bytes (Some NoNamespace) xmlns = refl
prefix_by-bytes (Some Html) xmlns = refl
prefix_by-bytes (Some MathMl) xmlns = refl
prefix_by-bytes (Some Svg) xmlns = refl
prefix_by-bytes (Some XLink) xmlns = refl
prefix_by-bytes (Some Xml) xmlns = refl
prefix_by-bytes (Some Xmlns) true = refl
prefix_by-bytes (Some Xmlns) false = refl

-- what stands before the value of an attribute: space, prefix and name; "=" and a quote
pub before_value-bytes : (name : QualName) (prefix local : List ℕ) → prefix ≡ attribute_prefix name
    → encode_utf8_all name.local ≡ local → attribute_front name ≡ (codes " " ++ (prefix ++ local)) ++ codes "=\""
unfolding encode
before_value-bytes name prefix local is_prefix is_local =
    let shown = attribute_prefix name in
    ap (λ (xs : List ℕ). 32 ∷ xs)
    (encodes-append shown (name.local ++ codes "=\"")
    ∙ ap₂ (λ (xs ys : List ℕ). xs ++ ys) (prefix_by-bytes (known_namespace name.ns) (bytes_eq name.local (codes "xmlns")) ∙ sym is_prefix)
    (encodes-append name.local (codes "=\"") ∙ ap (λ (xs : List ℕ). xs ++ codes "=\"") is_local)
    ∙ sym (append_assoc prefix local (codes "=\"")))

quote-bytes : encode_utf8_all (codes "\"") ≡ codes "\""
unfolding encode
quote-bytes = refl

-- an attribute: what stands before its value; that; the quote at its end
pub attribute-bytes : (attribute : Attribute) → encode_utf8_all (written_attribute attribute) ≡ attribute_front
    attribute.name ++ (encode_utf8_all (escape_value attribute.value) ++ codes "\"")
attribute-bytes attribute =
    let value = escape_value attribute.value in
    let front = before_value (attribute_prefix attribute.name) attribute.name.local in
    ap encode_utf8_all (regroup (attribute_prefix attribute.name) attribute.name.local (value ++ codes "\""))
    ∙ encodes-append front (value ++ codes "\"")
    ∙ ap (λ (xs : List ℕ). encode_utf8_all front ++ xs)
    (encodes-append value (codes "\"") ∙ ap (λ (xs : List ℕ). encode_utf8_all value ++ xs) quote-bytes)
  where
    regroup : (prefix local rest : List ℕ) → codes " " ++ (prefix ++ (local ++ (codes "=\"" ++ rest))) ≡ before_value prefix local ++ rest
    regroup prefix local rest = sym (simp append_assoc)

-- a text between two literals
pub between-bytes : (front text back bytes : List ℕ) → encode_utf8_all front ≡ front → encode_utf8_all back ≡ back
    → encode_utf8_all text ≡ bytes → encode_utf8_all (front ++ (text ++ back)) ≡ front ++ (bytes ++ back)
between-bytes front text back bytes is_front is_back is_text =
    encodes-append front (text ++ back) ∙ ap₂ (λ (xs ys : List ℕ). xs ++ ys) is_front
    (encodes-append text back ∙ ap₂ (λ (xs ys : List ℕ). xs ++ ys) is_text is_back)

-- a start tag: "<" and its name; its attributes; ">"
pub start_tag-bytes : (name : List ℕ) (attributes : List Attribute) (local : List ℕ) → encode_utf8_all name ≡ local
    → encode_utf8_all (start_tag name attributes) ≡ (codes "<" ++ (local ++ []))
    ++ (encode_utf8_all (written_attributes attributes) ++ codes ">")
unfolding encode
start_tag-bytes name attributes local is =
    ap (λ (xs : List ℕ). 60 ∷ xs)
    (encodes-append name (written_attributes attributes ++ codes ">")
    ∙ ap₂ (λ (xs ys : List ℕ). xs ++ ys) (is ∙ sym (append-nil local)) (encodes-append (written_attributes attributes) (codes ">")))

pub end_tag-bytes : (name local : List ℕ) → encode_utf8_all name ≡ local
    → encode_utf8_all (end_tag name) ≡ codes "</" ++ (local ++ codes ">")
unfolding encode
end_tag-bytes name local is = between-bytes (codes "</") name (codes ">") local refl refl is

pub comment-bytes : (text bytes : List ℕ) → encode_utf8_all text ≡ bytes
    → encode_utf8_all (written_comment text) ≡ codes "<!--" ++ (bytes ++ codes "-->")
unfolding encode
comment-bytes text bytes is = between-bytes (codes "<!--") text (codes "-->") bytes refl refl is

pub doctype-bytes : (name bytes : List ℕ) → encode_utf8_all name ≡ bytes
    → encode_utf8_all (written_doctype name) ≡ codes "<!DOCTYPE " ++ (bytes ++ codes ">")
unfolding encode
doctype-bytes name bytes is = between-bytes (codes "<!DOCTYPE ") name (codes ">") bytes refl refl is

pub instruction-bytes : (target text front bytes : List ℕ) → encode_utf8_all target ≡ front → encode_utf8_all text ≡ bytes
    → encode_utf8_all (written_instruction target text) ≡ codes "<?" ++ (front ++ (codes " " ++ (bytes ++ codes ">")))
unfolding encode
instruction-bytes target text front bytes is_target is_text =
    ap (λ (xs : List ℕ). 60 ∷ 63 ∷ xs)
    (encodes-append target (codes " " ++ (text ++ codes ">"))
    ∙ ap₂ (λ (xs ys : List ℕ). xs ++ ys) is_target
    (ap (λ (xs : List ℕ). 32 ∷ xs) (encodes-append text (codes ">") ∙ ap (λ (xs : List ℕ). xs ++ codes ">") is_text)))

-- attributes one by one
pub attributes-append : (first second : List Attribute) → encode_utf8_all (written_attributes (first ++ second)) ≡
    encode_utf8_all (written_attributes first) ++ encode_utf8_all (written_attributes second)
attributes-append [] second = refl
attributes-append (attribute ∷ first) second =
    encodes-append (written_attribute attribute) (written_attributes (first ++ second))
    ∙ ap (λ (xs : List ℕ). encode_utf8_all (written_attribute attribute) ++ xs) (attributes-append first second)
    ∙ sym (append_assoc (encode_utf8_all (written_attribute attribute)) (encode_utf8_all (written_attributes first))
    (encode_utf8_all (written_attributes second)))
    ∙ ap (λ (xs : List ℕ). xs ++ encode_utf8_all (written_attributes second))
    (sym (encodes-append (written_attribute attribute) (written_attributes first)))
