-- What the numbers of a node say of its texts.
use Rattle.std.proofs.Common.{◌≡◌, ◌≢◌, ◌∙◌, ◌+◌, ◌*◌, ◌^◌, ◌<◌, ◌≤◌, ℕ, Bool, true, false, List, [], ◌∷◌, ◌++◌, Option, Some, None}
use Rattle.std.proofs.Common.{sym, refl, arith, length, get_or, encode_utf8_all}
use Rattle.std.proofs.Common.{inl, inr}
use Rattle.std.proofs.lemmas.Bool.{cases_eq}
use Rattle.std.proofs.lemmas.List.{length-append}
use Rattle.markup.specs.Forest.{NodeData}
use Rattle.markup.specs.Forest.NodeData.{Document, Contents, Doctype, Text, Comment, ProcessingInstruction, Element}
use Rattle.markup.specs.Namespaces.{known_namespace}
use Rattle.markup.specs.declared.attributes.Attribute.{Attribute}
use Rattle.markup.specs.declared.names.QualName.{QualName}
use Rattle.markup.specs.declared.namespaces.KnownNamespace.{KnownNamespace}
use Rattle.markup.specs.declared.namespaces.KnownNamespace.TheVariants.{NoNamespace, Html, MathMl, Svg, XLink, Xml, Xmlns}
use Rattle.html_tree_image.specs.Image.{all_attribute_texts, attribute_numbers, attribute_records, attribute_texts, extents}
use Rattle.html_tree_image.specs.Image.{kind_number, known_number}
use Rattle.html_tree_image.specs.Image.{name_bytes, namespace_number, node_attributes, node_texts, node_type, point_number, words}
use Rattle.html_image_reader.proofs.Words.{back-same, front-same, word-at, words-length}

known-small : (known : Option KnownNamespace) → known_number known ≤ 7
known-small (Some NoNamespace) = omega arith
known-small (Some Html) = omega arith
known-small (Some MathMl) = omega arith
known-small (Some Svg) = omega arith
known-small (Some XLink) = omega arith
known-small (Some Xml) = omega arith
known-small (Some Xmlns) = omega arith
known-small None = omega arith

point-small : (point : Bool) → point_number point ≤ 65536
point-small true = omega arith
point-small false = omega arith

pub kind-small : (about : NodeData) → kind_number about < 2 ^ 32
kind-small Document = omega arith
kind-small Contents = omega arith
kind-small (Doctype name public_id system_id) = omega arith
kind-small (Text text) = omega arith
kind-small (Comment text) = omega arith
kind-small (ProcessingInstruction target text) = omega arith
kind-small (Element name attributes template integration_point) =
    let n = known-small (known_namespace name.ns) in
    let p = point-small integration_point in
    omega arith

point-even : (point : Bool) → (k : ℕ) × (point_number point ≡ 256 * k)
point-even true = (256, refl)
point-even false = (0, refl)

-- the kind has the type in its lowest byte
pub type-of : (about : NodeData) → (k : ℕ) × (kind_number about ≡ node_type about + 256 * k)
type-of Document = (0, refl)
type-of Contents = (0, refl)
type-of (Doctype name public_id system_id) = (0, refl)
type-of (Text text) = (0, refl)
type-of (Comment text) = (0, refl)
type-of (ProcessingInstruction target text) = (0, refl)
type-of (Element name attributes template integration_point) =
    let p = point-even integration_point in (namespace_number name.ns + p.0, omega (arith, p.1))

type-small : (about : NodeData) → node_type about < 256
type-small Document = omega arith
type-small Contents = omega arith
type-small (Doctype name public_id system_id) = omega arith
type-small (Text text) = omega arith
type-small (Comment text) = omega arith
type-small (ProcessingInstruction target text) = omega arith
type-small (Element name attributes template integration_point) = omega arith

pub type-same : (a b : NodeData) → kind_number a ≡ kind_number b → node_type a ≡ node_type b
type-same a b e =
    let p = type-of a in
    let q = type-of b in
    let l = type-small a in
    let m = type-small b in
    omega (arith, e, p.1, q.1, l, m)

pub extents-length : (at first : ℕ) (contents : Option ℕ) (about : NodeData) → length (extents at first contents about) ≡ 6
extents-length at first contents Document = refl
extents-length at first contents Contents = refl
extents-length at first contents (Doctype name public_id system_id) = refl
extents-length at first contents (Text text) = refl
extents-length at first contents (Comment text) = refl
extents-length at first contents (ProcessingInstruction target text) = refl
extents-length at first contents (Element name attributes template integration_point) = refl

-- the lengths of the texts of what is no element
pub plain-length : (at first : ℕ) (contents : Option ℕ) (about : NodeData) → node_type about ≢ 1
    → length (node_texts about) ≡ get_or (extents at first contents about) 1 0 + get_or (extents at first contents about) 3 0
    + get_or (extents at first contents about) 5 0
plain-length at first contents Document other = refl
plain-length at first contents Contents other = refl
plain-length at first contents (Doctype name public_id system_id) other =
    let all = length-append (encode_utf8_all name) (encode_utf8_all public_id ++ encode_utf8_all system_id) in
    let two = length-append (encode_utf8_all public_id) (encode_utf8_all system_id) in
    omega (arith, all, two)
plain-length at first contents (Text text) other = omega arith
plain-length at first contents (Comment text) other = omega arith
plain-length at first contents (ProcessingInstruction target text) other =
    let all = length-append (encode_utf8_all target) (encode_utf8_all text) in omega (arith, all)
plain-length at first contents (Element name attributes template integration_point) other = absurd (other refl)

attribute-length : (attribute : Attribute) → length (attribute_texts attribute)
    ≡ length (name_bytes attribute.name) + length (encode_utf8_all attribute.value)
attribute-length attribute = length-append (name_bytes attribute.name) (encode_utf8_all attribute.value)

-- attributes of which the records are equal have us many bytes of texts
pub attributes-length : (us vs : List Attribute) (at at' : ℕ) → length us ≡ length vs → attribute_records at us ≡ attribute_records at' vs
    → length (all_attribute_texts us) < 2 ^ 32 → length (all_attribute_texts vs) < 2 ^ 32
    → length (all_attribute_texts us) ≡ length (all_attribute_texts vs)
attributes-length [] [] at at' same e small small' = refl
attributes-length [] (b ∷ vs) at at' same e small small' = absurd (omega (arith, same))
attributes-length (a ∷ us) [] at at' same e small small' = absurd (omega (arith, same))
attributes-length (a ∷ us) (b ∷ vs) at at' same e small small' =
    let us-all = length-append (attribute_texts a) (all_attribute_texts us) in
    let vs-all = length-append (attribute_texts b) (all_attribute_texts vs) in
    let a-all = attribute-length a in
    let b-all = attribute-length b in
    let size : length (words (attribute_numbers at a)) ≡ length (words (attribute_numbers at' b)) =
    words-length (attribute_numbers at a) ∙ sym (words-length (attribute_numbers at' b)) in
    let first = front-same (words (attribute_numbers at a)) (attribute_records (at + length (attribute_texts a)) us)
    (words (attribute_numbers at' b)) (attribute_records (at' + length (attribute_texts b)) vs) size e in
    let others = back-same (words (attribute_numbers at a)) (attribute_records (at + length (attribute_texts a)) us)
    (words (attribute_numbers at' b)) (attribute_records (at' + length (attribute_texts b)) vs) size e in
    let name : length (name_bytes a.name) ≡ length (name_bytes b.name) =
    word-at (attribute_numbers at a) (attribute_numbers at' b) 1 refl first (omega (arith, us-all, a-all, small))
    (omega (arith, vs-all, b-all, small')) in
    let value : length (encode_utf8_all a.value) ≡ length (encode_utf8_all b.value) =
    word-at (attribute_numbers at a) (attribute_numbers at' b) 3 refl first (omega (arith, us-all, a-all, small))
    (omega (arith, vs-all, b-all, small')) in
    let rest = attributes-length us vs (at + length (attribute_texts a)) (at' + length (attribute_texts b)) (omega (arith, same)) others
    (omega (arith, us-all, small)) (omega (arith, vs-all, small')) in
    omega (arith, us-all, vs-all, a-all, b-all, name, value, rest)

-- how many attributes a node has
abbrev pub attribute_count : NodeData → ℕ
attribute_count (Element name attributes template integration_point) = length attributes
attribute_count _ = 0

pub records-length : (at : ℕ) (attributes : List Attribute) → length (attribute_records at attributes) ≡ 24 * length attributes
records-length at [] = refl
records-length at (a ∷ us) =
    length-append (words (attribute_numbers at a)) (attribute_records (at + length (attribute_texts a)) us)
    ∙ (let one = words-length (attribute_numbers at a) in
    let others = records-length (at + length (attribute_texts a)) us in omega (arith, one, others))

pub attributes-size : (at : ℕ) (about : NodeData) → length (node_attributes at about) ≡ 24 * attribute_count about
attributes-size at Document = refl
attributes-size at Contents = refl
attributes-size at (Doctype name public_id system_id) = refl
attributes-size at (Text text) = refl
attributes-size at (Comment text) = refl
attributes-size at (ProcessingInstruction target text) = refl
attributes-size at (Element name attributes template integration_point) =
    records-length (at + length (encode_utf8_all name.local)) attributes

pub record IsElement (about : NodeData) : Type 0 where
  pub name : QualName
  pub attributes : List Attribute
  pub template : Bool
  pub point : Bool
  pub is : about ≡ Element name attributes template point

element-of : (about : NodeData) → node_type about ≡ 1 → IsElement about
element-of Document e = absurd (omega (arith, e))
element-of Contents e = absurd (omega (arith, e))
element-of (Doctype name public_id system_id) e = absurd (omega (arith, e))
element-of (Text text) e = absurd (omega (arith, e))
element-of (Comment text) e = absurd (omega (arith, e))
element-of (ProcessingInstruction target text) e = absurd (omega (arith, e))
element-of (Element name attributes template integration_point) e = record {
  name = name;
  attributes = attributes;
  template = template;
  point = integration_point;
  is = refl;
}

plain-count : (about : NodeData) → node_type about ≢ 1 → attribute_count about ≡ 0
plain-count Document other = refl
plain-count Contents other = refl
plain-count (Doctype name public_id system_id) other = refl
plain-count (Text text) other = refl
plain-count (Comment text) other = refl
plain-count (ProcessingInstruction target text) other = refl
plain-count (Element name attributes template integration_point) other = absurd (other refl)

-- two nodes of one type, and where their texts and attributes begin
module _ (at first at' first' : ℕ) (contents contents' : Option ℕ) where
  sizes : (a b : NodeData) → length (extents at first contents a) ≡ length (extents at' first' contents' b)
  sizes a b = extents-length at first contents a ∙ sym (extents-length at' first' contents' b)

  pub counts-same : (a b : NodeData) → node_type a ≡ node_type b
      → words (extents at first contents a) ≡ words (extents at' first' contents' b)
      → attribute_count a < 2 ^ 32 → attribute_count b < 2 ^ 32 → attribute_count a ≡ attribute_count b
  counts-same a b type same small small' =
      elim (cases_eq (node_type a) 1) [
        | inl element ↦
            let p = element-of a element in
            let q = element-of b (sym type ∙ element) in
            let count : get_or (extents at first contents a) 3 0 ≡ attribute_count a = rw (p.is) refl in
            let count' : get_or (extents at' first' contents' b) 3 0 ≡ attribute_count b = rw (q.is) refl in
            sym count ∙ word-at (extents at first contents a) (extents at' first' contents' b) 3 (sizes a b) same
            (omega (arith, count, small)) (omega (arith, count', small')) ∙ count'
        | inr other ↦ plain-count a other ∙ sym (plain-count b (λ e. other (type ∙ e)))
      ]

  plain-same : (a b : NodeData) → node_type a ≢ 1 → node_type b ≢ 1
      → words (extents at first contents a) ≡ words (extents at' first' contents' b)
      → length (node_texts a) < 2 ^ 32 → length (node_texts b) < 2 ^ 32 → length (node_texts a) ≡ length (node_texts b)
  plain-same a b other other' same small small' =
      let size = plain-length at first contents a other in
      let size' = plain-length at' first' contents' b other' in
      let one = word-at (extents at first contents a) (extents at' first' contents' b) 1 (sizes a b) same
      (omega (arith, size, small)) (omega (arith, size', small')) in
      let two = word-at (extents at first contents a) (extents at' first' contents' b) 3 (sizes a b) same
      (omega (arith, size, small)) (omega (arith, size', small')) in
      let three = word-at (extents at first contents a) (extents at' first' contents' b) 5 (sizes a b) same
      (omega (arith, size, small)) (omega (arith, size', small')) in
      omega (arith, size, size', one, two, three)

  element-same : (a b : NodeData) → IsElement a → IsElement b
      → words (extents at first contents a) ≡ words (extents at' first' contents' b)
      → node_attributes at a ≡ node_attributes at' b → attribute_count a ≡ attribute_count b
      → length (node_texts a) < 2 ^ 32 → length (node_texts b) < 2 ^ 32 → length (node_texts a) ≡ length (node_texts b)
  element-same a b p q same records counts small small' =
      let local = encode_utf8_all p.name.local in
      let local' = encode_utf8_all q.name.local in
      let size : length (node_texts a) ≡ length local + length (all_attribute_texts p.attributes) =
      rw (p.is) (length-append local (all_attribute_texts p.attributes)) in
      let size' : length (node_texts b) ≡ length local' + length (all_attribute_texts q.attributes) =
      rw (q.is) (length-append local' (all_attribute_texts q.attributes)) in
      let there : get_or (extents at first contents a) 1 0 ≡ length local = rw (p.is) refl in
      let there' : get_or (extents at' first' contents' b) 1 0 ≡ length local' = rw (q.is) refl in
      let locals : length local ≡ length local' =
      sym there ∙ word-at (extents at first contents a) (extents at' first' contents' b) 1 (sizes a b) same
      (omega (arith, there, size, small)) (omega (arith, there', size', small')) ∙ there' in
      let records-are : attribute_records (at + length local) p.attributes ≡ node_attributes at a = rw (p.is) refl in
      let records-are' : attribute_records (at' + length local') q.attributes ≡ node_attributes at' b = rw (q.is) refl in
      let count : attribute_count a ≡ length p.attributes = rw (p.is) refl in
      let count' : attribute_count b ≡ length q.attributes = rw (q.is) refl in
      let others = attributes-length p.attributes q.attributes (at + length local) (at' + length local') (sym count ∙ counts ∙ count')
      (records-are ∙ records ∙ sym records-are') (omega (arith, size, small)) (omega (arith, size', small')) in
      omega (arith, size, size', locals, others)

  pub texts-length : (a b : NodeData) → node_type a ≡ node_type b
      → words (extents at first contents a) ≡ words (extents at' first' contents' b)
      → node_attributes at a ≡ node_attributes at' b → attribute_count a ≡ attribute_count b
      → length (node_texts a) < 2 ^ 32 → length (node_texts b) < 2 ^ 32 → length (node_texts a) ≡ length (node_texts b)
  texts-length a b type same records counts small small' =
      elim (cases_eq (node_type a) 1) [
        | inl element ↦
            element-same a b (element-of a element) (element-of b (sym type ∙ element)) same records counts small small'
        | inr other ↦ plain-same a b other (λ e. other (type ∙ e)) same small small'
      ]
