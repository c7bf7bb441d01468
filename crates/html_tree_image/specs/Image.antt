-- A forest as one block of bytes (docs/TREE_IMAGE.md): a header, a record for each node, a record for each attribute, and texts in UTF-8.
-- Numbers have 32 bits, the lowest byte first, and places are counted in bytes from the start of a part.
use Rattle.std.specs.Prelude.{ℕ, zero, suc, ◌+◌, ◌*◌, ◌^◌, Bool, true, false, ◌||◌, nat_le, List, [], ◌∷◌, ◌++◌, length}
use Rattle.std.specs.Prelude.{Option, Some, None, codes, encode_utf8_all}
use Rattle.std.specs.Int.{w64, bytes_low_first, to_le_bytes}
use Rattle.markup.specs.Forest.{Forest, NodeData, children_of, contents_of, data_of, last_of, node_count, parent_of}
use Rattle.markup.specs.Forest.NodeData.{Document, Contents, Doctype, Text, Comment, ProcessingInstruction, Element}
use Rattle.markup.specs.Namespaces.{known_namespace}
use Rattle.markup.specs.declared.attributes.Attribute.{Attribute}
use Rattle.markup.specs.declared.names.QualName.{QualName}
use Rattle.markup.specs.declared.namespaces.KnownNamespace.{KnownNamespace}
use Rattle.markup.specs.declared.namespaces.KnownNamespace.TheVariants.{NoNamespace, Html, MathMl, Svg, XLink, Xml, Xmlns}
use Rattle.markup.specs.declared.quirks.QuirksMode.{QuirksMode}
use Rattle.markup.specs.declared.quirks.QuirksMode.TheVariants.{NoQuirks, LimitedQuirks, Quirks}
use Rattle.html_forest.specs.Links.{first_of, next_under, previous_under}

-- NUMBERS

-- the low 32 bits of a number
unfoldable pub word : ℕ → List ℕ
word n = bytes_low_first 0 4 n

abbrev pub words : List ℕ → List ℕ
words [] = []
words (n ∷ ns) = word n ++ words ns

-- a node, or none
abbrev pub link : Option ℕ → ℕ
link None = 4294967295
link (Some n) = n

abbrev pub known_number : Option KnownNamespace → ℕ
known_number (Some NoNamespace) = 0
known_number (Some Html) = 1
known_number (Some MathMl) = 2
known_number (Some Svg) = 3
known_number (Some XLink) = 4
known_number (Some Xml) = 5
known_number (Some Xmlns) = 6
known_number None = 7

-- a namespace, by its name
abbrev pub namespace_number : List ℕ → ℕ
namespace_number name = known_number (known_namespace name)

abbrev pub quirks_number : QuirksMode → ℕ
quirks_number NoQuirks = 0
quirks_number LimitedQuirks = 1
quirks_number Quirks = 2

-- ATTRIBUTES

abbrev pub prefix_bytes : Option (List ℕ) → List ℕ
prefix_bytes None = []
prefix_bytes (Some prefix) = encode_utf8_all prefix ++ codes ":"

-- the qualified name of an attribute (DOM Standard, section 4.9.2)
abbrev pub name_bytes : QualName → List ℕ
name_bytes name = prefix_bytes name.prefix ++ encode_utf8_all name.local

abbrev pub attribute_texts : Attribute → List ℕ
attribute_texts attribute = name_bytes attribute.name ++ encode_utf8_all attribute.value

abbrev pub all_attribute_texts : List Attribute → List ℕ
all_attribute_texts [] = []
all_attribute_texts (attribute ∷ others) = attribute_texts attribute ++ all_attribute_texts others

-- An attribute whose texts begin at a place: where its name is and its length, where its value is and its length, its namespace, and how
-- many bytes of the name stand before the local name.
abbrev pub attribute_numbers : ℕ → Attribute → List ℕ
attribute_numbers at attribute = at ∷ length (name_bytes attribute.name) ∷ (at + length (name_bytes attribute.name))
    ∷ length (encode_utf8_all attribute.value) ∷ namespace_number attribute.name.ns ∷ length (prefix_bytes attribute.name.prefix) ∷ []

abbrev pub attribute_records : ℕ → List Attribute → List ℕ
attribute_records at [] = []
attribute_records at (attribute ∷ others) =
    words (attribute_numbers at attribute) ++ attribute_records (at + length (attribute_texts attribute)) others

-- NODES

-- what a node is, as `nodeType` has it (DOM Standard, section 4.4); the contents of a template are a fragment
abbrev pub node_type : NodeData → ℕ
node_type Document = 9
node_type Contents = 11
node_type (Doctype name public_id system_id) = 10
node_type (Text text) = 3
node_type (Comment text) = 8
node_type (ProcessingInstruction target text) = 7
node_type (Element name attributes template integration_point) = 1

abbrev pub point_number : Bool → ℕ
point_number true = 65536
point_number false = 0

-- in the first byte what a node is, in the second the namespace of an element, and in the third 1 where HTML may stand in an element though
-- its name is MathML's
abbrev pub kind_number : NodeData → ℕ
kind_number (Element name attributes template integration_point) =
    1 + (256 * namespace_number name.ns + point_number integration_point)
kind_number about = node_type about

abbrev pub node_texts : NodeData → List ℕ
node_texts Document = []
node_texts Contents = []
node_texts (Doctype name public_id system_id) = encode_utf8_all name ++ (encode_utf8_all public_id ++ encode_utf8_all system_id)
node_texts (Text text) = encode_utf8_all text
node_texts (Comment text) = encode_utf8_all text
node_texts (ProcessingInstruction target text) = encode_utf8_all target ++ encode_utf8_all text
node_texts (Element name attributes template integration_point) = encode_utf8_all name.local ++ all_attribute_texts attributes

-- the records of an element's attributes, where the node's texts begin at a place
abbrev pub node_attributes : ℕ → NodeData → List ℕ
node_attributes at (Element name attributes template integration_point) =
    attribute_records (at + length (encode_utf8_all name.local)) attributes
node_attributes at about = []

-- Where what a node has is, if its texts and its attributes begin at these places: of a text its place and its length; of an element also
-- where its attributes begin, how many there are, and the node of a template's contents.
abbrev pub extents : (at first : ℕ) → Option ℕ → NodeData → List ℕ
extents at first contents Document = 0 ∷ 0 ∷ 0 ∷ 0 ∷ 0 ∷ 0 ∷ []
extents at first contents Contents = 0 ∷ 0 ∷ 0 ∷ 0 ∷ 0 ∷ 0 ∷ []
extents at first contents (Doctype name public_id system_id) = at ∷ length (encode_utf8_all name)
    ∷ (at + length (encode_utf8_all name)) ∷ length (encode_utf8_all public_id)
    ∷ (at + length (encode_utf8_all name) + length (encode_utf8_all public_id)) ∷ length (encode_utf8_all system_id) ∷ []
extents at first contents (Text text) = at ∷ length (encode_utf8_all text) ∷ 0 ∷ 0 ∷ 0 ∷ 0 ∷ []
extents at first contents (Comment text) = at ∷ length (encode_utf8_all text) ∷ 0 ∷ 0 ∷ 0 ∷ 0 ∷ []
extents at first contents (ProcessingInstruction target text) = at ∷ length (encode_utf8_all target)
    ∷ (at + length (encode_utf8_all target)) ∷ length (encode_utf8_all text) ∷ 0 ∷ 0 ∷ []
extents at first contents (Element name attributes template integration_point) = at ∷ length (encode_utf8_all name.local)
    ∷ first ∷ length attributes ∷ link contents ∷ 0 ∷ []

-- a node's parent, first and last child, previous and next sibling
abbrev pub links : Forest → ℕ → List ℕ
links f n = link (parent_of f n) ∷ link (first_of (children_of f n)) ∷ link (last_of (children_of f n))
    ∷ link (previous_under f n (parent_of f n)) ∷ link (next_under f n (parent_of f n)) ∷ []

abbrev pub node_record : Forest → ℕ → (at first : ℕ) → List ℕ
node_record f n at first = words (kind_number (data_of f n) ∷ links f n) ++ words (extents at first (contents_of f n) (data_of f n))

-- PARTS

-- of the first so many nodes the texts, the records of their attributes, and their records
abbrev pub texts_upto : Forest → ℕ → List ℕ
texts_upto f zero = []
texts_upto f (suc n) = texts_upto f n ++ node_texts (data_of f n)

abbrev pub attributes_upto : Forest → ℕ → List ℕ
attributes_upto f zero = []
attributes_upto f (suc n) = attributes_upto f n ++ node_attributes (length (texts_upto f n)) (data_of f n)

abbrev pub nodes_upto : Forest → ℕ → List ℕ
nodes_upto f zero = []
nodes_upto f (suc n) = nodes_upto f n ++ node_record f n (length (texts_upto f n)) (length (attributes_upto f n))

abbrev pub texts_of : Forest → List ℕ
texts_of f = texts_upto f (node_count f)

abbrev pub attributes_of : Forest → List ℕ
attributes_of f = attributes_upto f (node_count f)

abbrev pub nodes_of : Forest → List ℕ
nodes_of f = nodes_upto f (node_count f)

-- the format's name and version, the lengths of the parts in bytes, the quirks mode, and the number of errors in eight bytes
abbrev pub header : (nodes attributes texts : ℕ) → QuirksMode → ℕ → List ℕ
header nodes attributes texts quirks errors = codes "FIGT"
    ++ (words (1 ∷ nodes ∷ attributes ∷ texts ∷ quirks_number quirks ∷ []) ++ to_le_bytes w64 errors)

abbrev pub image_of : Forest → List ℕ
image_of f = header (length (nodes_of f)) (length (attributes_of f)) (length (texts_of f)) f.quirks f.errors
    ++ (nodes_of f ++ (attributes_of f ++ texts_of f))

-- whether a part is longer than 32 bits can say
abbrev pub is_too_large : Forest → Bool
is_too_large f = nat_le (2 ^ 32) (length (nodes_of f))
    || (nat_le (2 ^ 32) (length (attributes_of f)) || nat_le (2 ^ 32) (length (texts_of f)))
