-- What is asked of a node: its name, its attributes, its classes and its text (DOM Standard, sections 4.4, 4.9 and 4.11).
use Rattle.std.specs.Prelude.{ℕ, ◌==◌, ◌&&◌, Bool, true, false, cond, not, List, [], ◌∷◌, ◌++◌, length, Option, Some, None}
use Rattle.std.specs.Prelude.{is_some, codes, encode_utf8_all}
use Rattle.std.specs.Borrow.{Bor}
use Rattle.std.specs.Char.{is_ascii_whitespace}
use Rattle.std.specs.List.{list_any, slice_split}
use Rattle.std.specs.Str.{bytes_eq}
use Rattle.markup.specs.Forest.{Forest, NodeData, data_of, element_name, text_of}
use Rattle.markup.specs.Forest.NodeData.{Element}
use Rattle.markup.specs.Namespaces.{name_of}
use Rattle.markup.specs.declared.attributes.Attribute.{Attribute}
use Rattle.markup.specs.declared.names.QualName.{QualName}
use Rattle.markup.specs.declared.namespaces.KnownNamespace.TheVariants.{Html, NoNamespace}
use Rattle.html_nodes.specs.declared.queries.Query.{Query}

-- whether characters are those that bytes spell
abbrev pub is_spelled : List ℕ → List ℕ → Bool
is_spelled characters bytes = bytes_eq (encode_utf8_all characters) bytes

-- NAMES

-- whether it is the name of an HTML element, with that local name
abbrev pub names_html : Option QualName → List ℕ → Bool
names_html None local = false
names_html (Some name) local = bytes_eq name.ns (name_of Html) && is_spelled name.local local

abbrev pub is_html : Forest → ℕ → List ℕ → Bool
is_html f n local = names_html (element_name (data_of f n)) local

-- ATTRIBUTES

abbrev pub attributes_of : NodeData → List Attribute
attributes_of (Element name attributes template integration_point) = attributes
attributes_of _ = []

-- the value of the first attribute with that local name that is in no namespace
abbrev pub value_in : List Attribute → List ℕ → Option (List ℕ)
value_in [] local = None
value_in (attribute ∷ others) local =
    cond (bytes_eq attribute.name.ns (name_of NoNamespace) && is_spelled attribute.name.local local)
    (Some attribute.value) (value_in others local)

abbrev pub attribute_of : Forest → ℕ → List ℕ → Option (List ℕ)
attribute_of f n local = value_in (attributes_of (data_of f n)) local

-- whether there is a value, of that spelling
abbrev pub is_value : Option (List ℕ) → List ℕ → Bool
is_value None bytes = false
is_value (Some value) bytes = is_spelled value bytes

-- whether there is a value, and one of the words that ASCII white space parts in it has that spelling; no word is empty
abbrev pub has_word : Option (List ℕ) → List ℕ → Bool
has_word None word = false
has_word (Some value) word = not (length word == 0) && list_any (λ part. bytes_eq part word)
    (slice_split is_ascii_whitespace (encode_utf8_all value))

-- TEXT

abbrev pub text_or_none : Option (List ℕ) → List ℕ
text_or_none None = []
text_or_none (Some characters) = characters

abbrev pub text_in : Forest → ℕ → List ℕ
text_in f n = text_or_none (text_of (data_of f n))

-- the texts of nodes, joined
abbrev pub texts_of : Forest → List ℕ → List ℕ
texts_of f [] = []
texts_of f (n ∷ ns) = text_in f n ++ texts_of f ns

-- QUERIES

abbrev pub meets : Option (Bor (List ℕ)) → (List ℕ → Bool) → Bool
meets None test = true
meets (Some wanted) test = test wanted.now

-- whether a node is an element that has all that is asked for
abbrev pub fits : Forest → Query → ℕ → Bool
fits f query n =
    is_some (element_name (data_of f n)) && (meets query.name (is_html f n)
    && (meets query.id (is_value (attribute_of f n (codes "id"))) && meets query.class (has_word (attribute_of f n (codes "class")))))
