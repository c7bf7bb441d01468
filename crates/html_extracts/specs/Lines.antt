-- A tree line by line, as the tests of html5lib print it: a line for each node, each with a bar, two spaces for each node around it, and
-- what the node is; an element's attributes follow in lines of their own, and so does the word `content` in a template.
use Rattle.std.specs.Prelude.{ℕ, ◌-◌, ◌==◌, ◌&&◌, Bool, cond, List, [], ◌∷◌, ◌++◌, length, take, Option, Some, None}
use Rattle.std.specs.Prelude.{Ok, Err, codes, encode_utf8_all}
use Rattle.std.specs.BTreeMap.{insert_entry}
use Rattle.std.specs.Cmp.Lexicographic.{slice_cmp}
use Rattle.std.specs.Ordering.{nat_cmp}
use Rattle.std.specs.Str.{bytes_eq}
use Rattle.markup.specs.declared.attributes.Attribute.{Attribute}
use Rattle.markup.specs.Forest.{Forest, NodeData, children_of, data_of}
use Rattle.markup.specs.Forest.NodeData.{Doctype}
use Rattle.markup.specs.declared.namespaces.KnownNamespace.{KnownNamespace}
use Rattle.markup.specs.declared.namespaces.KnownNamespace.TheVariants.{Html, MathMl, NoNamespace, Svg, XLink, Xml, Xmlns}
use Rattle.markup.specs.Namespaces.{known_namespace, name_of}
use Rattle.markup.specs.declared.names.QualName.{QualName}
use Rattle.markup.specs.Calls.{Call, Refuses, Step, calls_of}
use Rattle.markup.specs.Calls.Call.{StartElem, EndElem, WriteText, WriteComment, WriteDoctype, WriteProcessingInstruction}
use Rattle.markup.specs.declared.serializer.TraversalScope.TheVariants.{IncludeNode}
use Rattle.html_forest.specs.Walk.{walked}
use Rattle.html_serialize.specs.Puts.{WriterView, with_bytes}
use Rattle.html_serialize.specs.Serializing.{Writes}

-- a line after so many spaces
abbrev pub line : List ℕ → List ℕ → List ℕ
line indent words = codes "| " ++ indent ++ words ++ 10 ∷ []

-- NAMES

-- the word before a name, by its namespace
abbrev pub word_of : Option KnownNamespace → List ℕ
word_of (Some Svg) = codes "svg "
word_of (Some MathMl) = codes "math "
word_of (Some XLink) = codes "xlink "
word_of (Some Xml) = codes "xml "
word_of (Some Xmlns) = codes "xmlns "
word_of (Some Html) = []
word_of (Some NoNamespace) = []
word_of None = []

-- a name after the word of its namespace
abbrev pub shown_name : QualName → List ℕ
shown_name name = word_of (known_namespace name.ns) ++ name.local

-- ELEMENTS

-- names and values in the order of the names
abbrev pub rows_from : List (List ℕ × List ℕ) → List Attribute → List (List ℕ × List ℕ)
rows_from rows [] = rows
rows_from rows (attribute ∷ others) = rows_from (insert_entry (slice_cmp nat_cmp) rows (shown_name attribute.name) attribute.value) others

-- a line for each name with its value
abbrev pub row_lines : List ℕ → List (List ℕ × List ℕ) → List ℕ
row_lines indent [] = []
row_lines indent (row ∷ rows) = line indent (encode_utf8_all row.0 ++ codes "=\"" ++ encode_utf8_all row.1
    ++ codes "\"") ++ row_lines indent rows

abbrev pub two_spaces : List ℕ
two_spaces = codes "  "

-- whether an element of that name is a template
abbrev pub is_template : QualName → Bool
is_template name = bytes_eq name.ns (name_of Html) && bytes_eq (encode_utf8_all name.local) (codes "template")

-- how much further what stands in an element is moved in
abbrev pub inside : QualName → List ℕ
inside name = cond (is_template name) (codes "    ") two_spaces

unfoldable pub content_line : List ℕ → QualName → List ℕ
content_line indent name = cond (is_template name) (line indent (codes "content")) []

abbrev pub element_lines : List ℕ → QualName → List Attribute → List ℕ
element_lines indent name attributes =
    line indent (codes "<" ++ encode_utf8_all (shown_name name) ++ codes ">")
    ++ (row_lines (indent ++ two_spaces) (rows_from [] attributes) ++ content_line (indent ++ two_spaces) name)

-- OTHERS

abbrev pub text_line : List ℕ → List ℕ → List ℕ
text_line indent text = line indent (codes "\"" ++ encode_utf8_all text ++ codes "\"")

abbrev pub comment_line : List ℕ → List ℕ → List ℕ
comment_line indent text = line indent (codes "<!-- " ++ encode_utf8_all text ++ codes " -->")

abbrev pub instruction_line : List ℕ → List ℕ → List ℕ → List ℕ
instruction_line indent target text = line indent (codes "<?" ++ encode_utf8_all target ++ codes " " ++ encode_utf8_all text ++ codes ">")

-- the identifiers of a doctype, in bytes, if it has one
unfoldable pub identifiers : List ℕ → List ℕ → List ℕ
identifiers public_id system_id =
    cond ((length public_id == 0) && (length system_id == 0)) [] (codes " \"" ++ public_id ++ codes "\" \"" ++ system_id ++ codes "\"")

-- the line of a doctype, whose name and identifiers are given in bytes
abbrev pub doctype_line : List ℕ → List ℕ → List ℕ → List ℕ
doctype_line name public_id system_id = line [] (codes "<!DOCTYPE " ++ name ++ identifiers public_id system_id ++ codes ">")

-- WALKS

-- the lines of a call
abbrev pub call_lines : List ℕ → Call → List ℕ
call_lines indent (StartElem name attributes) = element_lines indent name attributes
call_lines indent (EndElem name) = []
call_lines indent (WriteText text) = text_line indent text
call_lines indent (WriteComment text) = comment_line indent text
call_lines indent (WriteDoctype name) = line indent (codes "<!DOCTYPE " ++ encode_utf8_all name ++ codes ">")
call_lines indent (WriteProcessingInstruction target text) = instruction_line indent target text

-- how far what follows a call is moved in
abbrev pub indent_after : List ℕ → Call → List ℕ
indent_after indent (StartElem name attributes) = indent ++ inside name
indent_after indent (EndElem name) = take (length indent - length (inside name)) indent
indent_after indent _ = indent

-- the lines of calls
abbrev pub walk_lines : List ℕ → List Call → List ℕ
walk_lines indent [] = []
walk_lines indent (call ∷ calls) = call_lines indent call ++ walk_lines (indent_after indent call) calls

-- the lines of a node and of all that stands in it
abbrev pub data_lines : NodeData → List Call → List ℕ
data_lines (Doctype name public_id system_id) calls = doctype_line (encode_utf8_all name)
    (encode_utf8_all public_id) (encode_utf8_all system_id)
data_lines _ calls = walk_lines [] calls

abbrev pub node_lines : Forest → ℕ → List ℕ
node_lines f n = data_lines (data_of f n) (calls_of (walked f n IncludeNode))

-- the lines of nodes, one after the other
abbrev pub all_lines : Forest → List ℕ → List ℕ
all_lines f [] = []
all_lines f (n ∷ ns) = node_lines f n ++ all_lines f ns

-- the lines of what stands in a node
abbrev pub tree_lines : Forest → ℕ → List ℕ
tree_lines f top = all_lines f (children_of f top)

-- WHO WRITES THEM

-- what is known of who writes lines: how far the next one is moved in, and what the writer tells
pub record Lines : Type 0 where
  pub indent : List ℕ
  pub told : WriterView

-- a call more
abbrev pub listed : Step Lines
listed lines call = Ok (record {
  indent = indent_after lines.indent call;
  told = with_bytes lines.told (call_lines lines.indent call);
})

-- what a call that is refused leaves: a beginning of its lines was written, and then a write failed or memory was wanted
abbrev pub refuses : Refuses Lines
refuses lines call fault after = Writes {R = Unit {0}} (call_lines lines.indent call) lines.told (Err fault) after.told
