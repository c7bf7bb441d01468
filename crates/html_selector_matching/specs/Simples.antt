-- What one simple selector asks of an element (Selectors Level 4, sections 5 to 14; HTML Standard, section 4.16.2).
use Rattle.std.specs.Prelude.{ℕ, ◌==◌, ◌&&◌, ◌||◌, ◌-◌, ◌%◌, suc, Bool, true, false, cond, List, map, filter, length}
use Rattle.std.specs.Prelude.{Option, Some, None, nat_eq, nat_le, codes, encode_utf8_all}
use Rattle.std.specs.Char.{to_ascii_lowercase}
use Rattle.std.specs.Cmp.Lexicographic.{pointwise}
use Rattle.std.specs.List.{list_all, list_any}
use Rattle.std.specs.Str.{bytes_eq}
use Rattle.markup.specs.Forest.{Forest, NodeData, children_of, data_of, element_name, parent_of}
use Rattle.markup.specs.Namespaces.{name_of}
use Rattle.markup.specs.declared.attributes.Attribute.{Attribute}
use Rattle.markup.specs.declared.names.QualName.{QualName}
use Rattle.markup.specs.declared.namespaces.KnownNamespace.{KnownNamespace}
use Rattle.markup.specs.declared.namespaces.KnownNamespace.TheVariants.{Html}
use Rattle.markup.specs.declared.quirks.QuirksMode.{QuirksMode}
use Rattle.markup.specs.declared.quirks.QuirksMode.TheVariants.{Quirks}
use Rattle.html_nodes.specs.Looks.{attribute_of, attributes_of}
use Rattle.html_selector_matching.specs.Around.{is_element, nodes_after, nodes_before}
use Rattle.selectors.specs.Compare.{has_word, holds, same}
use Rattle.selectors.specs.declared.selector.AttributeTest.{AttributeTest}
use Rattle.selectors.specs.declared.selector.CaseSensitivity.{CaseSensitivity}
use Rattle.selectors.specs.declared.selector.CaseSensitivity.TheVariants.{AsHtml, Insensitive, Sensitive}
use Rattle.selectors.specs.declared.selector.NamespaceTest.{NamespaceTest}
use Rattle.selectors.specs.declared.selector.NamespaceTest.TheVariants.{Any, Only}
use Rattle.selectors.specs.declared.selector.Nth.{Nth}
use Rattle.selectors.specs.declared.selector.Simple.{Simple}
use Rattle.selectors.specs.declared.selector.Simple.TheVariants.{«Type», Namespace, Id, Class, Attribute as WithAttribute, Root}
use Rattle.selectors.specs.declared.selector.Simple.TheVariants.{Scope, Empty, NthChild, NthOfType}

-- NAMES

abbrev pub is_html : QualName → Bool
is_html name = bytes_eq name.ns (name_of Html)

-- what HTML's elements and their attributes are asked for: the name in lower case
abbrev pub asked_of : Bool → List ℕ → List ℕ
asked_of html wanted = encode_utf8_all (cond html (map to_ascii_lowercase wanted) wanted)

abbrev pub is_named : Option QualName → List ℕ → Bool
is_named None wanted = false
is_named (Some name) wanted = bytes_eq (encode_utf8_all name.local) (asked_of (is_html name) wanted)

abbrev pub is_in_namespace : Option QualName → KnownNamespace → Bool
is_in_namespace None wanted = false
is_in_namespace (Some name) wanted = bytes_eq name.ns (name_of wanted)

-- ATTRIBUTES

abbrev pub is_quirky : QuirksMode → Bool
is_quirky Quirks = true
is_quirky _ = false

-- whether a value, if there is one, passes a test of its bytes
abbrev pub passes_value : Option (List ℕ) → (List ℕ → Bool) → Bool
passes_value None test = false
passes_value (Some value) test = test (encode_utf8_all value)

-- HTML's attributes whose values are compared without the case of ASCII letters
abbrev pub is_one : List ℕ → Bool
is_one name =
    bytes_eq name (codes "accept") || bytes_eq name (codes "accept-charset") || bytes_eq name (codes "align")
    || bytes_eq name (codes "alink") || bytes_eq name (codes "axis") || bytes_eq name (codes "bgcolor")
    || bytes_eq name (codes "charset") || bytes_eq name (codes "checked") || bytes_eq name (codes "clear")
    || bytes_eq name (codes "codetype") || bytes_eq name (codes "color") || bytes_eq name (codes "compact")

abbrev pub is_two : List ℕ → Bool
is_two name =
    bytes_eq name (codes "declare") || bytes_eq name (codes "defer") || bytes_eq name (codes "dir")
    || bytes_eq name (codes "direction") || bytes_eq name (codes "disabled") || bytes_eq name (codes "enctype")
    || bytes_eq name (codes "face") || bytes_eq name (codes "frame") || bytes_eq name (codes "hreflang")
    || bytes_eq name (codes "http-equiv") || bytes_eq name (codes "lang") || bytes_eq name (codes "language")

abbrev pub is_three : List ℕ → Bool
is_three name =
    bytes_eq name (codes "link") || bytes_eq name (codes "media") || bytes_eq name (codes "method")
    || bytes_eq name (codes "multiple") || bytes_eq name (codes "nohref") || bytes_eq name (codes "noresize")
    || bytes_eq name (codes "noshade") || bytes_eq name (codes "nowrap") || bytes_eq name (codes "readonly")
    || bytes_eq name (codes "rel") || bytes_eq name (codes "rev") || bytes_eq name (codes "rules")

abbrev pub is_four : List ℕ → Bool
is_four name =
    bytes_eq name (codes "scope") || bytes_eq name (codes "scrolling") || bytes_eq name (codes "selected")
    || bytes_eq name (codes "shape") || bytes_eq name (codes "target") || bytes_eq name (codes "text")
    || bytes_eq name (codes "type") || bytes_eq name (codes "valign") || bytes_eq name (codes "valuetype")
    || bytes_eq name (codes "vlink")

abbrev pub is_insensitive_name : List ℕ → Bool
is_insensitive_name name = is_one name || (is_two name || (is_three name || is_four name))

abbrev pub is_insensitive : CaseSensitivity → Bool → List ℕ → Bool
is_insensitive Insensitive html name = true
is_insensitive Sensitive html name = false
is_insensitive AsHtml html name = html && is_insensitive_name (encode_utf8_all (map to_ascii_lowercase name))

abbrev pub is_in : NamespaceTest → List ℕ → Bool
is_in Any ns = true
is_in (Only wanted) ns = bytes_eq ns (name_of wanted)

-- whether an attribute, of an element of HTML or another one, is as asked
abbrev pub is_attribute : Bool → AttributeTest → Attribute → Bool
is_attribute html test attribute =
    is_in test.namespace attribute.name.ns && (bytes_eq (encode_utf8_all attribute.name.local) (asked_of html test.name)
    && holds test.operator (is_insensitive test.case html test.name) (encode_utf8_all attribute.value) (encode_utf8_all test.value))

-- one of the attributes is
abbrev pub has_attribute : Option QualName → List Attribute → AttributeTest → Bool
has_attribute None attributes test = false
has_attribute (Some name) attributes test = list_any (is_attribute (is_html name) test) attributes

-- PLACES

abbrev pub is_it : Option ℕ → ℕ → Bool
is_it None m = false
is_it (Some n) m = n == m

-- neither an element nor a text with characters
abbrev pub is_nothing : NodeData → Bool
is_nothing (NodeData.Element name attributes template integration_point) = false
is_nothing (NodeData.Text characters) = length characters == 0
is_nothing _ = true

-- whether a number is `first`, or a number of steps away from it in one direction
unfoldable pub is_nth : Nth → ℕ → Bool
is_nth nth at =
    let low = cond nth.descends at nth.first in
    let high = cond nth.descends nth.first at in
    nat_le low high && cond (nth.step == 0) (low == high) ((high - low) % nth.step == 0)

-- the nodes under the same parent on one side of a node
abbrev pub nodes_beside : Bool → Forest → ℕ → List ℕ
nodes_beside from_end f n = cond from_end (nodes_after f n) (nodes_before f n)

-- the place of a node among those under its parent that pass a test
abbrev pub place_of : (ℕ → Bool) → Bool → Forest → ℕ → ℕ
place_of test from_end f n = suc (length (filter test (nodes_beside from_end f n)))

abbrev pub have_same_name : Option QualName → Option QualName → Bool
have_same_name (Some one) (Some two) = pointwise nat_eq one.ns two.ns && pointwise nat_eq one.local two.local
have_same_name _ _ = false

-- whether an element counts for the place of another one of this name, if one is given
abbrev pub counts : Forest → Option QualName → ℕ → Bool
counts f None m = is_element f m
counts f (Some name) m = have_same_name (Some name) (element_name (data_of f m))

-- SIMPLE SELECTORS

abbrev pub is_simple : Forest → ℕ → ℕ → Simple → Bool
is_simple f scope n («Type» wanted) = is_named (element_name (data_of f n)) wanted
is_simple f scope n (Namespace wanted) = is_in_namespace (element_name (data_of f n)) wanted
is_simple f scope n (Id wanted) =
    passes_value (attribute_of f n (codes "id")) (λ value. same (is_quirky f.quirks) value (encode_utf8_all wanted))
is_simple f scope n (Class wanted) =
    passes_value (attribute_of f n (codes "class")) (λ value. has_word (is_quirky f.quirks) value (encode_utf8_all wanted))
is_simple f scope n (WithAttribute test) = has_attribute (element_name (data_of f n)) (attributes_of (data_of f n)) test
is_simple f scope n Root = is_it (parent_of f n) 0
is_simple f scope n Scope = n == scope
is_simple f scope n Empty = list_all (λ child. is_nothing (data_of f child)) (children_of f n)
is_simple f scope n (NthChild nth) = is_nth nth (place_of (counts f None) nth.from_end f n)
is_simple f scope n (NthOfType nth) = is_nth nth (place_of (counts f (element_name (data_of f n))) nth.from_end f n)
