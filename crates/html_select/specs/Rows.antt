-- Worked rows, which the check computes: texts of selectors, and the elements of one page that they select.
use Prim.Native.String.{String}
use Rattle.std.specs.Prelude.{◌≡◌, ℕ, true, false, Ok, None, List, [], ◌∷◌, codes, filter, is_ok}
use Rattle.markup.specs.Forest.{Forest, Node}
use Rattle.markup.specs.Forest.NodeData.{Document, Element, Text}
use Rattle.markup.specs.Namespaces.{name_of}
use Rattle.markup.specs.declared.attributes.Attribute.{Attribute}
use Rattle.markup.specs.declared.namespaces.KnownNamespace.{KnownNamespace}
use Rattle.markup.specs.declared.namespaces.KnownNamespace.TheVariants.{Html, Svg, NoNamespace}
use Rattle.markup.specs.declared.quirks.QuirksMode.TheVariants.{NoQuirks}
use Rattle.html_nodes.specs.Below.{below}
use Rattle.html_selector_matching.specs.Selects.{is_any, scope_of}
use Rattle.html_selector_text.specs.Grammar.{parsed}
use Rattle.html_selector_text.specs.Trees.{list_tree}
use Rattle.selectors.specs.declared.selector.Selectors.{Selectors}

-- A PAGE

abbrev pub attribute : String → String → Attribute
attribute name value = record {
  name = record { prefix = None; ns = name_of NoNamespace; local = codes name };
  value = codes value;
}

abbrev pub element : KnownNamespace → String → List Attribute → List ℕ → Node
element namespace name attributes children = record {
  about = Element (record { prefix = None; ns = name_of namespace; local = codes name }) attributes false false;
  children = children;
}

abbrev pub html : String → List Attribute → List ℕ → Node
html = element Html

-- <html lang=en><body><ul id=u><li class=x><a href=https://a.b></a></li><li></li><li class="x y"><b></b><b>t</b><i></i></li></ul>
-- <p title=AbC></p><input type=CHECKBOX checked><svg viewBox=0><a></a></svg>, each element with its number in `nodes`
abbrev pub nodes : List Node
nodes =
    (record { about = Document; children = 1 ∷ [] })
    ∷ html "html" (attribute "lang" "en" ∷ []) (2 ∷ [])
    ∷ html "body" [] (3 ∷ 12 ∷ 13 ∷ 14 ∷ [])
    ∷ html "ul" (attribute "id" "u" ∷ []) (4 ∷ 6 ∷ 7 ∷ [])
    ∷ html "li" (attribute "class" "x" ∷ []) (5 ∷ [])
    ∷ html "a" (attribute "href" "https://a.b" ∷ []) []
    ∷ html "li" [] []
    ∷ html "li" (attribute "class" "x y" ∷ []) (8 ∷ 9 ∷ 11 ∷ [])
    ∷ html "b" [] []
    ∷ html "b" [] (10 ∷ [])
    ∷ (record { about = Text (codes "t"); children = [] })
    ∷ html "i" [] []
    ∷ html "p" (attribute "title" "AbC" ∷ []) []
    ∷ html "input" (attribute "type" "CHECKBOX" ∷ attribute "checked" "" ∷ []) []
    ∷ element Svg "svg" (attribute "viewBox" "0" ∷ []) (15 ∷ [])
    ∷ element Svg "a" [] []
    ∷ []

abbrev pub page : Forest
page = record { nodes = nodes; quirks = NoQuirks; errors = 0 }

-- ROWS

-- the text is selectors, and these are the elements of the page that they select
pub record IsSelected (text found : List ℕ) : Type 0 where
  pub is_selectors : is_ok (parsed text) ≡ true
  pub selected : (selectors : Selectors) → parsed text ≡ Ok (list_tree selectors)
      → filter (is_any selectors page (scope_of page 0)) (below page 0) ≡ found

abbrev pub Row : Type 0
Row = String × List ℕ

abbrev pub AreSelected : List Row → Type 0
AreSelected [] = Unit {0}
AreSelected (row ∷ rows) = IsSelected (codes row.0) row.1 × AreSelected rows

-- types, namespaces, ids and classes
abbrev pub type_rows : List Row
type_rows =
    ("li", 4 ∷ 6 ∷ 7 ∷ [])
    ∷ ("LI", 4 ∷ 6 ∷ 7 ∷ [])
    ∷ ("*", 1 ∷ 2 ∷ 3 ∷ 4 ∷ 5 ∷ 6 ∷ 7 ∷ 8 ∷ 9 ∷ 11 ∷ 12 ∷ 13 ∷ 14 ∷ 15 ∷ [])
    ∷ ("svg|a", 15 ∷ [])
    ∷ ("html|a", 5 ∷ [])
    ∷ ("*|a", 5 ∷ 15 ∷ [])
    ∷ ("|a", [])
    ∷ ("svg|*", 14 ∷ 15 ∷ [])
    ∷ ("#u", 3 ∷ [])
    ∷ ("#U", [])
    ∷ (".x", 4 ∷ 7 ∷ [])
    ∷ (".X", [])
    ∷ ("li.y.x", 7 ∷ [])
    ∷ []

-- attributes
abbrev pub attribute_rows : List Row
attribute_rows =
    ("[href]", 5 ∷ [])
    ∷ ("[HREF]", 5 ∷ [])
    ∷ ("[viewBox]", 14 ∷ [])
    ∷ ("[viewbox]", [])
    ∷ ("[title=AbC]", 12 ∷ [])
    ∷ ("[title=abc]", [])
    ∷ ("[title=abc i]", 12 ∷ [])
    ∷ ("[type=checkbox]", 13 ∷ [])
    ∷ ("[type=checkbox s]", [])
    ∷ ("[class~=y]", 7 ∷ [])
    ∷ ("[lang|=en]", 1 ∷ [])
    ∷ ("[href^='https:']", 5 ∷ [])
    ∷ ("[href$=b]", 5 ∷ [])
    ∷ ("[href*='a.']", 5 ∷ [])
    ∷ []

-- combinators and lists
abbrev pub combinator_rows : List Row
combinator_rows =
    ("ul li", 4 ∷ 6 ∷ 7 ∷ [])
    ∷ ("html body b", 8 ∷ 9 ∷ [])
    ∷ ("body > b", [])
    ∷ ("li > b", 8 ∷ 9 ∷ [])
    ∷ ("li + li", 6 ∷ 7 ∷ [])
    ∷ ("b + b", 9 ∷ [])
    ∷ ("b + i", 11 ∷ [])
    ∷ ("b ~ i", 11 ∷ [])
    ∷ ("* ~ * ~ *", 7 ∷ 11 ∷ 13 ∷ 14 ∷ [])
    ∷ ("ul ~ svg > a", 15 ∷ [])
    ∷ ("p, i, li > a", 5 ∷ 11 ∷ 12 ∷ [])
    ∷ []

-- combinators behind ids, classes and attributes
abbrev pub chain_rows : List Row
chain_rows =
    ("li > *", 5 ∷ 8 ∷ 9 ∷ 11 ∷ [])
    ∷ ("#u b", 8 ∷ 9 ∷ [])
    ∷ ("li.y > b + b", 9 ∷ [])
    ∷ ("svg > *", 15 ∷ [])
    ∷ ("[lang] [href]", 5 ∷ [])
    ∷ (".x ~ .y", 7 ∷ [])
    ∷ []

-- places among all siblings
abbrev pub place_rows : List Row
place_rows =
    ("li:first-child", 4 ∷ [])
    ∷ ("li:last-child", 7 ∷ [])
    ∷ ("b:only-child", [])
    ∷ ("a:only-child", 5 ∷ 15 ∷ [])
    ∷ []

-- places among siblings of a name
abbrev pub of_type_rows : List Row
of_type_rows =
    ("b:first-of-type", 8 ∷ [])
    ∷ ("b:last-of-type", 9 ∷ [])
    ∷ ("i:only-of-type", 11 ∷ [])
    ∷ []

-- pseudo-classes without arguments
abbrev pub class_rows : List Row
class_rows =
    (":root", 1 ∷ [])
    ∷ (":scope", 1 ∷ [])
    ∷ ("li:empty", 6 ∷ [])
    ∷ ("b:empty", 8 ∷ [])
    ∷ []

-- one of several selectors
abbrev pub is_rows : List Row
is_rows =
    ("li:is(.y, :empty)", 6 ∷ 7 ∷ [])
    ∷ (":where(p, i)", 11 ∷ 12 ∷ [])
    ∷ (":is()", [])
    ∷ []

-- relative selectors of what comes behind
abbrev pub behind_rows : List Row
behind_rows =
    ("li:has(> b + i)", 7 ∷ [])
    ∷ ("li:has(+ .y)", 6 ∷ [])
    ∷ ("li:has(~ .y)", 4 ∷ 6 ∷ [])
    ∷ []
