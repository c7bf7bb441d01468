-- The items of nodes: texts, and what an element has at its edges (HTML Standard, section 3.2.7, "rendered text collection steps").
use Rattle.std.specs.Prelude.{ℕ, zero, suc, ◌||◌, ◌&&◌, Bool, true, false, cond, List, [], ◌∷◌, ◌++◌, Option, Some, None}
use Rattle.std.specs.List.{list_any}
use Rattle.markup.specs.Forest.{Forest, children_of, data_of, holds_children, node_count, parent_of, text_of}
use Rattle.markup.specs.Trees.{inner_of}
use Rattle.html_forest.specs.Walk.{behind}
use Rattle.html_inner_text.specs.Styles.{inside, kind_of}
use Rattle.html_inner_text.specs.declared.kinds.Kind.{Kind}
use Rattle.html_inner_text.specs.declared.kinds.Kind.TheVariants.{Inline, NotRendered, Replaced, InlineBlock, LineBreak, Block}
use Rattle.html_inner_text.specs.declared.kinds.Kind.TheVariants.{Paragraph, Cell, Row, TablePart}
use Rattle.html_inner_text.specs.declared.styles.Style.{Style}
use Rattle.html_inner_text.specs.declared.writer.Edge.{Edge}
use Rattle.html_inner_text.specs.declared.writer.Edge.TheVariants.{Nothing, LineEnd, Required, Atomic, BoxStart, BoxEnd}

-- the text of a text node, and whether its white space is preserved; or what an element has at one of its edges
pub data Item : Type 0 where
  Text : Bool → List ℕ → Item
  At : Edge → Item

-- a `p` has a count of 2, and the 1 that it has as a block changes no maximum
abbrev pub opening : Kind → Edge
opening Inline = Nothing
opening NotRendered = Nothing
opening LineBreak = Nothing
opening Replaced = Atomic
opening InlineBlock = BoxStart
opening Block = Required 1
opening Paragraph = Required 2
opening Cell = Required 0
opening Row = Required 0
opening TablePart = Required 0

abbrev pub is_cell_kind : Kind → Bool
is_cell_kind Cell = true
is_cell_kind _ = false

abbrev pub is_row_kind : Kind → Bool
is_row_kind Row = true
is_row_kind _ = false

abbrev pub is_part_kind : Kind → Bool
is_part_kind TablePart = true
is_part_kind _ = false

abbrev pub is_cell : Forest → ℕ → Bool
is_cell f n = is_cell_kind (kind_of f n)

abbrev pub is_row : Forest → ℕ → Bool
is_row f n = is_row_kind (kind_of f n)

abbrev pub is_part : Forest → ℕ → Bool
is_part f n = is_part_kind (kind_of f n)

-- whether a node is a row, or a part of a table that has one
abbrev pub has_row : Forest → ℕ → Bool
has_row f n = is_row f n || (is_part f n && list_any (is_row f) (children_of f n))

abbrev pub row_after_part : Forest → Option ℕ → Bool
row_after_part f None = false
row_after_part f (Some p) = is_part f p && list_any (has_row f) (behind f p)

-- whether a cell is not the last one of its row, and a row not the last one of its table
unfoldable pub cell_follows : Forest → ℕ → Bool
cell_follows f n = list_any (is_cell f) (behind f n)

unfoldable pub row_follows : Forest → ℕ → Bool
row_follows f n = list_any (has_row f) (behind f n) || row_after_part f (parent_of f n)

abbrev pub end_of_cell : Forest → ℕ → Edge
end_of_cell f n = cond (cell_follows f n) (LineEnd 9) (Required 0)

abbrev pub end_of_row : Forest → ℕ → Edge
end_of_row f n = cond (row_follows f n) (LineEnd 10) (Required 0)

abbrev pub closing : Forest → ℕ → Kind → Edge
closing f n Inline = Nothing
closing f n NotRendered = Nothing
closing f n LineBreak = LineEnd 10
closing f n Replaced = Nothing
closing f n InlineBlock = BoxEnd
closing f n Block = Required 1
closing f n Paragraph = Required 2
closing f n Cell = end_of_cell f n
closing f n Row = end_of_row f n
closing f n TablePart = Required 0

-- an edge, if it is rendered
abbrev pub edge_if : Bool → Edge → Edge
edge_if rendered edge = cond rendered edge Nothing

abbrev pub opens : Forest → Style → ℕ → Edge
opens f s n = edge_if s.rendered (opening (kind_of f n))

abbrev pub closes : Forest → Style → ℕ → Edge
closes f s n = edge_if s.rendered (closing f n (kind_of f n))

abbrev pub text_items : Style → Option (List ℕ) → List Item
text_items s None = []
text_items s (Some characters) = cond s.rendered (Text s.preserves characters ∷ []) []

-- the items of a node that inherits this style, with the items of what is in it
abbrev pub node_items : Forest → Style → ℕ → List Item → List Item
node_items f s n inner =
    cond (holds_children (data_of f n)) (At (opens f s n) ∷ (inner ++ At (closes f s n) ∷ [])) (text_items s (text_of (data_of f n)))

abbrev pub items_each : (Style → List ℕ → List Item) → Forest → Style → List ℕ → List Item
items_each inner f s [] = []
items_each inner f s (n ∷ ns) = node_items f s n (inner (inside f s n) (inner_of f n)) ++ items_each inner f s ns

-- so many levels of them
unfoldable pub items_within : ℕ → Forest → Style → List ℕ → List Item
items_within zero f s ns = []
items_within (suc levels) f s ns = items_each (items_within levels f) f s ns

-- the items of nodes that inherit this style: no node has as many above it as there are nodes, so this has all levels
abbrev pub items : Forest → Style → List ℕ → List Item
items f s ns = items_within (node_count f) f s ns
