-- The elements of a forest and the nodes that have children, tree by tree, each tree in tree order (DOM Standard, section 1.1).
use Rattle.std.specs.Prelude.{◌≡◌, ◌||◌, ℕ, Bool, List, [], ◌∷◌, cond, filter, is_none, is_some, nat_lt, take}
use Rattle.std.specs.List.{range_with_len}
use Rattle.markup.specs.Forest.{Forest, children_of, node_count, parent_of}
use Rattle.html_forest.specs.Links.{first_of}
use Rattle.html_nodes.specs.Below.{below, each_with_below}
use Rattle.html_selector_matching.specs.Around.{is_element}

-- whether a node is an element or has a child
abbrev pub is_inner : Forest → ℕ → Bool
is_inner f n = is_element f n || is_some (first_of (children_of f n))

-- those of the nodes below a node
abbrev pub inner_below : Forest → ℕ → List ℕ
inner_below f n = filter (is_inner f) (below f n)

abbrev pub is_root : Forest → ℕ → Bool
is_root f n = is_none (parent_of f n)

abbrev pub roots : Forest → List ℕ
roots f = filter (is_root f) (range_with_len 0 (node_count f))

-- so many of the first of a list, if any, are the document and those of the nodes below it
abbrev pub BeginsWith : Forest → ℕ → List ℕ → Type 0
BeginsWith f first ns = take first ns ≡ cond (nat_lt 0 first) (0 ∷ inner_below f 0) []

-- each root with those of the nodes below it
unfoldable pub in_tree_order : Forest → List ℕ
in_tree_order f = each_with_below (inner_below f) (roots f)
