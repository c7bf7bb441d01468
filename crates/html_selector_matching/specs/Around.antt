-- What stands around a node: the nodes above it, and those before and after it under the same parent (DOM Standard, section 1.1).
use Rattle.std.specs.Prelude.{ℕ, ◌==◌, zero, suc, Bool, cond, List, [], ◌∷◌, filter, find, Option, Some, None, is_some}
use Rattle.markup.specs.Forest.{Forest, children_of, data_of, element_name, node_count, parent_of, those_before}

abbrev pub is_element : Forest → ℕ → Bool
is_element f n = is_some (element_name (data_of f n))

-- a number, if there is one
abbrev pub one_of : Option ℕ → List ℕ
one_of None = []
one_of (Some n) = n ∷ []

-- ABOVE

-- a node, if there is one, and those above it, so many of them
unfoldable pub line_within : ℕ → Forest → Option ℕ → List ℕ
line_within zero f at = []
line_within (suc more) f None = []
line_within (suc more) f (Some n) = n ∷ line_within more f (parent_of f n)

-- there are no more of them than nodes
abbrev pub line : Forest → Option ℕ → List ℕ
line f at = line_within (node_count f) f at

-- the ancestors of a node, its parent first
abbrev pub above : Forest → ℕ → List ℕ
above f n = line f (parent_of f n)

-- BESIDE

-- what stands after the first n of a list
abbrev pub those_after : ℕ → List ℕ → List ℕ
those_after n [] = []
those_after n (m ∷ ms) = cond (n == m) ms (those_after n ms)

-- the children of a parent, if there is one
abbrev pub children_under : Forest → Option ℕ → List ℕ
children_under f None = []
children_under f (Some parent) = children_of f parent

-- the nodes before and after a node under the same parent, in tree order
abbrev pub nodes_before : Forest → ℕ → List ℕ
nodes_before f n = those_before n (children_under f (parent_of f n))

abbrev pub nodes_after : Forest → ℕ → List ℕ
nodes_after f n = those_after n (children_under f (parent_of f n))

-- the last of a list, or else what was before it
abbrev pub last_or : Option ℕ → List ℕ → Option ℕ
last_or before [] = before
last_or before (n ∷ ns) = last_or (Some n) ns

-- the element just before a node under the same parent, and the one just after it
abbrev pub element_before : Forest → ℕ → Option ℕ
element_before f n = last_or None (filter (is_element f) (nodes_before f n))

abbrev pub element_after : Forest → ℕ → Option ℕ
element_after f n = find (is_element f) (nodes_after f n)
