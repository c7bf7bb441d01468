-- The tree that a sink has built so far (DOM Standard, section 4.2). Nodes are named by numbers, in the order in which they were made.
-- The document is 0. The contents of a template are a node of their own, whose number follows the template's.
use Rattle.std.specs.Prelude.{◌≡◌, ◌==◌, ◌+◌, ◌-◌, ◌<◌, ℕ, suc, Bool, true, false, cond, List, [], ◌∷◌, ◌++◌, Option, Some}
use Rattle.std.specs.Prelude.{None, length, slice_index_or, slice_set, filter, not}
pub use Rattle.devices.specs.Devices.{one_more}
use Rattle.markup.specs.Names.{has_attribute}
use Rattle.markup.specs.declared.names.QualName.{QualName}
use Rattle.markup.specs.declared.attributes.Attribute.{Attribute}
use Rattle.markup.specs.declared.flags.ElementFlags.{ElementFlags}
use Rattle.markup.specs.declared.quirks.QuirksMode.{QuirksMode}
use Rattle.markup.specs.declared.quirks.QuirksMode.TheVariants.{NoQuirks}
use Rattle.markup.specs.declared.node_or_text.NodeOrText.{NodeOrText}
use Rattle.markup.specs.declared.node_or_text.NodeOrText.TheVariants.{AppendNode, AppendText}

-- what a node is, apart from its children
pub data NodeData : Type 0 where
  Document : NodeData
  -- the contents of the template whose number is one less
  Contents : NodeData
  -- its name, its public identifier and its system identifier
  Doctype : List ℕ → List ℕ → List ℕ → NodeData
  Text : List ℕ → NodeData
  Comment : List ℕ → NodeData
  -- its target and its text
  ProcessingInstruction : List ℕ → List ℕ → NodeData
  -- its name, its attributes, whether the node that follows has its contents, and whether HTML may stand in it though its name is MathML's
  Element : QualName → List Attribute → Bool → Bool → NodeData

pub record Node : Type 0 where
  pub about : NodeData
  pub children : List ℕ

pub record Forest : Type 0 where
  pub nodes : List Node
  pub quirks : QuirksMode
  -- how many errors were told
  pub errors : ℕ

-- what the looks below find past the end
abbrev pub no_node : Node
no_node = record { about = Document; children = [] }

abbrev pub node_count : Forest → ℕ
node_count f = length f.nodes

abbrev pub IsNode : Forest → ℕ → Type 0
IsNode f n = n < node_count f

abbrev pub node_at : Forest → ℕ → Node
node_at f n = slice_index_or f.nodes n no_node

abbrev pub data_of : Forest → ℕ → NodeData
data_of f n = (node_at f n).about

abbrev pub children_of : Forest → ℕ → List ℕ
children_of f n = (node_at f n).children

abbrev pub is_contents : NodeData → Bool
is_contents Contents = true
is_contents _ = false

abbrev pub element_name : NodeData → Option QualName
element_name (Element name attributes template integration_point) = Some name
element_name _ = None

abbrev pub template_of : NodeData → Bool
template_of (Element name attributes template integration_point) = template
template_of _ = false

abbrev pub integration_point_of : NodeData → Bool
integration_point_of (Element name attributes template integration_point) = integration_point
integration_point_of _ = false

abbrev pub text_of : NodeData → Option (List ℕ)
text_of (Text characters) = Some characters
text_of _ = None

-- whether other nodes may stand in such a node
abbrev pub holds_children : NodeData → Bool
holds_children Document = true
holds_children Contents = true
holds_children (Element name attributes template integration_point) = true
holds_children _ = false

-- the number of the contents of a node, if it is a template
abbrev pub contents_of : Forest → ℕ → Option ℕ
contents_of f n = cond (template_of (data_of f n)) (Some (n + 1)) None

-- whether a number is among those
abbrev pub is_among : ℕ → List ℕ → Bool
is_among n [] = false
is_among n (m ∷ ms) = cond (n == m) true (is_among n ms)

abbrev pub IsDistinct : List ℕ → Type 0
IsDistinct [] = Unit {0}
IsDistinct (n ∷ ns) = (is_among n ns ≡ false) × IsDistinct ns

-- the first node, counted from i, that has n among its children
abbrev pub parent_from : ℕ → List Node → ℕ → Option ℕ
parent_from i [] n = None
parent_from i (node ∷ nodes) n = cond (is_among n node.children) (Some i) (parent_from (suc i) nodes n)

abbrev pub parent_of : Forest → ℕ → Option ℕ
parent_of f n = parent_from 0 f.nodes n

-- what a node stands under: its parent, and for the contents of a template the template
abbrev pub above_of : Forest → ℕ → Option ℕ
above_of f n = cond (is_contents (data_of f n)) (Some (n - 1)) (parent_of f n)

-- a is n, or stands above it
pub data Above (f : Forest) (a : ℕ) : ℕ → Type 0 where
  here : Above f a a
  further : {n m : ℕ} → above_of f n ≡ Some m → Above f a m → Above f a n

-- the walk up from a node comes to an end
pub data Ends (f : Forest) : ℕ → Type 0 where
  top : {n : ℕ} → above_of f n ≡ None → Ends f n
  below : {n m : ℕ} → above_of f n ≡ Some m → Ends f m → Ends f n

-- a forest: each node stands in one place at most, and no node stands above itself
pub record IsForest (f : Forest) : Type 0 where
  pub document : 0 < node_count f
  pub document_first : data_of f 0 ≡ Document
  -- the list that a node is in is its parent's
  pub one_parent : (p n : ℕ) → is_among n (children_of f p) ≡ true → parent_of f n ≡ Some p
  pub once : (p : ℕ) → IsDistinct (children_of f p)
  pub in_range : (p n : ℕ) → is_among n (children_of f p) ≡ true → n < node_count f
  pub holders : (p n : ℕ) → is_among n (children_of f p) ≡ true → holds_children (data_of f p) ≡ true
  pub contents_stay : (n : ℕ) → is_contents (data_of f n) ≡ true → parent_of f n ≡ None
  pub contents_follow : (n : ℕ) → is_contents (data_of f n) ≡ true → 0 < n
  pub ends : (n : ℕ) → Ends f n

-- a node in which others may stand
pub record IsParent (f : Forest) (n : ℕ) : Type 0 where
  pub there : n < node_count f
  pub holds : holds_children (data_of f n) ≡ true

-- where a node is put
pub data Place : Type 0 where
  -- last among the children of a node
  Last : ℕ → Place
  -- among the children of the first node, just before the second
  Before : ℕ → ℕ → Place

-- the node whose child list grows
abbrev pub parent_at : Place → ℕ
parent_at (Last parent) = parent
parent_at (Before parent sibling) = parent

abbrev pub IsPlace : Forest → Place → Type 0
IsPlace f (Last parent) = IsParent f parent
IsPlace f (Before parent sibling) = parent_of f sibling ≡ Some parent

-- just before a node that has a parent
abbrev pub place_before : ℕ → Option ℕ → Place
place_before sibling None = Last sibling
place_before sibling (Some parent) = Before parent sibling

-- just before an element where it has a parent, else last in another node
abbrev pub place_near : ℕ → ℕ → Option ℕ → Place
place_near element previous None = Last previous
place_near element previous (Some parent) = Before parent element

-- a node that may be put under a parent: it is there, it stands under nothing, and it is not the parent nor above it
pub record IsLoose (f : Forest) (parent child : ℕ) : Type 0 where
  pub there : child < node_count f
  pub no_parent : above_of f child ≡ None
  pub not_above : Above f child parent → ⊥

-- what may be put at a place: a loose node, or any text
abbrev pub MayPut : {H : Type 0} → (H → ℕ) → Forest → Place → NodeOrText H → Type 0
MayPut node f place (AppendNode child) = IsLoose f (parent_at place) (node child)
MayPut node f place (AppendText characters) = Unit {0}

-- the changes

-- a document with nothing in it
abbrev pub empty_forest : Forest
empty_forest = record { nodes = record { about = Document; children = [] } ∷ []; quirks = NoQuirks; errors = 0 }

-- at u64::MAX the number of errors stays
abbrev pub add_error : Forest → Forest
add_error f = record f { errors = one_more f.errors }

abbrev pub set_quirks : Forest → QuirksMode → Forest
set_quirks f mode = record f { quirks = mode }

-- a new node, which stands under nothing
abbrev pub with_node : Forest → NodeData → Forest
with_node f about = record f { nodes = f.nodes ++ record { about = about; children = [] } ∷ [] }

abbrev pub with_children : Forest → ℕ → List ℕ → Forest
with_children f n children = record f { nodes = slice_set f.nodes n (record { about = data_of f n; children = children }) }

abbrev pub with_data : Forest → ℕ → NodeData → Forest
with_data f n about = record f { nodes = slice_set f.nodes n (record { about = about; children = children_of f n }) }

-- a new element, and for a template the node of its contents
abbrev pub create_element : Forest → QualName → List Attribute → ElementFlags → Forest
create_element f name attributes flags =
    let made = with_node f (Element name attributes flags.template flags.mathml_annotation_xml_integration_point) in
    cond flags.template (with_node made Contents) made

-- before the first n of a list
abbrev pub put_before : ℕ → ℕ → List ℕ → List ℕ
put_before new n [] = []
put_before new n (m ∷ ms) = cond (m == n) (new ∷ m ∷ ms) (m ∷ put_before new n ms)

-- the children of a place's parent, with one more
abbrev pub children_with : Place → ℕ → List ℕ → List ℕ
children_with (Last parent) child children = children ++ child ∷ []
children_with (Before parent sibling) child children = put_before child sibling children

abbrev pub put : Forest → Place → ℕ → Forest
put f place child = with_children f (parent_at place) (children_with place child (children_of f (parent_at place)))

-- a new node at a place
abbrev pub put_new : Forest → Place → NodeData → Forest
put_new f place about = put (with_node f about) place (node_count f)

abbrev pub last_of : List ℕ → Option ℕ
last_of [] = None
last_of (n ∷ []) = Some n
last_of (n ∷ m ∷ ns) = last_of (m ∷ ns)

-- what stands before the first n of a list
abbrev pub those_before : ℕ → List ℕ → List ℕ
those_before n [] = []
those_before n (m ∷ ms) = cond (m == n) [] (m ∷ those_before n ms)

-- the one that stands just before a place, among the children of its parent
abbrev pub previous_in : Place → List ℕ → Option ℕ
previous_in (Last parent) children = last_of children
previous_in (Before parent sibling) children = last_of (those_before sibling children)

abbrev pub previous_at : Forest → Place → Option ℕ
previous_at f place = previous_in place (children_of f (parent_at place))

-- what a node is, if there is one
abbrev pub data_if : Forest → Option ℕ → NodeData
data_if f None = Document
data_if f (Some n) = data_of f n

-- text put at a place where that node, with that text, stands just before
abbrev pub joined_text : Forest → Place → List ℕ → Option ℕ → Option (List ℕ) → Forest
joined_text f place characters (Some n) (Some earlier) = with_data f n (Text (earlier ++ characters))
joined_text f place characters _ _ = put_new f place (Text characters)

-- text joins a text that stands just before the place, else it is a new node; empty text changes nothing
abbrev pub put_text : Forest → Place → List ℕ → Forest
put_text f place characters =
    cond (length characters == 0) f (joined_text f place characters (previous_at f place) (text_of (data_if f (previous_at f place))))

-- a node or text, at a place
abbrev pub put_child : {H : Type 0} → (H → ℕ) → Forest → Place → NodeOrText H → Forest
put_child node f place (AppendNode child) = put f place (node child)
put_child node f place (AppendText characters) = put_text f place characters

abbrev pub without : ℕ → List ℕ → List ℕ
without n ms = filter (λ m. not (m == n)) ms

abbrev pub remove_under : Forest → ℕ → Option ℕ → Forest
remove_under f n None = f
remove_under f n (Some parent) = with_children f parent (without n (children_of f parent))

-- a node leaves the list that it is in
abbrev pub remove : Forest → ℕ → Forest
remove f n = remove_under f n (parent_of f n)

-- all children of one node, in order, after those of another
abbrev pub reparent_children : Forest → ℕ → ℕ → Forest
reparent_children f from to =
    let emptied = with_children f from [] in
    with_children emptied to (children_of emptied to ++ children_of f from)

-- attributes, and in order those of others whose name is missing
abbrev pub with_missing : List Attribute → List Attribute → List Attribute
with_missing attributes [] = attributes
with_missing attributes (more ∷ others) =
    with_missing (cond (has_attribute more.name attributes) attributes (attributes ++ more ∷ [])) others

-- what is no element stays as it is
abbrev pub with_attributes : NodeData → List Attribute → NodeData
with_attributes (Element name attributes template integration_point) others =
    Element name (with_missing attributes others) template integration_point
with_attributes about others = about

abbrev pub add_attributes : Forest → ℕ → List Attribute → Forest
add_attributes f n others = with_data f n (with_attributes (data_of f n) others)
