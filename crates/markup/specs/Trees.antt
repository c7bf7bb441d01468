-- Trees as they are walked and written (HTML Standard, section 13.3), and the trees of a forest.
use Rattle.std.specs.Prelude.{ℕ, zero, suc, ◌+◌, Bool, false, cond, ◌&&◌, ◌||◌, List, [], ◌∷◌, ◌++◌, Option, Some, None, codes}
use Rattle.std.specs.List.{list_any}
use Rattle.std.specs.Str.{bytes_eq}
use Rattle.markup.specs.Escape.{end_tag, escape, start_tag, written_comment, written_doctype, written_instruction}
use Rattle.markup.specs.Forest as forest
use Rattle.markup.specs.Forest.{Forest, NodeData, children_of, data_of, node_count, template_of}
use Rattle.markup.specs.Names.{html_namespace}
use Rattle.markup.specs.declared.attributes.Attribute.{Attribute}
use Rattle.markup.specs.declared.names.QualName.{QualName}

-- a list of trees: none, or the first one and those after it (first child, next sibling)
pub data Trees : Type 0 where
  Nothing : Trees
  Text : (text : List ℕ) (rest : Trees) → Trees
  Comment : (text : List ℕ) (rest : Trees) → Trees
  ProcessingInstruction : (target text : List ℕ) (rest : Trees) → Trees
  Doctype : (name public_id system_id : List ℕ) (rest : Trees) → Trees
  -- its name, its attributes, whether it is a template, and its children, which for a template are those of its contents
  Element : (name : QualName) (attributes : List Attribute) (template : Bool) (kids rest : Trees) → Trees

-- how what stands under an element is written: whether text is written as it is, and whether elements are left out
pub record Entry : Type 0 where
  pub raw_text : Bool
  pub ignores_children : Bool

-- elements that have no children and no end tag
abbrev pub void_names : List (List ℕ)
void_names =
    codes "area" ∷ codes "base" ∷ codes "basefont" ∷ codes "bgsound" ∷ codes "br" ∷ codes "col" ∷ codes "embed" ∷ codes "frame" ∷ codes "hr"
    ∷ codes "img" ∷ codes "input" ∷ codes "keygen" ∷ codes "link" ∷ codes "meta" ∷ codes "param" ∷ codes "source" ∷
    codes "track" ∷ codes "wbr" ∷ []

-- elements whose text is written as it is, whether scripts run or not
abbrev pub raw_names : List (List ℕ)
raw_names =
    codes "iframe" ∷ codes "noembed" ∷ codes "noframes" ∷ codes "plaintext" ∷ codes "script" ∷ codes "style" ∷ codes "xmp" ∷ []

abbrev pub is_among : List ℕ → List (List ℕ) → Bool
is_among name names = list_any (bytes_eq name) names

-- whether the text of the HTML element of that name is written as it is
abbrev pub is_raw : Bool → List ℕ → Bool
is_raw scripting local = is_among local raw_names || (scripting && bytes_eq local (codes "noscript"))

abbrev pub is_html : QualName → Bool
is_html name = bytes_eq name.ns html_namespace

-- under no element
abbrev pub default_entry : Entry
default_entry = record { raw_text = false; ignores_children = false }

-- under an element that itself stands under another
abbrev pub entry_under : Bool → Entry → QualName → Entry
entry_under scripting under name = record {
  raw_text = is_html name && is_raw scripting name.local;
  ignores_children = under.ignores_children || (is_html name && is_among name.local void_names);
}

-- where the children of an element are written and the element is not, by its name, which is taken as HTML's
abbrev pub first_entry : Bool → Option QualName → Entry
first_entry scripting None = default_entry
first_entry scripting (Some name) = record { raw_text = is_raw scripting name.local; ignores_children = false }

abbrev pub text_under : Entry → List ℕ → List ℕ
text_under under text = cond under.raw_text text (escape text)

-- the start tag, and the end tag of an element with this entry
abbrev pub start_under : Entry → QualName → List Attribute → List ℕ
start_under under name attributes = cond under.ignores_children [] (start_tag name.local attributes)

abbrev pub end_of : Entry → QualName → List ℕ
end_of own name = cond own.ignores_children [] (end_tag name.local)

-- the text that trees are written as, where they stand under an element with that entry
unfoldable pub written : Bool → Entry → Trees → List ℕ
written scripting under Nothing = []
written scripting under (Text text rest) = text_under under text ++ written scripting under rest
written scripting under (Comment text rest) = written_comment text ++ written scripting under rest
written scripting under (ProcessingInstruction target text rest) = written_instruction target text ++ written scripting under rest
written scripting under (Doctype name public_id system_id rest) = written_doctype name ++ written scripting under rest
written scripting under (Element name attributes template kids rest) =
    start_under under name attributes
    ++ (written scripting (entry_under scripting under name) kids
    ++ (end_of (entry_under scripting under name) name
    ++ written scripting under rest))

-- the children of a node, or those of its contents in their place
abbrev pub inner_of : Forest → ℕ → List ℕ
inner_of f n = children_of f (cond (template_of (data_of f n)) (n + 1) n)

-- the tree of a node before other trees; a document and the contents of a template are what stands in them
abbrev pub node_before : NodeData → (Trees → Trees) → Trees → Trees
node_before forest.NodeData.Document inner rest = inner rest
node_before forest.NodeData.Contents inner rest = inner rest
node_before (forest.NodeData.Doctype name public_id system_id) inner rest = Doctype name public_id system_id rest
node_before (forest.NodeData.Text text) inner rest = Text text rest
node_before (forest.NodeData.Comment text) inner rest = Comment text rest
node_before (forest.NodeData.ProcessingInstruction target text) inner rest = ProcessingInstruction target text rest
node_before (forest.NodeData.Element name attributes template integration_point) inner rest =
    Element name attributes template (inner Nothing) rest

abbrev pub nodes_before : (List ℕ → Trees → Trees) → Forest → List ℕ → Trees → Trees
nodes_before inner f [] rest = rest
nodes_before inner f (n ∷ ns) rest = node_before (data_of f n) (inner (inner_of f n)) (nodes_before inner f ns rest)

-- the trees of nodes before other trees, so many levels of them
unfoldable pub trees_within : ℕ → Forest → List ℕ → Trees → Trees
trees_within zero f ns rest = rest
trees_within (suc levels) f ns rest = nodes_before (trees_within levels f) f ns rest

-- the trees of nodes before other trees: no node has as many above it as there are nodes, so this has all levels
abbrev pub trees_before : Forest → List ℕ → Trees → Trees
trees_before f ns rest = trees_within (node_count f) f ns rest

-- the trees of nodes of a forest; a number that names no node has none
abbrev pub trees_of : Forest → List ℕ → Trees
trees_of f ns = trees_before f ns Nothing

-- HOW FAR A WALK HAS TO GO

abbrev pub weights : (List ℕ → ℕ) → Forest → List ℕ → ℕ
weights inner f [] = 0
weights inner f (n ∷ ns) = suc (suc (inner (inner_of f n))) + weights inner f ns

-- two for each node of so many levels
unfoldable pub weight_within : ℕ → Forest → List ℕ → ℕ
weight_within zero f ns = 0
weight_within (suc levels) f ns = weights (weight_within levels f) f ns

-- two for each node that a walk of nodes meets
unfoldable pub weight : Forest → List ℕ → ℕ
weight f ns = weight_within (node_count f) f ns
