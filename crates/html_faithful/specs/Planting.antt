-- Forests in which trees were put, and the trees that nodes show.
use Rattle.std.specs.Prelude.{◌≡◌, ◌≢◌, ℕ, ◌+◌, ◌≤◌, ◌<◌, Bool, true, false, cond, List, [], ◌∷◌, ◌++◌, None}
use Rattle.markup.specs.Forest as forest
use Rattle.markup.specs.Forest.{Forest, IsParent, NodeData, Place, Last, children_of, data_if, data_of, last_of, node_count, put, put_new}
use Rattle.markup.specs.Forest.{put_text, text_of}
use Rattle.markup.specs.Named.{IsTree}
use Rattle.markup.specs.Trees.{Trees, Nothing, Text, Comment, ProcessingInstruction, Doctype, Element, trees_of}
use Rattle.markup.specs.declared.attributes.Attribute.{Attribute}
use Rattle.markup.specs.declared.names.QualName.{QualName}
use Rattle.html_rules.specs.Names.{element_name_of, namespace_of}
use Rattle.html_rules.specs.Places.{inside, with_element}
use Rattle.html_rules.specs.declared.rules.Rules.TheVariants.{Html5ever}
use Rattle.html_faithful.specs.Walk.{is_template}

-- PLANTED TREES

-- where nodes are put in an element that is put next: last in it, or in its contents
abbrev pub place_under : QualName → Forest → Place
place_under name f = inside (record { number = node_count f; namespace = namespace_of name.ns; name = name.local; rules = Html5ever })

abbrev pub element_put : Place → QualName → List Attribute → Forest → Forest
element_put place name attributes f = put (with_element f (namespace_of name.ns) name.local attributes false) place (node_count f)

-- a forest in which trees were put at a place, in order
abbrev pub planted : Place → Trees → Forest → Forest
planted place Nothing f = f
planted place (Text text rest) f = planted place rest (put_text f place text)
planted place (Comment text rest) f = planted place rest (put_new f place (forest.NodeData.Comment text))
planted place (ProcessingInstruction target text rest) f = planted place rest f
planted place (Doctype name public_id system_id rest) f =
    planted place rest (put_new f place (forest.NodeData.Doctype name public_id system_id))
planted place (Element name attributes template kids rest) f =
    planted place rest (planted (place_under name f) kids (element_put place name attributes f))

-- texts that are not empty, none of which stands beside another, nor first where a text stands before the trees; comments; and elements
-- of the three namespaces, with contents where they are templates
abbrev pub ArePlantable : Bool → Trees → Type 0
ArePlantable after_text Nothing = Unit {0}
ArePlantable after_text (Text text rest) = (after_text ≡ false) × (text ≢ []) × ArePlantable true rest
ArePlantable after_text (Comment text rest) = ArePlantable false rest
ArePlantable after_text (ProcessingInstruction target text rest) = ⊥
ArePlantable after_text (Doctype name public_id system_id rest) = ArePlantable false rest
ArePlantable after_text (Element name attributes template kids rest) =
    (element_name_of (namespace_of name.ns) name.local ≡ name) × (is_template name ≡ template) × ArePlantable false kids
    × ArePlantable false rest

-- NODES THAT SHOW TREES

-- a node that is this, and has a number from `low` on
pub record IsNew (low : ℕ) (f : Forest) (n : ℕ) (about : NodeData) : Type 0 where
  pub late : low ≤ n
  pub there : n < node_count f
  pub is : data_of f n ≡ about

-- an element, with the node of its contents after it if it is a template
pub record IsNewElement (low : ℕ) (f : Forest) (n : ℕ) (name : QualName) (attributes : List Attribute) (template : Bool) : Type 0 where
  pub integration_point : Bool
  pub new : IsNew low f n (forest.NodeData.Element name attributes template integration_point)
  pub inner : cond template (n + 1) n < node_count f

-- nodes are the roots of these trees, all of whose nodes have numbers from `low` on
abbrev pub Shows : ℕ → Forest → List ℕ → Trees → Type 0
Shows low f [] Nothing = Unit {0}
Shows low f (n ∷ ns) (Text text rest) = IsNew low f n (forest.NodeData.Text text) × Shows low f ns rest
Shows low f (n ∷ ns) (Comment text rest) = IsNew low f n (forest.NodeData.Comment text) × Shows low f ns rest
Shows low f (n ∷ ns) (Doctype name public_id system_id rest) =
    IsNew low f n (forest.NodeData.Doctype name public_id system_id) × Shows low f ns rest
Shows low f (n ∷ ns) (Element name attributes template kids rest) =
    IsNewElement low f n name attributes template × Shows low f (children_of f (cond template (n + 1) n)) kids × Shows low f ns rest
Shows low f ns trees = ⊥

-- no text stands last in a node
abbrev pub EndsInNoText : Forest → ℕ → Type 0
EndsInNoText f p = text_of (data_if f (last_of (children_of f p))) ≡ None

-- from f to g just these trees came, last in p
pub record IsPlanted (f g : Forest) (p : ℕ) (roots : List ℕ) (trees : Trees) : Type 0 where
  pub children : children_of g p ≡ children_of f p ++ roots
  pub shows : Shows (node_count f) g roots trees
  -- all that was there stays as it was
  pub same_data : (n : ℕ) → n < node_count f → data_of g n ≡ data_of f n
  pub others : (n : ℕ) → n < node_count f → n ≢ p → children_of g n ≡ children_of f n
  pub more : node_count f ≤ node_count g

-- a tree still, in which what could hold nodes still can
pub record IsKeptTree (f g : Forest) : Type 0 where
  pub tree : IsTree g
  pub parents : (q : ℕ) → IsParent f q → IsParent g q
  pub more : node_count f ≤ node_count g

-- THE LAW

-- Planted trees come last in their place, and nothing else changes; and they are the trees of the new nodes there.
abbrev pub ArePlantedTreesShown : Type 0
ArePlantedTreesShown =
    (trees : Trees) (p : ℕ) (f : Forest) → IsTree f → IsParent f p → ArePlantable false trees → EndsInNoText f p
    → let g = planted (Last p) trees f in IsKeptTree f g
    × ((roots : List ℕ) × IsPlanted f g p roots trees × (trees_of g roots ≡ trees))
