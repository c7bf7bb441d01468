-- Trees that are planted in a forest, and that a forest shows.
use Rattle.std.specs.Prelude.{◌≡◌, ◌≢◌, ℕ, ◌≤◌, ◌<◌, Bool, true, false, List, [], ◌∷◌, ◌++◌, codes, Some, None}
use Rattle.markup.specs.Forest as forest
use Rattle.markup.specs.Forest.{Forest, NodeData, children_of, data_of, data_if, last_of, node_count, put_new, put_text, text_of}
use Rattle.markup.specs.Forest.Place.{Last}
use Rattle.markup.specs.Names.{is_html_name}
use Rattle.markup.specs.Trees.{Trees, Nothing, Text, Comment, ProcessingInstruction, Doctype, Element}

-- a forest with trees put last in a node, one after the other; the numbers of new nodes follow the order of the trees' start tags
abbrev pub planted : Trees → ℕ → Forest → Forest
planted Nothing p f = f
planted (Text text rest) p f = planted rest p (put_text f (Last p) text)
planted (Comment text rest) p f = planted rest p (put_new f (Last p) (forest.NodeData.Comment text))
planted (ProcessingInstruction target text rest) p f =
    planted rest p (put_new f (Last p) (forest.NodeData.ProcessingInstruction target text))
planted (Doctype name public_id system_id rest) p f = planted rest p (put_new f (Last p) (forest.NodeData.Doctype name public_id system_id))
planted (Element name attributes template kids rest) p f =
    planted rest p (planted kids (node_count f) (put_new f (Last p) (forest.NodeData.Element name attributes template false)))

-- a node that is this, and has a number from `low` on
pub record IsNew (low : ℕ) (f : Forest) (n : ℕ) (about : NodeData) : Type 0 where
  pub late : low ≤ n
  pub there : n < node_count f
  pub is : data_of f n ≡ about

-- nodes are the roots of these trees, all of whose nodes have numbers from `low` on
abbrev pub Shows : ℕ → Forest → List ℕ → Trees → Type 0
Shows low f [] Nothing = Unit {0}
Shows low f (n ∷ ns) (Text text rest) = IsNew low f n (forest.NodeData.Text text) × Shows low f ns rest
Shows low f (n ∷ ns) (Comment text rest) = IsNew low f n (forest.NodeData.Comment text) × Shows low f ns rest
Shows low f (n ∷ ns) (ProcessingInstruction target text rest) =
    IsNew low f n (forest.NodeData.ProcessingInstruction target text) × Shows low f ns rest
Shows low f (n ∷ ns) (Doctype name public_id system_id rest) =
    IsNew low f n (forest.NodeData.Doctype name public_id system_id) × Shows low f ns rest
Shows low f (n ∷ ns) (Element name attributes template kids rest) =
    IsNew low f n (forest.NodeData.Element name attributes template false) × Shows low f (children_of f n) kids × Shows low f ns rest
Shows low f ns trees = ⊥

abbrev pub HasNoTemplates : Trees → Type 0
HasNoTemplates Nothing = Unit {0}
HasNoTemplates (Text text rest) = HasNoTemplates rest
HasNoTemplates (Comment text rest) = HasNoTemplates rest
HasNoTemplates (ProcessingInstruction target text rest) = HasNoTemplates rest
HasNoTemplates (Doctype name public_id system_id rest) = HasNoTemplates rest
HasNoTemplates (Element name attributes template kids rest) = (template ≡ false) × HasNoTemplates kids × HasNoTemplates rest

-- texts that are not empty, none of which stands next to another, nor first where a text stands before the trees; no templates
abbrev pub ArePlantable : Bool → Trees → Type 0
ArePlantable after_text Nothing = Unit {0}
ArePlantable after_text (Text text rest) = (after_text ≡ false) × (text ≢ []) × ArePlantable true rest
ArePlantable after_text (Comment text rest) = ArePlantable false rest
ArePlantable after_text (ProcessingInstruction target text rest) = ArePlantable false rest
ArePlantable after_text (Doctype name public_id system_id rest) = ArePlantable false rest
ArePlantable after_text (Element name attributes template kids rest) =
    (template ≡ false) × (is_html_name (Some name) (codes "template") ≡ false) × ArePlantable false kids × ArePlantable false rest

-- no text stands last in a node
abbrev pub EndsInNoText : Forest → ℕ → Type 0
EndsInNoText f p = text_of (data_if f (last_of (children_of f p))) ≡ None

-- from f to g just these trees came, last in p
pub record IsPlanted (f g : Forest) (p : ℕ) (roots : List ℕ) (trees : Trees) : Type 0 where
  pub children : children_of g p ≡ children_of f p ++ roots
  pub shows : Shows (node_count f) g roots trees
  -- all that was there stays as it was
  pub same_data : (n : ℕ) → n < node_count f → data_of g n ≡ data_of f n
  pub others : (n : ℕ) → n < node_count f → n ≢ p → children_of g n ≡ children_of f n
  pub more : node_count f ≤ node_count g
