-- Which node of a document is the first that is not read as it is written.
use Rattle.std.specs.Prelude.{◌≡◌, ℕ, Bool, true, false, ◌&&◌, not, List, [], ◌∷◌, Option, Some, None, codes, is_none}
use Rattle.std.specs.Str.{bytes_eq}
use Rattle.markup.specs.Forest.{Forest, NodeData, children_of, data_of}
use Rattle.markup.specs.Forest as forest
use Rattle.markup.specs.Trees.{inner_of}
use Rattle.markup.specs.declared.attributes.Attribute.{Attribute}
use Rattle.markup.specs.declared.names.QualName.{QualName}
use Rattle.markup.specs.declared.quirks.QuirksMode.TheVariants.{NoQuirks, Quirks}
use Rattle.html_tokens.specs.declared.states.RawKind.{RawKind}
use Rattle.html_rules.specs.Choice.{choose}
use Rattle.html_rules.specs.declared.rules.Rules.TheVariants.{Html5ever}
use Rattle.html_faithful.specs.Forms.{is_comment_text, is_raw_text, lowered}
use Rattle.html_faithful.specs.Harmless.{Made, and_then}
use Rattle.html_faithful.specs.Spots.{Spot}
use Rattle.html_faithful.specs.Walk.{OfDocument, Parent, below, comment_put, finished, first_spot, is_current, is_end_mode, is_text}
use Rattle.html_faithful.specs.Walk.{is_void}
use Rattle.html_faithful.specs.Walk.{is_written_so, may_stay, started, text_put}

-- which nodes may come: those that begin a document, any, the one text of an element whose text is not parsed, or none
pub data Comes : Type 0 where
  Beginning : Comes
  Any : Comes
  Raw : (kind : RawKind) (name : List ℕ) → Comes
  NoMore : Comes

-- where a node comes: what it stands in, whether a text stands just before it, whether a line feed is dropped there, which nodes may
-- come, and the spot
pub record Point : Type 0 where
  pub parent : Parent
  pub after_text : Bool
  pub drops : Bool
  pub comes : Comes
  pub spot : Spot

-- after a comment or an element
abbrev pub behind : Parent → Spot → Point
behind parent p = record { parent = parent; after_text = false; drops = false; comes = Any; spot = p }

-- NODES WITHOUT CHILDREN

abbrev pub comes_after_text : Comes → List ℕ → Option Comes
comes_after_text Any text = Some Any
comes_after_text (Raw kind name) text = choose (is_raw_text kind name text) (λ _. Some NoMore) (λ _. None)
comes_after_text comes text = None

abbrev pub text_in : Comes → List ℕ → Point → Option Point
text_in comes text at = choose (is_text at.after_text at.drops text && is_current at.parent at.spot)
    (λ _. and_then (text_put text at.spot) (λ p. Some (record at { after_text = true; drops = false; comes = comes; spot = p })))
    (λ _. None)

abbrev pub text_read : List ℕ → Point → Option Point
text_read text at = and_then (comes_after_text at.comes text) (λ comes. text_in comes text at)

abbrev pub comment_in : Comes → List ℕ → Point → Option Point
comment_in Beginning text at = Some at
comment_in Any text at = and_then (comment_put at.parent text at.spot) (λ p. Some (behind at.parent p))
comment_in comes text at = None

abbrev pub comment_read : List ℕ → Point → Option Point
comment_read text at = choose (is_comment_text text) (λ _. comment_in at.comes text at) (λ _. None)

abbrev pub doctype_in : Comes → List ℕ → Point → Option Point
doctype_in Beginning name at = choose (bytes_eq name (codes "html"))
    (λ _. Some (record at { comes = Any; spot = record at.spot { quirks_mode = NoQuirks } })) (λ _. None)
doctype_in comes name at = None

abbrev pub leaf_read : NodeData → Point → Option Point
leaf_read (forest.NodeData.Text text) at = text_read text at
leaf_read (forest.NodeData.Comment text) at = comment_read text at
leaf_read (forest.NodeData.Doctype name public_id system_id) at = doctype_in at.comes name at
leaf_read about at = None

abbrev pub is_leaf : NodeData → Bool
is_leaf (forest.NodeData.Text text) = true
is_leaf (forest.NodeData.Comment text) = true
is_leaf (forest.NodeData.Doctype name public_id system_id) = true
is_leaf (forest.NodeData.ProcessingInstruction target text) = true
is_leaf about = false

-- a document, or the contents of a template: what stands in it comes in its place
abbrev pub is_bare : NodeData → Bool
is_bare forest.NodeData.Document = true
is_bare forest.NodeData.Contents = true
is_bare about = false

-- ELEMENTS

abbrev pub comes_by : Option RawKind → QualName → Option Comes
comes_by None name = Some Any
comes_by (Some kind) name = choose (bytes_eq (lowered name.local) name.local) (λ _. Some (Raw kind name.local)) (λ _. None)

abbrev pub comes_in : QualName → Made → Option Comes
comes_in name made = choose (is_void name)
    (λ _. choose (not made.drops_line_feed && is_none made.raw) (λ _. Some NoMore) (λ _. None)) (λ _. comes_by made.raw name)

abbrev pub takes_elements : Comes → Bool
takes_elements Beginning = true
takes_elements Any = true
takes_elements comes = false

-- what was made of the start tag of an element, before its first child
abbrev pub entered_by : Bool → QualName → Made → Parent → Option Point
entered_by scripting name made parent = choose (is_written_so scripting name made.raw)
    (λ _. and_then (comes_in name made) (λ comes. Some (record {
      parent = below parent;
      after_text = false;
      drops = made.drops_line_feed;
      comes = comes;
      spot = made.spot;
    }))) (λ _. None)

-- its start tag
abbrev pub entered : Bool → QualName → List Attribute → Bool → Point → Option Point
entered scripting name attributes template at =
    choose (takes_elements at.comes && (is_current at.parent at.spot && may_stay at.parent name))
    (λ _. and_then (started name attributes template at.spot) (λ made. entered_by scripting name made at.parent)) (λ _. None)

abbrev pub may_end : Comes → Bool
may_end Beginning = false
may_end Any = true
may_end (Raw kind name) = is_raw_text kind name []
may_end NoMore = true

-- its end tag, if it has one, behind its last child
abbrev pub left : QualName → Parent → Point → Option Point
left name parent last = choose (may_end last.comes)
    (λ _. and_then (choose (is_void name) (λ _. Some last.spot) (λ _. finished name last.spot)) (λ p. Some (behind parent p))) (λ _. None)

-- THE FIRST

-- nodes are read through to a point, or one of them is the first that is not
pub data Outcome : Type 0 where
  Through : Point → Outcome
  First : (n : ℕ) → Outcome

-- what comes of nodes of a forest from a point on
pub data Reads (scripting : Bool) (f : Forest) : List ℕ → Point → Outcome → Type 0 where
  End : {at : Point} → Reads scripting f [] at (Through at)
  -- a text, a comment or a doctype
  Leaf : {n : ℕ} {ns : List ℕ} {at : Point} {o : Outcome} (next : Point) → is_leaf (data_of f n) ≡ true
      → leaf_read (data_of f n) at ≡ Some next → Reads scripting f ns next o → Reads scripting f (n ∷ ns) at o
  OddLeaf : {n : ℕ} {ns : List ℕ} {at : Point} → is_leaf (data_of f n) ≡ true → leaf_read (data_of f n) at ≡ None
      → Reads scripting f (n ∷ ns) at (First n)
  -- an element: its start tag, the nodes in it, and its end tag
  Element : {n : ℕ} {ns : List ℕ} {at : Point} {o : Outcome} (name : QualName) (attributes : List Attribute)
      (template integration_point : Bool) (inner last next : Point) → data_of f n
      ≡ forest.NodeData.Element name attributes template integration_point
      → entered scripting name attributes template at ≡ Some inner → Reads scripting f (inner_of f n) inner (Through last)
      → left name at.parent last ≡ Some next → Reads scripting f ns next o → Reads scripting f (n ∷ ns) at o
  OddStart : {n : ℕ} {ns : List ℕ} {at : Point} (name : QualName) (attributes : List Attribute) (template integration_point : Bool)
      → data_of f n ≡ forest.NodeData.Element name attributes template integration_point
      → entered scripting name attributes template at ≡ None → Reads scripting f (n ∷ ns) at (First n)
  OddInside : {n : ℕ} {ns : List ℕ} {at : Point} (m : ℕ) (name : QualName) (attributes : List Attribute)
      (template integration_point : Bool) (inner : Point) → data_of f n ≡ forest.NodeData.Element name attributes template integration_point
      → entered scripting name attributes template at ≡ Some inner → Reads scripting f (inner_of f n) inner (First m)
      → Reads scripting f (n ∷ ns) at (First m)
  OddEnd : {n : ℕ} {ns : List ℕ} {at : Point} (name : QualName) (attributes : List Attribute) (template integration_point : Bool)
      (inner last : Point) → data_of f n ≡ forest.NodeData.Element name attributes template integration_point
      → entered scripting name attributes template at ≡ Some inner → Reads scripting f (inner_of f n) inner (Through last)
      → left name at.parent last ≡ None → Reads scripting f (n ∷ ns) at (First n)
  -- what stands in a document, or in the contents of a template
  Bare : {n : ℕ} {ns : List ℕ} {at : Point} {o : Outcome} (last : Point) → is_bare (data_of f n) ≡ true
      → Reads scripting f (children_of f n) at (Through last) → Reads scripting f ns last o → Reads scripting f (n ∷ ns) at o
  OddBare : {n : ℕ} {ns : List ℕ} {at : Point} (m : ℕ) → is_bare (data_of f n) ≡ true
      → Reads scripting f (children_of f n) at (First m) → Reads scripting f (n ∷ ns) at (First m)

-- before the first node of a document
abbrev pub at_start : Bool → Point
at_start scripting = record {
  parent = OfDocument;
  after_text = false;
  drops = false;
  comes = Beginning;
  spot = first_spot Html5ever scripting Quirks;
}

-- whether a document may end there
abbrev pub is_end : Point → Bool
is_end last = may_end last.comes && is_end_mode last.spot.mode

-- The first node of a document that is not read as it is written; it is the document itself, where all its nodes are, and it may not end
-- after them.
pub data IsFirst (scripting : Bool) (f : Forest) : ℕ → Type 0 where
  Inside : {n : ℕ} → Reads scripting f (children_of f 0) (at_start scripting) (First n) → IsFirst scripting f n
  AtEnd : (last : Point) → Reads scripting f (children_of f 0) (at_start scripting) (Through last) → is_end last ≡ false
      → IsFirst scripting f 0
