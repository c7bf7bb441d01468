-- The state that the rules go by (HTML Standard, section 13.2.4).
use Rattle.std.specs.Prelude.{ℕ, Bool, List, [], ◌∷◌, Option, Some, None}
use Rattle.std.specs.Str.{bytes_eq}
use Rattle.markup.specs.Forest.{Forest}
use Rattle.markup.specs.TreeLaws.{with_errors}
use Rattle.markup.specs.declared.attributes.Attribute.{Attribute}
use Rattle.markup.specs.declared.quirks.QuirksMode.{QuirksMode}
use Rattle.html_tokens.specs.declared.tags.Tag.{Tag}
use Rattle.html_rules.specs.Names.{Namespace}
use Rattle.html_rules.specs.Sets.{is_among, names_in, set_by}
use Rattle.html_rules.specs.declared.insertion_mode.InsertionMode.{InsertionMode}
use Rattle.html_rules.specs.declared.rules.Rules.{Rules}
use Rattle.html_rules.specs.declared.tag_set.TagSet.{TagSet}

-- an open element: the number of its node, its name, and the rules by whose sets it is asked
pub record Open : Type 0 where
  pub number : ℕ
  pub namespace : Namespace
  pub name : List ℕ
  pub rules : Rules

-- an entry of the list of active formatting elements: an HTML element, with the tag that it was made for, or a marker
pub data Entry : Type 0 where
  Element : (number : ℕ) (tag : Tag) → Entry
  Marker : Entry

pub record Options : Type 0 where
  -- the scripting flag
  pub scripting_enabled : Bool
  -- whether the document is that of an `iframe` with `srcdoc`
  pub iframe_srcdoc : Bool
  -- whether no doctype is put into the tree
  pub drop_doctype : Bool
  -- whose rules hold
  pub rules : Rules

-- what the sink answers: where HTML may stand in MathML's `annotation-xml`, in whose document a template may become a
-- shadow root, and whether one became that of a host
pub record Answers : Type 0 where
  pub integration_point : Forest → ℕ → Bool
  pub allows_shadow_roots : Forest → ℕ → Bool
  pub attaches_shadow : Forest → ℕ → ℕ → List Attribute → Bool

pub record State : Type 0 where
  -- the tree, the quirks mode that it was told, and the number of errors
  pub forest : Forest
  -- the stack of open elements (section 13.2.4.2), the current node first
  pub open_elems : List Open
  -- the list of active formatting elements (section 13.2.4.3), the newest first
  pub active_formatting : List Entry
  -- the stack of template insertion modes, the current one first
  pub template_modes : List InsertionMode
  -- the insertion mode (section 13.2.4.1)
  pub mode : InsertionMode
  -- the original insertion mode, in the modes "text" and "in table text"
  pub orig_mode : Option InsertionMode
  -- the head element pointer and the form element pointer (section 13.2.4.4)
  pub head_elem : Option ℕ
  pub form_elem : Option ℕ
  -- the frameset-ok flag (section 13.2.4.5)
  pub frameset_ok : Bool
  -- whether a line feed that comes next is dropped
  pub ignore_lf : Bool
  -- whether foster parenting is enabled (section 13.2.6.1)
  pub foster_parenting : Bool
  -- the pending table character tokens (section 13.2.6.4.10)
  pub pending_table_text : List ℕ
  pub quirks_mode : QuirksMode
  -- the context of a fragment (section 13.4)
  pub context_elem : Option Open
  pub has_ended : Bool
  pub opts : Options
  pub answers : Answers

-- whether an element is in a set
abbrev pub is_in : TagSet → Open → Bool
is_in set x = is_among x.name (names_in x.namespace (set_by x.rules set))

abbrev pub named_in : Namespace → List ℕ → List ℕ → Bool
named_in Namespace.Html name local = bytes_eq name local
named_in _ name local = Bool.false

-- whether an element is HTML's of that name
abbrev pub is_named : List ℕ → Open → Bool
is_named local x = named_in x.namespace x.name local

-- the current node
abbrev pub current_node : List Open → Option Open
current_node [] = None
current_node (x ∷ xs) = Some x

-- the number of the current node; of the document, where none is open
abbrev pub current_number : List Open → ℕ
current_number [] = 0
current_number (x ∷ xs) = x.number

abbrev pub current_is : (Open → Bool) → List Open → Bool
current_is p [] = Bool.false
current_is p (x ∷ xs) = p x

abbrev pub is_fragment_by : Option Open → Bool
is_fragment_by None = Bool.false
is_fragment_by (Some context) = Bool.true

-- whether a fragment is parsed
abbrev pub is_fragment : State → Bool
is_fragment s = is_fragment_by s.context_elem

abbrev pub adjusted_by : Option Open → List Open → Option Open
adjusted_by context [] = None
adjusted_by None (x ∷ xs) = Some x
adjusted_by (Some context) (x ∷ []) = Some context
adjusted_by (Some context) (x ∷ y ∷ ys) = Some x

-- the adjusted current node (section 13.2.4.2): in a fragment whose stack holds one element, the context
abbrev pub adjusted_current_node : State → Option Open
adjusted_current_node s = adjusted_by s.context_elem s.open_elems

-- a state without its number of errors
abbrev pub hushed : State → State
hushed s = record s { forest = with_errors 0 s.forest }
