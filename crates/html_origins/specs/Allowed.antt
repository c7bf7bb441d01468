-- Where the elements of a tree come from: from the tags that were taken, and from a few that the rules make by themselves.
use Rattle.std.specs.Prelude.{◌≡◌, ◌≤◌, ℕ, Bool, true, List, [], ◌∷◌, IfSome, IfOk, codes}
use Rattle.markup.specs.Forest.{Forest, NodeData, data_of, node_count, with_missing}
use Rattle.markup.specs.Forest.NodeData.{Element as ElementNode}
use Rattle.markup.specs.declared.attributes.Attribute.{Attribute}
use Rattle.markup.specs.declared.names.QualName.{QualName}
use Rattle.html_tokens.specs.declared.tags.Tag.{Tag}
use Rattle.html_tokens.specs.declared.tags.TagKind.{TagKind}
use Rattle.html_tokens.specs.declared.tags.TagKind.TheVariants.{StartTag, EndTag}
use Rattle.html_tokens.specs.declared.token.Token.{Token}
use Rattle.html_tokens.specs.declared.token.Token.TheVariants.{TagToken}
use Rattle.html_rules.specs.Names.{Namespace, Html, MathMl, Svg, element_name_of}
use Rattle.html_rules.specs.Renames.{adjust_attributes, adjust_tag_name}
use Rattle.html_rules.specs.Sets.{is_among}
use Rattle.html_rules.specs.State.{Entry, Element, Marker, Open, State}
use Rattle.html_rules.specs.Step.{step}

-- what is allowed: elements, by their nodes, names and attributes, and namespaces of open elements. The nodes from `first` on are new.
pub record Allowed : Type 1 where
  pub first : ℕ
  pub element : ℕ → QualName → List Attribute → Type 0
  pub namespace : Namespace → Type 0
  -- an element of this name may take the attributes of a tag of that name
  pub adds : QualName → List ℕ → Type 0

-- such an element may be created
abbrev pub MayCreate : Allowed → Namespace → List ℕ → List Attribute → Type 0
MayCreate a namespace name attributes = (n : ℕ) → a.first ≤ n → a.element n (element_name_of namespace name) attributes

-- STATES

abbrev pub IsAllowed : Allowed → ℕ → NodeData → Type 0
IsAllowed a n (ElementNode name attributes template integration_point) = a.element n name attributes
IsAllowed a n about = Unit {0}

-- all elements of a tree are allowed, and all nodes to come are new
pub record AreNodesAllowed (a : Allowed) (f : Forest) : Type 0 where
  pub each : (n : ℕ) → IsAllowed a n (data_of f n)
  pub count : a.first ≤ node_count f

-- of each listed tag an element may be made again
abbrev pub AreEntriesAllowed : Allowed → List Entry → Type 0
AreEntriesAllowed a [] = Unit {0}
AreEntriesAllowed a (Marker ∷ entries) = AreEntriesAllowed a entries
AreEntriesAllowed a (Element n tag ∷ entries) = MayCreate a Html tag.name tag.attrs × AreEntriesAllowed a entries

-- foreign elements are made in the namespaces of open ones
abbrev pub AreOpenAllowed : Allowed → List Open → Type 0
AreOpenAllowed a [] = Unit {0}
AreOpenAllowed a (x ∷ xs) = (a.namespace x.namespace) × AreOpenAllowed a xs

-- all that a state has is allowed
pub record IsStateAllowed (a : Allowed) (s : State) : Type 0 where
  pub elements : AreNodesAllowed a s.forest
  pub listed : AreEntriesAllowed a s.active_formatting
  pub opened : AreOpenAllowed a s.open_elems
  pub context : IfSome s.context_elem (λ x. a.namespace x.namespace)

-- TOKENS

-- what the rules make with any token: `html`, `head` and `body`
pub record AreRootsAllowed (a : Allowed) : Type 0 where
  pub namespace : a.namespace Html
  pub html : MayCreate a Html (codes "html") []
  pub head : MayCreate a Html (codes "head") []
  pub body : MayCreate a Html (codes "body") []

abbrev pub cells : List (List ℕ)
cells = codes "td" ∷ codes "th" ∷ []

abbrev pub cells_and_rows : List (List ℕ)
cells_and_rows = codes "tr" ∷ cells

abbrev pub root_and_body : List (List ℕ)
root_and_body = codes "html" ∷ codes "body" ∷ []

-- what the rules make of a start tag
pub record IsStartAllowed (a : Allowed) (tag : Tag) : Type 0 where
  -- its element
  pub html : MayCreate a Html tag.name tag.attrs
  -- the same in foreign content, in a namespace that is open
  pub foreign : (namespace : Namespace) → a.namespace namespace
      → MayCreate a namespace (adjust_tag_name namespace tag.name) (adjust_attributes namespace tag.attrs)
  -- `math` and `svg` open namespaces
  pub math : is_among tag.name (codes "math" ∷ []) ≡ true
      → (a.namespace MathMl) × MayCreate a MathMl tag.name (adjust_attributes MathMl tag.attrs)
  pub svg : is_among tag.name (codes "svg" ∷ []) ≡ true
      → (a.namespace Svg) × MayCreate a Svg tag.name (adjust_attributes Svg tag.attrs)
  -- `image` is taken as `img`
  pub image : is_among tag.name (codes "image" ∷ []) ≡ true → MayCreate a Html (codes "img") tag.attrs
  -- attributes of `html` and `body` are added to an element that may take them and lacks them
  pub added : is_among tag.name root_and_body ≡ true → (n : ℕ) (name : QualName) (attributes : List Attribute)
      → a.adds name tag.name → a.element n name attributes → a.element n name (with_missing attributes tag.attrs)
  -- what a column, a row or a cell wants around it
  pub colgroup : is_among tag.name (codes "col" ∷ []) ≡ true → MayCreate a Html (codes "colgroup") []
  pub tbody : is_among tag.name cells_and_rows ≡ true → MayCreate a Html (codes "tbody") []
  pub tr : is_among tag.name cells ≡ true → MayCreate a Html (codes "tr") []

-- what the rules make of an end tag: of `</p>` and `</br>` elements without attributes
pub record IsEndAllowed (a : Allowed) (tag : Tag) : Type 0 where
  pub p : is_among tag.name (codes "p" ∷ []) ≡ true → MayCreate a Html (codes "p") []
  pub br : is_among tag.name (codes "br" ∷ []) ≡ true → MayCreate a Html (codes "br") []

abbrev pub IsTagAllowed : Allowed → TagKind → Tag → Type 0
IsTagAllowed a StartTag tag = IsStartAllowed a tag
IsTagAllowed a EndTag tag = IsEndAllowed a tag

-- nothing is made of any other token, but for the roots
abbrev pub IsTokenAllowed : Allowed → Token → Type 0
IsTokenAllowed a (TagToken tag) = IsTagAllowed a tag.kind tag
IsTokenAllowed a t = Unit {0}

-- THE LAW

-- what is allowed, as tests
pub record Tests : Type 0 where
  pub first : ℕ
  pub element : ℕ → QualName → List Attribute → Bool
  pub namespace : Namespace → Bool

abbrev pub allowed_by : Tests → Allowed
allowed_by tests = record {
  first = tests.first;
  element = λ n name attributes. tests.element n name attributes ≡ true;
  adds = λ name tag. Unit {0};
  namespace = λ namespace. tests.namespace namespace ≡ true;
}

-- Whatever the state and the token, an allowed state stays one. So each element of the new tree is the token's own, was in the tree or
-- listed before, or is
-- one of the few above.
abbrev pub AreAllowedStatesKept : Type 0
AreAllowedStatesKept = (tests : Tests) (s : State) (t : Token) (line : ℕ) → AreRootsAllowed (allowed_by tests)
    → IsTokenAllowed (allowed_by tests) t
    → IsStateAllowed (allowed_by tests) s → IfOk (step s t line) (λ after. IsStateAllowed (allowed_by tests) after.0)
