-- Where each element of a tree came from, once a token was taken: from the state before, from the token, or from the rules themselves.
use Rattle.std.specs.Prelude.{◌≡◌, ◌≤◌, ◌⊎◌, ℕ, Bool, true, List, [], ◌∷◌, Some, IfOk, codes}
use Rattle.markup.specs.Forest.{data_of, node_count, with_missing}
use Rattle.markup.specs.Forest.NodeData.{Element as ElementNode}
use Rattle.markup.specs.declared.attributes.Attribute.{Attribute}
use Rattle.markup.specs.declared.names.QualName.{QualName}
use Rattle.html_tokens.specs.declared.tags.Tag.{Tag}
use Rattle.html_tokens.specs.declared.tags.TagKind.TheVariants.{StartTag, EndTag}
use Rattle.html_tokens.specs.declared.token.Token.{Token}
use Rattle.html_tokens.specs.declared.token.Token.TheVariants.{TagToken}
use Rattle.html_rules.specs.Names.{Namespace, Html, MathMl, Svg, element_name_of}
use Rattle.html_rules.specs.Renames.{adjust_attributes, adjust_tag_name}
use Rattle.html_rules.specs.Sets.{is_among}
use Rattle.html_rules.specs.State.{Entry, Element, Marker, Open, State}
use Rattle.html_rules.specs.Step.{step}
use Rattle.html_origins.specs.Allowed.{IsStateAllowed, Allowed, cells, cells_and_rows, root_and_body}

-- a tag is in the list of active formatting elements
abbrev pub IsListed : Tag → List Entry → Type 0
IsListed tag [] = ⊥
IsListed tag (Marker ∷ entries) = IsListed tag entries
IsListed tag (Element n other ∷ entries) = (other ≡ tag) ⊎ IsListed tag entries

-- an element of that namespace is open
abbrev pub IsOpenIn : Namespace → List Open → Type 0
IsOpenIn namespace [] = ⊥
IsOpenIn namespace (x ∷ xs) = (x.namespace ≡ namespace) ⊎ IsOpenIn namespace xs

-- a token is this start tag; this end tag
pub record IsStartOf (t : Token) (tag : Tag) : Type 0 where
  pub token : t ≡ TagToken tag
  pub kind : tag.kind ≡ StartTag

pub record IsEndOf (t : Token) (tag : Tag) : Type 0 where
  pub token : t ≡ TagToken tag
  pub kind : tag.kind ≡ EndTag

-- the namespaces in which a token may make elements
pub data IsNamespaceFor (s : State) (t : Token) : Namespace → Type 0 where
  Own : IsNamespaceFor s t Html
  Opened : {namespace : Namespace} → IsOpenIn namespace s.open_elems → IsNamespaceFor s t namespace
  Context : (x : Open) → s.context_elem ≡ Some x → IsNamespaceFor s t x.namespace
  ByMath : (tag : Tag) → IsStartOf t tag → is_among tag.name (codes "math" ∷ []) ≡ true → IsNamespaceFor s t MathMl
  BySvg : (tag : Tag) → IsStartOf t tag → is_among tag.name (codes "svg" ∷ []) ≡ true → IsNamespaceFor s t Svg

-- a node that did not stand in the tree
abbrev pub IsNew : State → ℕ → Type 0
IsNew s n = node_count s.forest ≤ n

-- the element of a node, with this name and these attributes, has an origin, where a token is taken in a state
pub data Origin (s : State) (t : Token) : ℕ → QualName → List Attribute → Type 0 where
  -- it stood in the tree
  Old : {name : QualName} {attributes : List Attribute} (n : ℕ) (template integration_point : Bool)
      → data_of s.forest n ≡ ElementNode name attributes template integration_point → Origin s t n name attributes
  -- it is made again of a listed tag
  Listed : (n : ℕ) → IsNew s n → (tag : Tag) → IsListed tag s.active_formatting → Origin s t n (element_name_of Html tag.name) tag.attrs
  -- it is the token's own
  Own : (n : ℕ) → IsNew s n → (tag : Tag) → IsStartOf t tag → Origin s t n (element_name_of Html tag.name) tag.attrs
  -- the same in foreign content, with the names of its namespace
  Foreign : (n : ℕ) → IsNew s n → (tag : Tag) (namespace : Namespace) → IsStartOf t tag → IsNamespaceFor s t namespace
      → Origin s t n (element_name_of namespace (adjust_tag_name namespace tag.name)) (adjust_attributes namespace tag.attrs)
  MathRoot : (n : ℕ) → IsNew s n → (tag : Tag) → IsStartOf t tag → is_among tag.name (codes "math" ∷ []) ≡ true
      → Origin s t n (element_name_of MathMl tag.name) (adjust_attributes MathMl tag.attrs)
  SvgRoot : (n : ℕ) → IsNew s n → (tag : Tag) → IsStartOf t tag → is_among tag.name (codes "svg" ∷ []) ≡ true
      → Origin s t n (element_name_of Svg tag.name) (adjust_attributes Svg tag.attrs)
  -- `image` is taken as `img`
  Image : (n : ℕ) → IsNew s n → (tag : Tag) → IsStartOf t tag → is_among tag.name (codes "image" ∷ []) ≡ true
      → Origin s t n (element_name_of Html (codes "img")) tag.attrs
  -- what the rules make by themselves has no attributes: with any token
  ImpliedHtml : (n : ℕ) → IsNew s n → Origin s t n (element_name_of Html (codes "html")) []
  ImpliedHead : (n : ℕ) → IsNew s n → Origin s t n (element_name_of Html (codes "head")) []
  ImpliedBody : (n : ℕ) → IsNew s n → Origin s t n (element_name_of Html (codes "body")) []
  -- round a column, a row and a cell
  ImpliedColgroup : (n : ℕ) → IsNew s n → (tag : Tag) → IsStartOf t tag → is_among tag.name (codes "col" ∷ []) ≡ true
      → Origin s t n (element_name_of Html (codes "colgroup")) []
  ImpliedTbody : (n : ℕ) → IsNew s n → (tag : Tag) → IsStartOf t tag → is_among tag.name cells_and_rows ≡ true
      → Origin s t n (element_name_of Html (codes "tbody")) []
  ImpliedTr : (n : ℕ) → IsNew s n → (tag : Tag) → IsStartOf t tag → is_among tag.name cells ≡ true
      → Origin s t n (element_name_of Html (codes "tr")) []
  -- for `</p>` and `</br>`
  ImpliedP : (n : ℕ) → IsNew s n → (tag : Tag) → IsEndOf t tag → is_among tag.name (codes "p" ∷ []) ≡ true
      → Origin s t n (element_name_of Html (codes "p")) []
  ImpliedBr : (n : ℕ) → IsNew s n → (tag : Tag) → IsEndOf t tag → is_among tag.name (codes "br" ∷ []) ≡ true
      → Origin s t n (element_name_of Html (codes "br")) []
  -- an element that took the missing attributes of a tag `html` or `body`
  WithAdded : (n : ℕ) (name : QualName) (attributes : List Attribute) (tag : Tag) → IsStartOf t tag → is_among tag.name root_and_body ≡ true
      → Origin s t n name attributes → Origin s t n name (with_missing attributes tag.attrs)

-- what has an origin
abbrev pub with_origin : State → Token → Allowed
with_origin s t = record { first = node_count s.forest; element = Origin s t; namespace = IsNamespaceFor s t; adds = λ name tag. Unit {0} }

-- Whatever the state and the token: once it was taken, each element of the tree has an origin, and so has each listed tag.
abbrev pub IsEachOriginKnown : Type 0
IsEachOriginKnown = (s : State) (t : Token) (line : ℕ) → IfOk (step s t line) (λ after. IsStateAllowed (with_origin s t) after.0)
