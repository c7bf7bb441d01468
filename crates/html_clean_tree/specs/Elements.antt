-- Which elements a reader makes of cleaned text, wherever it is put.
use Rattle.std.specs.Prelude.{◌≡◌, ℕ, Bool, true, false, ◌&&◌, ◌||◌, List, [], ◌∷◌, map}
use Rattle.std.specs.Char.{to_ascii_lowercase}
use Rattle.markup.specs.Forest.{data_of, node_count, with_missing}
use Rattle.markup.specs.Forest.NodeData.{Element as ElementNode}
use Rattle.markup.specs.declared.attributes.Attribute.{Attribute}
use Rattle.markup.specs.declared.names.QualName.{QualName}
use Rattle.html_tokens.specs.declared.tags.Tag.{Tag}
use Rattle.html_rules.specs.Names.{Html, Namespace, element_name_of}
use Rattle.html_rules.specs.Sets.{is_among}
use Rattle.html_rules.specs.State.{State}
use Rattle.html_clean.specs.Cleaned.{are_lawful_attributes}
use Rattle.html_clean.specs.Policies.{is_kept_name}
use Rattle.html_clean.specs.declared.policy.Policy.{Policy}
use Rattle.html_origins.specs.Allowed.{Allowed, root_and_body}
use Rattle.html_origins.specs.KeptTokens.{IsNamespaceOf, implied_names}
use Rattle.html_origins.specs.Origin.{IsListed, IsNew}

abbrev pub is_bare : List Attribute → Bool
is_bare [] = true
is_bare (a ∷ attributes) = false

-- whether a policy keeps an element of this name with these attributes; or with none, since an end tag of `p` or `br` may create one
abbrev pub is_kept_element : Policy → List ℕ → List Attribute → Bool
is_kept_element policy name attributes = is_kept_name policy name && (is_bare attributes || are_lawful_attributes policy name attributes)

-- an attribute with its name in lower case
abbrev pub lowered_attribute : Attribute → Attribute
lowered_attribute a = record a { name = record a.name { local = map to_ascii_lowercase a.name.local } }

-- Where an element comes from, once cleaned text was read into a tree: `s` is the state before.
pub data CleanedOrigin (policy : Policy) (s : State) : ℕ → QualName → List Attribute → Type 0 where
  -- its node stood in the tree, with this name and these attributes
  Old : {name : QualName} {attributes : List Attribute} (n : ℕ) (template integration_point : Bool)
      → data_of s.forest n ≡ ElementNode name attributes template integration_point → CleanedOrigin policy s n name attributes
  -- it is created again for a tag that was listed as a formatting element
  Listed : (n : ℕ) → IsNew s n → (tag : Tag) → IsListed tag s.active_formatting
      → CleanedOrigin policy s n (element_name_of Html tag.name) tag.attrs
  -- the policy keeps it
  Kept : (n : ℕ) → IsNew s n → (name : List ℕ) (attributes : List Attribute) → is_kept_element policy name attributes ≡ true
      → CleanedOrigin policy s n (element_name_of Html name) attributes
  -- the same in SVG or MathML: of the names of its attributes some letters may be in upper case
  Foreign : (n : ℕ) → IsNew s n → (namespace : Namespace) → IsNamespaceOf s namespace → (name : List ℕ) (attributes : List Attribute)
      → is_kept_element policy name (map lowered_attribute attributes) ≡ true
      → CleanedOrigin policy s n (element_name_of namespace name) attributes
  -- the rules create it by themselves, without attributes: `html`, `head`, `body`, `colgroup`, `tbody` or `tr`
  Implied : (n : ℕ) → IsNew s n → (name : List ℕ) → is_among name implied_names ≡ true
      → CleanedOrigin policy s n (element_name_of Html name) []
  -- an `html` or a `body` took the missing attributes of a tag of its name that the policy keeps
  WithAdded : (n : ℕ) (name : List ℕ) (attributes others : List Attribute) → is_among name root_and_body ≡ true
      → is_kept_element policy name others ≡ true → CleanedOrigin policy s n (element_name_of Html name) attributes
      → CleanedOrigin policy s n (element_name_of Html name) (with_missing attributes others)

-- elements of such an origin, and the namespaces that a state has
abbrev pub with_cleaned_origin : Policy → State → Allowed
with_cleaned_origin policy s = record {
  first = node_count s.forest;
  element = CleanedOrigin policy s;
  namespace = IsNamespaceOf s;
  adds = λ name tag. name ≡ element_name_of Html tag;
}
