-- Where the elements of a tree came from, once many tokens were taken whose tags were all kept by a test.
use Rattle.std.specs.Prelude.{◌≡◌, ℕ, Bool, true, false, List, [], ◌∷◌, Some, Result, Ok, IfOk, codes}
use Rattle.markup.specs.Forest.{data_of, node_count, with_missing}
use Rattle.markup.specs.Forest.NodeData.{Element as ElementNode}
use Rattle.markup.specs.declared.attributes.Attribute.{Attribute}
use Rattle.markup.specs.declared.names.QualName.{QualName}
use Rattle.html_tokens.specs.Reading.{◌>>=◌}
use Rattle.html_tokens.specs.Sink.{Refusal}
use Rattle.html_tokens.specs.declared.tags.Tag.{Tag}
use Rattle.html_tokens.specs.declared.tags.TagKind.{TagKind}
use Rattle.html_tokens.specs.declared.tags.TagKind.TheVariants.{StartTag, EndTag}
use Rattle.html_tokens.specs.declared.token.Token.{Token}
use Rattle.html_tokens.specs.declared.token.Token.TheVariants.{TagToken}
use Rattle.html_rules.specs.Names.{Namespace, Html, element_name_of}
use Rattle.html_rules.specs.Renames.{adjust_attributes, adjust_tag_name}
use Rattle.html_rules.specs.Sets.{is_among}
use Rattle.html_rules.specs.State.{Open, State}
use Rattle.html_rules.specs.Step.{step}
use Rattle.html_rules_laws.specs.Usable.{Usable}
use Rattle.html_origins.specs.Origin.{IsListed, IsNew, IsOpenIn}
use Rattle.html_origins.specs.Allowed.{IsStateAllowed, Allowed, root_and_body}

-- which tags are kept, by their names and attributes; an end tag is one without attributes
abbrev pub KeptTags : Type 0
KeptTags = List ℕ → List Attribute → Bool

abbrev pub IsTagKept : KeptTags → TagKind → Tag → Type 0
IsTagKept kept StartTag tag = kept tag.name tag.attrs ≡ true
IsTagKept kept EndTag tag = kept tag.name [] ≡ true

-- any other token is kept
abbrev pub IsKeptToken : KeptTags → Token → Type 0
IsKeptToken kept (TagToken tag) = IsTagKept kept tag.kind tag
IsKeptToken kept t = Unit {0}

-- tokens, each with its line
abbrev pub AreKeptTokens : KeptTags → List (Token × ℕ) → Type 0
AreKeptTokens kept [] = Unit {0}
AreKeptTokens kept (t ∷ ts) = IsKeptToken kept t.0 × AreKeptTokens kept ts

-- none of them opens a namespace or takes another name
abbrev pub renamed_tags : List (List ℕ)
renamed_tags = codes "math" ∷ codes "svg" ∷ codes "image" ∷ []

abbrev pub KeepsHtmlOnly : KeptTags → Type 0
KeepsHtmlOnly kept = (name : List ℕ) (attributes : List Attribute) → kept name attributes ≡ true → is_among name renamed_tags ≡ false

-- the names of elements that the rules make by themselves
abbrev pub implied_names : List (List ℕ)
implied_names = codes "html" ∷ codes "head" ∷ codes "body" ∷ codes "colgroup" ∷ codes "tbody" ∷ codes "tr" ∷ []

-- the namespaces of a state
pub data IsNamespaceOf (s : State) : Namespace → Type 0 where
  Own : IsNamespaceOf s Html
  Opened : (namespace : Namespace) → IsOpenIn namespace s.open_elems → IsNamespaceOf s namespace
  Context : (x : Open) → s.context_elem ≡ Some x → IsNamespaceOf s x.namespace

-- The element of a node, with this name and these attributes, has an origin: it stood in the tree; or the node is new, and it is created
-- again
-- for a tag that was listed, or for a kept tag, as HTML or with the names of a namespace of the state, or the rules created it by
-- themselves, without attributes. An `html` or a `body` may have taken the missing attributes of a kept tag of its name besides.
pub data KeptOrigin (kept : KeptTags) (s : State) : ℕ → QualName → List Attribute → Type 0 where
  Old : {name : QualName} {attributes : List Attribute} (n : ℕ) (template integration_point : Bool)
      → data_of s.forest n ≡ ElementNode name attributes template integration_point → KeptOrigin kept s n name attributes
  Listed : (n : ℕ) → IsNew s n → (tag : Tag) → IsListed tag s.active_formatting
      → KeptOrigin kept s n (element_name_of Html tag.name) tag.attrs
  Own : (n : ℕ) → IsNew s n → (name : List ℕ) (attributes : List Attribute) → kept name attributes ≡ true
      → KeptOrigin kept s n (element_name_of Html name) attributes
  Foreign : (n : ℕ) → IsNew s n → (namespace : Namespace) (name : List ℕ) (attributes : List Attribute) → kept name attributes ≡ true
      → IsNamespaceOf s namespace
      → KeptOrigin kept s n (element_name_of namespace (adjust_tag_name namespace name)) (adjust_attributes namespace attributes)
  Implied : (n : ℕ) → IsNew s n → (name : List ℕ) → is_among name implied_names ≡ true → KeptOrigin kept s n (element_name_of Html name) []
  WithAdded : (n : ℕ) (tag : List ℕ) (attributes others : List Attribute) → is_among tag root_and_body ≡ true → kept tag others ≡ true
      → KeptOrigin kept s n (element_name_of Html tag) attributes
      → KeptOrigin kept s n (element_name_of Html tag) (with_missing attributes others)

abbrev pub with_kept_origin : KeptTags → State → Allowed
with_kept_origin kept s = record {
  first = node_count s.forest;
  element = KeptOrigin kept s;
  namespace = IsNamespaceOf s;
  adds = λ name
      tag. name ≡ element_name_of Html tag;
}

-- the state of the rules after they have processed these tokens, each with its line
abbrev pub after_tokens : List (Token × ℕ) → State → Result State Refusal
after_tokens [] s = Ok s
after_tokens (t ∷ ts) s = step s t.0 t.1 >>= λ p. after_tokens ts p.0

-- Whatever the state, among those that the rules lead to: once tokens were taken whose tags were kept, each element of the tree has an
-- origin.
abbrev pub IsEachKeptOriginKnown : Type 0
IsEachKeptOriginKnown = (kept : KeptTags) → KeepsHtmlOnly kept → (ts : List (Token × ℕ)) → AreKeptTokens kept ts → (s : State) → Usable s
    → IfOk (after_tokens ts s) (λ after. IsStateAllowed (with_kept_origin kept s) after)
