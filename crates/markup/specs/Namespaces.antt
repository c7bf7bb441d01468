-- The namespaces that the parser knows (Infra Standard, section 8), by their names.
use Rattle.std.specs.Prelude.{◌≡◌, ℕ, Bool, true, false, cond, List, [], Option, Some, None, codes, refl}
use Rattle.std.proofs.Common.{◌∙◌, ap}
use Rattle.std.specs.Str.{bytes_eq, chars}
use Rattle.std.specs.String.{string_bytes}
use Rattle.std.proofs.lemmas.Slice.Eq.{bytes_eq-Decides}
use Rattle.markup.specs.declared.namespaces.KnownNamespace.{KnownNamespace}
use Rattle.markup.specs.declared.namespaces.KnownNamespace.TheVariants.{NoNamespace, Html, MathMl, Svg, XLink, Xml, Xmlns}
use Rattle.markup.specs.declared.namespaces.KnownForm.{KnownForm}
use Rattle.markup.specs.declared.namespaces.KnownForm.TheVariants.{Known, Other}

-- the name of a known namespace
unfoldable pub name_of : KnownNamespace → List ℕ
name_of NoNamespace = []
name_of Html = codes "http://www.w3.org/1999/xhtml"
name_of MathMl = codes "http://www.w3.org/1998/Math/MathML"
name_of Svg = codes "http://www.w3.org/2000/svg"
name_of XLink = codes "http://www.w3.org/1999/xlink"
name_of Xml = codes "http://www.w3.org/XML/1998/namespace"
name_of Xmlns = codes "http://www.w3.org/2000/xmlns/"

-- the usual prefix of a known namespace
unfoldable pub prefix_of : KnownNamespace → List ℕ
prefix_of NoNamespace = []
prefix_of Html = codes "html"
prefix_of MathMl = codes "mathml"
prefix_of Svg = codes "svg"
prefix_of XLink = codes "xlink"
prefix_of Xml = codes "xml"
prefix_of Xmlns = codes "xmlns"

-- a namespace where a name is its name, else what another test gives
abbrev pub if_named : List ℕ → KnownNamespace → Option KnownNamespace → Option KnownNamespace
if_named name known other = cond (bytes_eq name (name_of known)) (Some known) other

-- the known namespace of a name, if there is one
unfoldable pub known_namespace : List ℕ → Option KnownNamespace
known_namespace name =
    if_named name Html (if_named name NoNamespace
    (if_named name Svg (if_named name MathMl (if_named name XLink (if_named name Xml (if_named name Xmlns None))))))

-- the name of a namespace as it is held
abbrev pub form_name : KnownForm → List ℕ
form_name (Known known) = name_of known
form_name (Other name) = chars (string_bytes name)

-- a prefix as it is held
abbrev pub form_prefix : KnownForm → List ℕ
form_prefix (Known known) = prefix_of known
form_prefix (Other prefix) = chars (string_bytes prefix)

abbrev pub form_known : KnownForm → Option KnownNamespace
form_known (Known known) = Some known
form_known (Other name) = None

-- a known namespace is held as such
abbrev pub IsCanonical : KnownForm → Type 0
IsCanonical form = form_known form ≡ known_namespace (form_name form)

-- the name of a known namespace is known as its name
pub known-name_of : (known : KnownNamespace) → known_namespace (name_of known) ≡ Some known
unfolding known_namespace name_of
known-name_of NoNamespace = refl
known-name_of Html = refl
known-name_of MathMl = refl
known-name_of Svg = refl
known-name_of XLink = refl
known-name_of Xml = refl
known-name_of Xmlns = refl

if_named-name : (name : List ℕ) (one known : KnownNamespace) (other : Option KnownNamespace) (b : Bool)
    → bytes_eq name (name_of one) ≡ b → cond b (Some one) other ≡ Some known
    → (other ≡ Some known → name ≡ name_of known) → name ≡ name_of known
if_named-name name one known other true e h rest =
    let same : one ≡ known = cc in
    (bytes_eq-Decides name (name_of one)).0 e ∙ ap name_of same
if_named-name name one known other false e h rest = rest h

-- what is known of a name is that it is the name
pub name-known : (name : List ℕ) (known : KnownNamespace) → known_namespace name ≡ Some known → name ≡ name_of known
unfolding known_namespace
name-known name known h =
    if_named-name name _ known _ _ refl h (λ h1.
    if_named-name name _ known _ _ refl h1 (λ h2.
    if_named-name name _ known _ _ refl h2 (λ h3.
    if_named-name name _ known _ _ refl h3 (λ h4.
    if_named-name name _ known _ _ refl h4 (λ h5.
    if_named-name name _ known _ _ refl h5 (λ h6.
    if_named-name name _ known _ _ refl h6 (λ h7. absurd cc)))))))
