-- The tags of SVG's elements, where they stand in SVG.
use Rattle.std.specs.Prelude.{◌≡◌, ℕ, Bool, true, false, ◌&&◌, ◌||◌, not, List, ◌∷◌, Option, Some, None, codes, is_none}
use Rattle.std.specs.List.{list_all}
use Rattle.std.specs.Str.{bytes_eq}
use Rattle.markup.specs.Attributes.{are_distinct}
use Rattle.markup.specs.declared.attributes.Attribute.{Attribute}
use Rattle.markup.specs.declared.names.QualName.{QualName}
use Rattle.html_rules.specs.Conditions.{is_alone, is_nonempty}
use Rattle.html_rules.specs.ForeignContent.{is_html_element}
use Rattle.html_rules.specs.Names.{Namespace, Svg, namespace_of, svg_namespace}
use Rattle.html_rules.specs.Renames.{xmlns_namespace}
use Rattle.html_rules.specs.Sets.{is_among}
use Rattle.html_rules.specs.State.{Open, current_is, is_in}
use Rattle.html_rules.specs.declared.tag_set.TagSet.TheVariants as set
use Rattle.html_faithful.specs.Forms.{is_kept}
use Rattle.html_faithful.specs.Harmless.{Made, nothing_yet}
use Rattle.html_faithful.specs.Spots.{Spot, opened_at}
use Rattle.html_faithful_walk.specs.Common.{is_bare, is_flow}
use Rattle.html_faithful_walk.specs.Kinds.{is_told_back, svg_names}

abbrev pub is_svg_space : Namespace → Bool
is_svg_space Svg = true
is_svg_space namespace = false

abbrev pub is_svg_element : Open → Bool
is_svg_element x = is_svg_space x.namespace

-- whether an element is SVG's, and no HTML may stand in it
abbrev pub holds_svg : Open → Bool
holds_svg x = is_svg_space x.namespace && not (is_in set.SvgHtmlIntegrationPoint x)

abbrev pub takes_svg : List Open → Bool
takes_svg path = current_is holds_svg path

abbrev pub is_svg : QualName → Bool
is_svg name = is_none name.prefix && bytes_eq name.ns svg_namespace

-- the attribute `xmlns` in its namespace
abbrev pub is_empty : Option (List ℕ) → Bool
is_empty None = false
is_empty (Some prefix) = not (is_nonempty prefix)

abbrev pub is_xmlns : QualName → Bool
is_xmlns name = is_empty name.prefix && (bytes_eq name.ns xmlns_namespace && bytes_eq name.local (codes "xmlns"))

-- whether an attribute of SVG is read with the name and the value that it has
abbrev pub is_svg_read : Attribute → Bool
is_svg_read a = ((is_bare a.name && is_told_back a.name.local) || is_xmlns a.name) && is_kept a.value

abbrev pub are_svg_read : List Attribute → Bool
are_svg_read attributes = list_all is_svg_read attributes && are_distinct attributes

-- an element of SVG is only put there by its start tag
pub record IsPutIn (name : QualName) (attributes : List Attribute) (p : Spot) : Type 0 where
  pub svg : is_svg name ≡ true
  pub named : is_among name.local svg_names ≡ true
  pub takes : takes_svg p.path ≡ true
  pub read : are_svg_read attributes ≡ true

-- so is `svg` where it stands in a body or in a cell
pub record IsRootIn (name : QualName) (attributes : List Attribute) (p : Spot) : Type 0 where
  pub svg : is_svg name ≡ true
  pub named : bytes_eq name.local (codes "svg") ≡ true
  pub flow : is_flow p.mode ≡ true
  pub html : current_is is_html_element p.path ≡ true
  pub read : are_svg_read attributes ≡ true

abbrev pub opened_svg : QualName → Spot → Made
opened_svg name p = nothing_yet (record p { path = opened_at p.rules (namespace_of name.ns) name.local p.path ∷ p.path })

-- whether the current node is the SVG element of a name, and does not stand alone
abbrev pub is_current_svg : List ℕ → List Open → Bool
is_current_svg local path = not (is_alone path) && (current_is is_svg_element path && current_is (λ x. bytes_eq local x.name) path)

-- and only closed by its end tag
pub record IsClosedIn (name : QualName) (p : Spot) : Type 0 where
  pub svg : is_svg name ≡ true
  pub named : is_among name.local svg_names ≡ true
  pub current : is_current_svg name.local p.path ≡ true
