-- Namespaces of elements, and what is known of a new element by its name (Infra Standard, section 8; HTML Standard, section 13.2.6.1).
use Rattle.std.specs.Prelude.{ℕ, Bool, false, ◌||◌, ◌&&◌, cond, List, [], None, codes}
use Rattle.std.specs.Char.{to_ascii_lowercase}
use Rattle.std.specs.List.{list_any}
use Rattle.std.specs.Prelude.{map}
use Rattle.std.specs.Str.{bytes_eq}
use Rattle.markup.specs.Names.{html_namespace}
use Rattle.markup.specs.declared.attributes.Attribute.{Attribute}
use Rattle.markup.specs.declared.flags.ElementFlags.{ElementFlags}
use Rattle.markup.specs.declared.names.QualName.{QualName}

-- the namespace of an element; only the context of a fragment, and what stands in it, has another than the three
pub data Namespace : Type 0 where
  Html : Namespace
  MathMl : Namespace
  Svg : Namespace
  Other : (uri : List ℕ) → Namespace

unfoldable pub mathml_namespace : List ℕ
mathml_namespace = codes "http://www.w3.org/1998/Math/MathML"

unfoldable pub svg_namespace : List ℕ
svg_namespace = codes "http://www.w3.org/2000/svg"

-- how a namespace is written in a name
abbrev pub uri_of : Namespace → List ℕ
uri_of Html = html_namespace
uri_of MathMl = mathml_namespace
uri_of Svg = svg_namespace
uri_of (Other uri) = uri

-- which namespace is so written
abbrev pub namespace_of : List ℕ → Namespace
namespace_of uri = cond (bytes_eq uri html_namespace) Html
    (cond (bytes_eq uri mathml_namespace) MathMl (cond (bytes_eq uri svg_namespace) Svg (Other uri)))

-- the name of an element that the rules create
abbrev pub element_name_of : Namespace → List ℕ → QualName
element_name_of namespace name = record { prefix = None; ns = uri_of namespace; local = name }

abbrev pub is_html : Namespace → Bool
is_html Html = Bool.true
is_html _ = false

abbrev pub is_mathml : Namespace → Bool
is_mathml MathMl = Bool.true
is_mathml _ = false

-- equal in any case, where the second text is lowered
abbrev pub equals_any_case : List ℕ → List ℕ → Bool
equals_any_case text lowered = bytes_eq (map to_ascii_lowercase text) lowered

-- an attribute `encoding` that says that HTML stands in the element
abbrev pub encodes_html : Attribute → Bool
encodes_html attribute =
    bytes_eq attribute.name.ns [] && bytes_eq attribute.name.local (codes "encoding")
    && (equals_any_case attribute.value (codes "text/html") || equals_any_case attribute.value (codes "application/xhtml+xml"))

-- what is told of a new element: whether it is a template, and whether HTML may stand in it though it is MathML's `annotation-xml`
abbrev pub flags_of : Namespace → List ℕ → List Attribute → Bool → ElementFlags
flags_of namespace name attributes had_duplicate_attributes = record {
  template = is_html namespace && bytes_eq name (codes "template");
  mathml_annotation_xml_integration_point = is_mathml namespace && bytes_eq name (codes "annotation-xml")
      && list_any encodes_html attributes;
  had_duplicate_attributes = had_duplicate_attributes;
}
