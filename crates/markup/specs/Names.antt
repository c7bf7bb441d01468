-- Equal names, and the names of HTML.
use Rattle.std.specs.Prelude.{ℕ, Bool, false, ◌&&◌, List, Option, Some, None, codes, nat_eq}
use Rattle.std.specs.List.{list_any}
use Rattle.std.specs.Option.{option_eq}
use Rattle.std.specs.Cmp.Lexicographic.{pointwise}
use Rattle.std.specs.Str.{bytes_eq}
use Rattle.markup.specs.declared.names.QualName.{QualName}
use Rattle.markup.specs.declared.attributes.Attribute.{Attribute}

-- whether two names have equal prefixes, namespaces and local names
abbrev pub same_name : QualName → QualName → Bool
same_name a b = option_eq (pointwise nat_eq) a.prefix b.prefix && (pointwise nat_eq a.ns b.ns && pointwise nat_eq a.local b.local)

-- whether one of the attributes has that name
abbrev pub has_attribute : QualName → List Attribute → Bool
has_attribute name attributes = list_any (λ attribute. same_name attribute.name name) attributes

unfoldable pub html_namespace : List ℕ
html_namespace = codes "http://www.w3.org/1999/xhtml"

-- the name of an HTML element, without a prefix
abbrev pub html_name : List ℕ → QualName
html_name local = record { prefix = None; ns = html_namespace; local = local }

-- whether it is the name of an HTML element with that local name
abbrev pub is_html_name : Option QualName → List ℕ → Bool
is_html_name None local = false
is_html_name (Some name) local = bytes_eq name.ns html_namespace && bytes_eq name.local local
