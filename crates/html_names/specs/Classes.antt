-- What is known of an element by its namespace and its name.
use Rattle.std.specs.Prelude.{◌≡◌, ℕ, false, List, Option, Some, None}
use Rattle.std.specs.List.{list_any}
use Rattle.std.specs.Str.{bytes_eq}
use Rattle.markup.specs.KnownNames.{IsNameAt, names}
use Rattle.markup.specs.declared.known_names.KnownName.{KnownName}
use Rattle.html_rules.specs.Names.{Namespace}
use Rattle.html_rules.specs.Sets.{is_among, names_in, set_by}
use Rattle.html_rules.specs.declared.rules.Rules.{Rules}
use Rattle.html_rules.specs.declared.tag_set.TagSet.{TagSet}
use Rattle.html_names.specs.SetBits.{has_set}
use Rattle.html_names.specs.declared.element_class.ElementClass.{ElementClass}
use Rattle.html_names.specs.declared.element_class.ElementNamespace.{ElementNamespace}
use Rattle.html_names.specs.declared.element_class.ElementNamespace.TheVariants.{Html, MathMl, Svg, Other}

-- the kind of a namespace
abbrev pub kind_of : Namespace → ElementNamespace
kind_of Namespace.Html = Html
kind_of Namespace.MathMl = MathMl
kind_of Namespace.Svg = Svg
kind_of (Namespace.Other uri) = Other

-- bits say of each set whether an element is in it
pub record IsRowOf (namespace : Namespace) (name : List ℕ) (sets : ℕ) : Type 0 where
  pub each : (set : TagSet) → has_set sets set ≡ is_among name (names_in namespace set)

-- the same of an open element, of the sets that the rules ask for
pub record IsRowBy (rules : Rules) (namespace : Namespace) (name : List ℕ) (sets : ℕ) : Type 0 where
  pub each : (set : TagSet) → has_set sets set ≡ is_among name (names_in namespace (set_by rules set))

-- what is known of a text as a name
abbrev pub IsKnownAs : Option KnownName → List ℕ → Type 0
IsKnownAs None name = list_any (bytes_eq name) names ≡ false
IsKnownAs (Some known) name = IsNameAt known.place name

-- a class is that of an element
pub record IsClassOf (namespace : Namespace) (name : List ℕ) (class : ElementClass) : Type 0 where
  pub kind : kind_of namespace ≡ class.namespace
  pub known : IsKnownAs class.known name
  pub sets : IsRowOf namespace name class.sets
