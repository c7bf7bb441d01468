-- The kind of a namespace tells which of the three it is, if it is one.
use Rattle.std.proofs.Common.{◌≡◌, refl}
use Rattle.html_rules.specs.Names.{Namespace}
use Rattle.html_names.specs.Classes.{kind_of}
use Rattle.html_names.specs.declared.element_class.ElementNamespace.TheVariants.{Html, MathMl, Svg}

pub of_html : (space : Namespace) → kind_of space ≡ Html → space ≡ Namespace.Html
of_html Namespace.Html h = refl
of_html Namespace.MathMl h = absurd cc
of_html Namespace.Svg h = absurd cc
of_html (Namespace.Other uri) h = absurd cc

pub of_mathml : (space : Namespace) → kind_of space ≡ MathMl → space ≡ Namespace.MathMl
of_mathml Namespace.MathMl h = refl
of_mathml Namespace.Html h = absurd cc
of_mathml Namespace.Svg h = absurd cc
of_mathml (Namespace.Other uri) h = absurd cc

pub of_svg : (space : Namespace) → kind_of space ≡ Svg → space ≡ Namespace.Svg
of_svg Namespace.Svg h = refl
of_svg Namespace.Html h = absurd cc
of_svg Namespace.MathMl h = absurd cc
of_svg (Namespace.Other uri) h = absurd cc
