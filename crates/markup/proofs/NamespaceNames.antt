-- The names of namespaces are of ASCII alone, and one of them is that of HTML.
use Rattle.std.proofs.Common.{◌≡◌, refl}
use Rattle.std.specs.Str.{chars}
use Rattle.markup.specs.declared.namespaces.KnownNamespace.{KnownNamespace}
use Rattle.markup.specs.declared.namespaces.KnownNamespace.TheVariants.{NoNamespace, Html, MathMl, Svg, XLink, Xml, Xmlns}
use Rattle.markup.specs.Names.{html_namespace}
use Rattle.markup.specs.Namespaces.{name_of, prefix_of}
use Rattle.markup.proofs.Plain.{chars-plain}

pub chars-name_of : (known : KnownNamespace) → chars (name_of known) ≡ name_of known
unfolding name_of
chars-name_of NoNamespace = chars-plain (name_of NoNamespace) refl
chars-name_of Html = chars-plain (name_of Html) refl
chars-name_of MathMl = chars-plain (name_of MathMl) refl
chars-name_of Svg = chars-plain (name_of Svg) refl
chars-name_of XLink = chars-plain (name_of XLink) refl
chars-name_of Xml = chars-plain (name_of Xml) refl
chars-name_of Xmlns = chars-plain (name_of Xmlns) refl

pub html-name_of : name_of Html ≡ html_namespace
unfolding name_of html_namespace
html-name_of = refl

pub chars-prefix_of : (known : KnownNamespace) → chars (prefix_of known) ≡ prefix_of known
unfolding prefix_of
chars-prefix_of NoNamespace = chars-plain (prefix_of NoNamespace) refl
chars-prefix_of Html = chars-plain (prefix_of Html) refl
chars-prefix_of MathMl = chars-plain (prefix_of MathMl) refl
chars-prefix_of Svg = chars-plain (prefix_of Svg) refl
chars-prefix_of XLink = chars-plain (prefix_of XLink) refl
chars-prefix_of Xml = chars-plain (prefix_of Xml) refl
chars-prefix_of Xmlns = chars-plain (prefix_of Xmlns) refl
