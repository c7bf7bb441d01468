-- The bits of a known name, and of one that is not known.
use Rattle.std.proofs.Common.{◌≡◌, ℕ, ◌<◌, false, List, [], length, get_or}
use Rattle.std.specs.List.{list_any}
use Rattle.std.specs.Str.{bytes_eq}
use Rattle.std.proofs.lemmas.Nat.Bits.{bit_at-zero}
use Rattle.markup.specs.KnownNames.{names}
use Rattle.html_rules.specs.Names.{Namespace, Html, MathMl, Svg, Other}
use Rattle.html_names.specs.Classes.{IsRowOf, kind_of}
use Rattle.html_names.specs.declared.element_class.ElementNamespace.TheVariants as ElementNamespace
use Rattle.html_names.specs.SetBits.{number_of}
use Rattle.html_names.specs.SetRows.{html_row, mathml_row, svg_row}
use Rattle.html_names.proofs.FittingRows.{html-row, mathml-row, svg-row}
use Rattle.html_names.proofs.UnknownNames.{unknown-among}

pub IsRowOf-html : (k : ℕ) → k < length names → IsRowOf Html (get_or names k []) (html_row k)
IsRowOf-html k l = record { each = html-row k l }

pub IsRowOf-mathml : (k : ℕ) → k < length names → IsRowOf MathMl (get_or names k []) (mathml_row k)
IsRowOf-mathml k l = record { each = mathml-row k l }

pub IsRowOf-svg : (k : ℕ) → k < length names → IsRowOf Svg (get_or names k []) (svg_row k)
IsRowOf-svg k l = record { each = svg-row k l }

pub IsRowOf-other : (uri name : List ℕ) → IsRowOf (Other uri) name 0
IsRowOf-other uri name = record { each = λ s. rw (bit_at-zero (number_of s)) }

pub IsRowOf-none : (space : Namespace) (name : List ℕ) → kind_of space ≡ ElementNamespace.Other → IsRowOf space name 0
IsRowOf-none (Other uri) name h = IsRowOf-other uri name
IsRowOf-none Html name h = absurd cc
IsRowOf-none MathMl name h = absurd cc
IsRowOf-none Svg name h = absurd cc

pub IsRowOf-unknown : (space : Namespace) (name : List ℕ) → list_any (bytes_eq name) names ≡ false → IsRowOf space name 0
IsRowOf-unknown space name h = record { each = λ s. rw (bit_at-zero (number_of s), unknown-among space name s h) }
