-- Names that change in foreign content (HTML Standard, section 13.2.6.1, "adjust SVG attributes" and the like, and section 13.2.6.5).
use Rattle.std.specs.Prelude.{ℕ, map, List, [], ◌∷◌, Some, codes}
use Rattle.std.specs.Char.{to_ascii_lowercase}
use Rattle.std.specs.Str.{bytes_eq}
use Rattle.markup.specs.declared.attributes.Attribute.{Attribute}
use Rattle.markup.specs.declared.names.QualName.{QualName}
use Rattle.html_rules.specs.Choice.{choose}
use Rattle.html_rules.specs.Names.{Namespace, MathMl, Svg}

-- SVG elements whose names have letters in upper case
unfoldable pub svg_tag_names : List (List ℕ)
svg_tag_names = codes "altGlyph" ∷ codes "altGlyphDef" ∷ codes "altGlyphItem" ∷ codes "animateColor" ∷
    codes "animateMotion" ∷ codes "animateTransform" ∷ codes "clipPath" ∷ codes "feBlend" ∷ codes "feColorMatrix" ∷
    codes "feComponentTransfer" ∷ codes "feComposite" ∷ codes "feConvolveMatrix" ∷ codes "feDiffuseLighting" ∷
    codes "feDisplacementMap" ∷ codes "feDistantLight" ∷ codes "feDropShadow" ∷ codes "feFlood" ∷ codes "feFuncA" ∷
    codes "feFuncB" ∷ codes "feFuncG" ∷ codes "feFuncR" ∷ codes "feGaussianBlur" ∷ codes "feImage" ∷
    codes "feMerge" ∷ codes "feMergeNode" ∷ codes "feMorphology" ∷ codes "feOffset" ∷ codes "fePointLight" ∷
    codes "feSpecularLighting" ∷ codes "feSpotLight" ∷ codes "feTile" ∷ codes "feTurbulence" ∷
    codes "foreignObject" ∷ codes "glyphRef" ∷ codes "linearGradient" ∷ codes "radialGradient" ∷ codes "textPath" ∷ []

-- SVG attributes whose names have letters in upper case
unfoldable pub svg_attribute_names : List (List ℕ)
svg_attribute_names = codes "attributeName" ∷ codes "attributeType" ∷ codes "baseFrequency" ∷ codes "baseProfile" ∷
    codes "calcMode" ∷ codes "clipPathUnits" ∷ codes "diffuseConstant" ∷ codes "edgeMode" ∷ codes "filterUnits" ∷
    codes "glyphRef" ∷ codes "gradientTransform" ∷ codes "gradientUnits" ∷ codes "kernelMatrix" ∷
    codes "kernelUnitLength" ∷ codes "keyPoints" ∷ codes "keySplines" ∷ codes "keyTimes" ∷ codes "lengthAdjust" ∷
    codes "limitingConeAngle" ∷ codes "markerHeight" ∷ codes "markerUnits" ∷ codes "markerWidth" ∷
    codes "maskContentUnits" ∷ codes "maskUnits" ∷ codes "numOctaves" ∷ codes "pathLength" ∷
    codes "patternContentUnits" ∷ codes "patternTransform" ∷ codes "patternUnits" ∷ codes "pointsAtX" ∷
    codes "pointsAtY" ∷ codes "pointsAtZ" ∷ codes "preserveAlpha" ∷ codes "preserveAspectRatio" ∷
    codes "primitiveUnits" ∷ codes "refX" ∷ codes "refY" ∷ codes "repeatCount" ∷ codes "repeatDur" ∷
    codes "requiredExtensions" ∷ codes "requiredFeatures" ∷ codes "specularConstant" ∷ codes "specularExponent" ∷
    codes "spreadMethod" ∷ codes "startOffset" ∷ codes "stdDeviation" ∷ codes "stitchTiles" ∷ codes "surfaceScale" ∷
    codes "systemLanguage" ∷ codes "tableValues" ∷ codes "targetX" ∷ codes "targetY" ∷ codes "textLength" ∷
    codes "viewBox" ∷ codes "viewTarget" ∷ codes "xChannelSelector" ∷ codes "yChannelSelector" ∷ codes "zoomAndPan" ∷ []

-- such attributes of MathML
abbrev pub mathml_attribute_names : List (List ℕ)
mathml_attribute_names = codes "definitionURL" ∷ []

-- a name that is one of these in lower case becomes it
abbrev pub renamed : List (List ℕ) → List ℕ → List ℕ
renamed [] name = name
renamed (x ∷ xs) name = choose (bytes_eq name (map to_ascii_lowercase x)) (λ _. x) (λ _. renamed xs name)

abbrev pub rename_attribute : List (List ℕ) → Attribute → Attribute
rename_attribute names attribute = record attribute { name = record attribute.name { local = renamed names attribute.name.local } }

unfoldable pub xlink_namespace : List ℕ
xlink_namespace = codes "http://www.w3.org/1999/xlink"

unfoldable pub xml_namespace : List ℕ
xml_namespace = codes "http://www.w3.org/XML/1998/namespace"

unfoldable pub xmlns_namespace : List ℕ
xmlns_namespace = codes "http://www.w3.org/2000/xmlns/"

-- a name as it is written, and the name that it stands for
pub record ForeignName : Type 0 where
  pub written : List ℕ
  pub name : QualName

abbrev pub foreign_name : List ℕ → List ℕ → List ℕ → List ℕ → ForeignName
foreign_name written prefix ns local = record { written = written; name = record { prefix = Some prefix; ns = ns; local = local } }

-- the attributes with a namespace of their own ("adjust foreign attributes")
unfoldable pub foreign_attribute_names : List ForeignName
foreign_attribute_names =
    foreign_name (codes "xlink:actuate") (codes "xlink") xlink_namespace (codes "actuate")
    ∷ foreign_name (codes "xlink:arcrole") (codes "xlink") xlink_namespace (codes "arcrole")
    ∷ foreign_name (codes "xlink:href") (codes "xlink") xlink_namespace (codes "href")
    ∷ foreign_name (codes "xlink:role") (codes "xlink") xlink_namespace (codes "role")
    ∷ foreign_name (codes "xlink:show") (codes "xlink") xlink_namespace (codes "show")
    ∷ foreign_name (codes "xlink:title") (codes "xlink") xlink_namespace (codes "title")
    ∷ foreign_name (codes "xlink:type") (codes "xlink") xlink_namespace (codes "type")
    ∷ foreign_name (codes "xml:lang") (codes "xml") xml_namespace (codes "lang")
    ∷ foreign_name (codes "xml:space") (codes "xml") xml_namespace (codes "space")
    ∷ foreign_name (codes "xmlns") [] xmlns_namespace (codes "xmlns")
    ∷ foreign_name (codes "xmlns:xlink") (codes "xmlns") xmlns_namespace (codes "xlink")
    ∷ []

abbrev pub foreign_named : List ForeignName → QualName → QualName
foreign_named [] name = name
foreign_named (x ∷ xs) name = choose (bytes_eq name.local x.written) (λ _. x.name) (λ _. foreign_named xs name)

abbrev pub adjust_foreign_attribute : Attribute → Attribute
adjust_foreign_attribute attribute = record attribute { name = foreign_named foreign_attribute_names attribute.name }

-- the name of an element of foreign content
abbrev pub adjust_tag_name : Namespace → List ℕ → List ℕ
adjust_tag_name Svg name = renamed svg_tag_names name
adjust_tag_name _ name = name

abbrev pub adjust_own_attributes : Namespace → List Attribute → List Attribute
adjust_own_attributes MathMl attributes = map (rename_attribute mathml_attribute_names) attributes
adjust_own_attributes Svg attributes = map (rename_attribute svg_attribute_names) attributes
adjust_own_attributes _ attributes = attributes

-- the attributes of an element of foreign content
unfoldable pub adjust_attributes : Namespace → List Attribute → List Attribute
adjust_attributes namespace attributes = map adjust_foreign_attribute (adjust_own_attributes namespace attributes)
