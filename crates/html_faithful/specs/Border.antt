-- Pairs of bodies at the border: the first of each pair is faithful, the second is just not.
use Prim.Native.String.{String}
use Rattle.std.specs.Prelude.{◌≡◌, true, false, List, [], ◌∷◌, ◌++◌, map, codes, None}
use Rattle.markup.specs.Names.{html_name}
use Rattle.markup.specs.Trees.{Trees, Nothing, Text, Comment, Doctype, Element}
use Rattle.markup.specs.declared.attributes.Attribute.{Attribute}
use Rattle.html_rules.specs.Names.{MathMl, Svg, element_name_of}
use Rattle.html_faithful.specs.Walk.{is_faithful}

abbrev attribute : String → String → Attribute
attribute name value = record { name = record { prefix = None; ns = []; local = codes name }; value = codes value }

abbrev with_attributes : String → List Attribute → Trees → Trees → Trees
with_attributes name attributes kids rest = Element (html_name (codes name)) attributes false kids rest

abbrev el : String → Trees → Trees → Trees
el name kids rest = with_attributes name [] kids rest

abbrev contents : Trees → Trees → Trees
contents kids rest = Element (html_name (codes "template")) [] true kids rest

abbrev svg_with : String → List Attribute → Trees → Trees → Trees
svg_with name attributes kids rest = Element (element_name_of Svg (codes name)) attributes false kids rest

abbrev svg : String → Trees → Trees → Trees
svg name kids rest = svg_with name [] kids rest

abbrev math : String → Trees → Trees → Trees
math name kids rest = Element (element_name_of MathMl (codes name)) [] false kids rest

abbrev page : Trees → Trees
page kids = Doctype (codes "html") [] [] (el "html" (el "head" Nothing (el "body" kids Nothing)) Nothing)

-- faithful
abbrev first_inside : List Trees
first_inside =
    (el "p" (el "span" (Text (codes "a") Nothing) Nothing) Nothing)
    ∷ (el "p" (el "button" (el "p" Nothing Nothing) Nothing) Nothing)
    ∷ (el "a" (el "div" (el "table" (el "tbody" (el "tr" (el "td"
    (el "a" Nothing Nothing) Nothing) Nothing) Nothing) Nothing) Nothing) Nothing)
    ∷ (el "nobr" Nothing (el "nobr" Nothing Nothing))
    ∷ (el "h1" Nothing (el "h2" Nothing Nothing))
    ∷ (el "h1" (el "div" (el "h2" Nothing Nothing) Nothing) Nothing)
    ∷ (el "li" (el "ul" (el "li" Nothing Nothing) Nothing) Nothing)
    ∷ (el "dl" (el "dt" Nothing (el "dd" (el "dl" (el "dt" Nothing Nothing) Nothing) Nothing)) Nothing)
    ∷ (el "form" (el "div" Nothing Nothing) (el "form" Nothing Nothing))
    ∷ (el "button" Nothing (el "button" Nothing Nothing))
    ∷ (el "select" (el "option" Nothing (el "optgroup" (el "option" Nothing Nothing) Nothing)) Nothing)
    ∷ (el "select" (el "div" (el "option" Nothing Nothing) Nothing) Nothing)
    ∷ (el "ruby" (el "rt" Nothing (el "rp" Nothing Nothing)) Nothing)
    ∷ (el "table" (el "tbody" (el "tr" (el "td" (Text (codes "a") Nothing) Nothing) Nothing) Nothing) Nothing)
    ∷ (el "table" (Text (codes " ") (el "tbody" (Text (codes " ") (el "tr" (Text (codes " ") Nothing) Nothing)) Nothing)) Nothing)
    ∷ (el "table" (el "caption" (el "table" Nothing Nothing) Nothing) Nothing)
    ∷ (el "table" (el "colgroup" (el "col" Nothing (Text (codes " ") Nothing)) Nothing) Nothing)
    ∷ (el "table" (el "script" (Text (codes "a") Nothing) (el "style" Nothing (contents Nothing Nothing))) Nothing)
    ∷ (el "pre" (Text (codes "a" ++ (10 ∷ [])) Nothing) Nothing)
    ∷ []

abbrev pub AreFirstInside : Type 0
AreFirstInside = map (λ trees. is_faithful true (page trees)) first_inside ≡ map (λ trees. true) first_inside

-- faithful
abbrev more_inside : List Trees
more_inside =
    (el "pre" (Comment (codes "x") (Text (10 ∷ []) Nothing)) Nothing)
    ∷ (el "script" (Text (codes "a</b>") Nothing) Nothing)
    ∷ (el "script" (Text (codes "<!--") Nothing) Nothing)
    ∷ (el "style" (Text (codes "</script>") Nothing) Nothing)
    ∷ (el "title" (Text (codes "</title>") Nothing) Nothing)
    ∷ (Comment (codes "a-") Nothing)
    ∷ (Comment ([]) Nothing)
    ∷ (Comment (codes "--") Nothing)
    ∷ (Text (codes "a" ++ (160 ∷ [])) Nothing)
    ∷ (with_attributes "x-y" (attribute "a:b" "1" ∷ attribute "@c" "" ∷ []) Nothing Nothing)
    ∷ (svg "svg" (svg "linearGradient" Nothing Nothing) Nothing)
    ∷ (svg_with "svg" (attribute "viewBox" "0" ∷ []) (svg "title" (el "p" Nothing Nothing) Nothing) Nothing)
    ∷ (svg "svg" (svg "font" Nothing Nothing) Nothing)
    ∷ (math "math" (math "mi" (Text (codes "x") Nothing) Nothing) Nothing)
    ∷ (contents (el "tr" Nothing Nothing) Nothing)
    ∷ (el "img" Nothing Nothing)
    ∷ (el "b" (el "p" (Text (codes "a") Nothing) Nothing) Nothing)
    ∷ (el "br" Nothing Nothing)
    ∷ []

abbrev pub AreMoreInside : Type 0
AreMoreInside = map (λ trees. is_faithful true (page trees)) more_inside ≡ map (λ trees. true) more_inside

-- not faithful
abbrev first_outside : List Trees
first_outside =
    (el "p" (el "div" Nothing Nothing) Nothing)
    ∷ (el "p" (el "object" Nothing (el "p" Nothing Nothing)) Nothing)
    ∷ (el "a" (el "div" (el "a" Nothing Nothing) Nothing) Nothing)
    ∷ (el "nobr" (el "b" (el "nobr" Nothing Nothing) Nothing) Nothing)
    ∷ (el "h1" (el "h2" Nothing Nothing) Nothing)
    ∷ (el "h1" (el "span" Nothing (el "h2" Nothing Nothing)) Nothing)
    ∷ (el "li" (el "div" (el "li" Nothing Nothing) Nothing) Nothing)
    ∷ (el "dd" (el "span" (el "dt" Nothing Nothing) Nothing) Nothing)
    ∷ (el "form" (el "div" (el "form" Nothing Nothing) Nothing) Nothing)
    ∷ (el "button" (el "b" (el "button" Nothing Nothing) Nothing) Nothing)
    ∷ (el "select" (el "option" (el "optgroup" Nothing Nothing) Nothing) Nothing)
    ∷ (el "select" (el "div" (el "select" Nothing Nothing) Nothing) Nothing)
    ∷ (el "ruby" (el "rb" (el "rt" Nothing Nothing) Nothing) Nothing)
    ∷ (el "table" (el "tr" Nothing Nothing) Nothing)
    ∷ (el "table" (Text (codes "a") (el "tbody" Nothing Nothing)) Nothing)
    ∷ (el "table" (el "tbody" (el "tr" (el "td" Nothing (el "div" Nothing Nothing)) Nothing) Nothing) Nothing)
    ∷ (el "table" (el "col" Nothing Nothing) Nothing)
    ∷ (el "table" (el "input" Nothing Nothing) Nothing)
    ∷ (el "pre" (Text ((10 ∷ []) ++ codes "a") Nothing) Nothing)
    ∷ []

abbrev pub AreFirstOutside : Type 0
AreFirstOutside = map (λ trees. is_faithful true (page trees)) first_outside ≡ map (λ trees. false) first_outside

-- not faithful
abbrev more_outside : List Trees
more_outside =
    (el "textarea" (Text (10 ∷ []) Nothing) Nothing)
    ∷ (el "script" (Text (codes "a</script ") Nothing) Nothing)
    ∷ (el "script" (Text (codes "<!--<script>") Nothing) Nothing)
    ∷ (el "style" (Text (codes "</STYLE>") Nothing) Nothing)
    ∷ (el "noscript" (el "p" Nothing Nothing) Nothing)
    ∷ (Comment (codes "a-->b") Nothing)
    ∷ (Comment (codes ">") Nothing)
    ∷ (Comment (codes "->") Nothing)
    ∷ (Text (codes "a" ++ (13 ∷ [])) Nothing)
    ∷ (with_attributes "x-y" (attribute "A" "1" ∷ []) Nothing Nothing)
    ∷ (svg "svg" (svg "lineargradient" Nothing Nothing) Nothing)
    ∷ (svg "svg" (el "p" Nothing Nothing) Nothing)
    ∷ (svg "svg" (svg "b" Nothing Nothing) Nothing)
    ∷ (math "math" (math "mi" (math "mo" Nothing Nothing) Nothing) Nothing)
    ∷ (contents (el "div" Nothing (el "tr" Nothing Nothing)) Nothing)
    ∷ (el "image" Nothing Nothing)
    ∷ (el "plaintext" Nothing Nothing)
    ∷ (el "br" (Text (codes "a") Nothing) Nothing)
    ∷ []

abbrev pub AreMoreOutside : Type 0
AreMoreOutside = map (λ trees. is_faithful true (page trees)) more_outside ≡ map (λ trees. false) more_outside
