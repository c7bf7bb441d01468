-- Worked rows of page templates: those that pass the check, and those that don't, each by one hole.
use Prim.Native.String.{String}
use Rattle.std.specs.Prelude.{◌≡◌, true, false, List, [], ◌∷◌, map, codes, None}
use Rattle.markup.specs.Names.{html_name}
use Rattle.html_plain.specs.declared.place.PlainPlace.TheVariants.{InFlow, InLine, InList}
use Rattle.html_faithful_plain.specs.Template.{Fixed, Hole, Part, Slot, Template, Nothing, Text, Plain, Element, is_template}

abbrev el : String → Template → Template → Template
el name kids rest = Element (html_name (codes name)) [] false kids rest

abbrev slot : String → List Part → Slot
slot name value = record { name = record { prefix = None; ns = []; local = codes name }; value = value }

abbrev with_slot : String → Slot → Template → Template → Template
with_slot name s kids rest = Element (html_name (codes name)) (s ∷ []) false kids rest

abbrev say : String → Template → Template
say text rest = Text (Fixed (codes text) ∷ []) rest

-- a hole for a text by itself, and one in a text
abbrev hole : Template
hole = Text (Hole 0 ∷ []) Nothing

abbrev greeting : Template
greeting = Text (Fixed (codes "Hello ") ∷ Hole 0 ∷ Fixed (codes "!") ∷ []) Nothing

abbrev page : Template → Template → Template
page head body = el "html" (el "head" head (el "body" body Nothing)) Nothing

abbrev body : Template → Template
body kids = page Nothing kids

-- `<title>{{0}}</title>`, and `<h1>Hello {{0}}!</h1>{{0}}<p>See <a href="/?q={{1}}">more</a>.</p>`, with blocks behind `h1`
abbrev usual : Template
usual =
    page (el "title" hole Nothing)
    (el "h1" greeting
    (Plain InFlow 0
    (el "p" (say "See " (with_slot "a" (slot "href" (Fixed (codes "/?q=") ∷ Hole 1 ∷ [])) (say "more" Nothing)
    (say "." Nothing))) Nothing)))

abbrev passing : List Template
passing =
    usual
    -- texts
    ∷ body hole ∷ body (el "p" hole (el "p" hole Nothing)) ∷ body (el "select" (el "option" hole Nothing) Nothing)
    ∷ body (el "table" (el "tbody" (el "tr" (el "td" greeting (el "th" hole Nothing)) Nothing) Nothing) Nothing)
    -- values of attributes
    ∷ body (with_slot "img" (slot "alt" (Hole 0 ∷ [])) Nothing Nothing) ∷ body
    (with_slot "input" (slot "value" (Hole 0 ∷ [])) Nothing Nothing)
    -- plain trees
    ∷ body (Plain InFlow 0 Nothing) ∷ body (el "section" (Plain InFlow 0 (el "hr" Nothing (Plain InFlow 1 Nothing))) Nothing)
    ∷ body (el "p" (Plain (InLine false) 0 Nothing) Nothing) ∷ body (el "a" (Plain (InLine true) 0 Nothing) Nothing)
    ∷ []

abbrev refused : List Template
refused =
    -- nothing is escaped in scripts and style sheets
    page (el "script" hole Nothing) Nothing ∷ page (el "style" hole Nothing) Nothing
    -- a line feed that comes first in `pre` is dropped
    ∷ body (el "pre" hole Nothing) ∷ body (el "textarea" hole Nothing)
    -- no text stands there, or beside another
    ∷ page hole Nothing ∷ body (el "table" hole Nothing) ∷ body (Text (Hole 0 ∷ []) (say "a" Nothing)) ∷ body (say "a" hole)
    -- rules look at these values
    ∷ body (with_slot "input" (slot "type" (Hole 0 ∷ [])) Nothing Nothing)
    -- blocks stand in no paragraph and in no heading, links in no link, and flow content in no list
    ∷ body (el "p" (Plain InFlow 0 Nothing) Nothing) ∷ body (el "h1" (Plain InFlow 0 Nothing) Nothing)
    ∷ body (el "a" (Plain (InLine false) 0 Nothing) Nothing) ∷ body (el "ul" (Plain InList 0 Nothing) Nothing)
    -- the template itself is not faithful
    ∷ body (el "p" (el "p" Nothing Nothing) Nothing)
    ∷ []

abbrev pub AreTemplatesChecked : Type 0
AreTemplatesChecked = (map (λ t. is_template true t) passing ≡ map (λ t. true) passing)
    × (map (λ t. is_template true t) refused ≡ map (λ t. false) refused)
