-- Where the elements of a tree lead.
use Rattle.std.specs.Prelude.{ℕ, ◌==◌, ◌&&◌, ◌||◌, Bool, not, cond, List, [], ◌∷◌, Option, Some, None, codes, encode_utf8_all, filter}
use Rattle.std.specs.Str.{bytes_eq}
use Rattle.markup.specs.Forest.{Forest, data_of, element_name}
use Rattle.html_nodes.specs.Looks.{attribute_of}
use Rattle.markup.specs.Namespaces.{name_of}
use Rattle.markup.specs.declared.names.QualName.{QualName}
use Rattle.markup.specs.declared.namespaces.KnownNamespace.TheVariants.{Html}

-- whether an element of HTML of this name has a link in `href`
abbrev pub has_href : List ℕ → Bool
has_href local = bytes_eq local (codes "a") || bytes_eq local (codes "area") || bytes_eq local (codes "link")

-- whether an element of HTML of this name has a link in `src`
abbrev pub has_source : List ℕ → Bool
has_source local =
    bytes_eq local (codes "img") || bytes_eq local (codes "script") || bytes_eq local (codes "iframe") || bytes_eq local (codes "source")
    || bytes_eq local (codes "video") || bytes_eq local (codes "audio") || bytes_eq local (codes "track") || bytes_eq local (codes "embed")
    || bytes_eq local (codes "input") || bytes_eq local (codes "frame")

-- the link of an element of that name
abbrev pub link_named : Option QualName → Forest → ℕ → Option (List ℕ)
link_named None f n = None
link_named (Some name) f n =
    cond (bytes_eq name.ns (name_of Html))
    (cond (has_href (encode_utf8_all name.local)) (attribute_of f n (codes "href"))
    (cond (has_source (encode_utf8_all name.local)) (attribute_of f n (codes "src")) None))
    None

-- the link of a node, if it has one
abbrev pub link_of : Forest → ℕ → Option (List ℕ)
link_of f n = link_named (element_name (data_of f n)) f n

-- LINE BY LINE

-- whether a character is none of those that are dropped from a URL (URL Standard, section 4.4): a tab, a line feed, a carriage return
abbrev pub is_in_line : ℕ → Bool
is_in_line c = not (c == 9) && not (c == 10) && not (c == 13)

abbrev pub line_before : Option (List ℕ) → List (List ℕ) → List (List ℕ)
line_before None lines = lines
line_before (Some link) lines = filter is_in_line link ∷ lines

-- the links of nodes, in their order
abbrev pub lines_of_links : Forest → List ℕ → List (List ℕ)
lines_of_links f [] = []
lines_of_links f (n ∷ ns) = line_before (link_of f n) (lines_of_links f ns)
