-- The links of a page.
use Rattle.std.specs.Prelude.{ℕ, ◌-◌, ◌||◌, Bool, List, [], ◌∷◌, Option, Some, None, codes, drop, encode_utf8_all, filter, if◌then◌else◌}
use Rattle.std.specs.Prelude.{length, map, take}
use Rattle.std.specs.Char.{is_ascii_whitespace}
use Rattle.std.specs.List.{flat_map, prefix_len, suffix_len}
use Rattle.std.specs.Str.{bytes_eq, chars}
use Rattle.markup.specs.Forest.{Forest, data_of, element_name}
use Rattle.markup.specs.Namespaces.{name_of}
use Rattle.markup.specs.declared.names.QualName.{QualName}
use Rattle.markup.specs.declared.namespaces.KnownNamespace.TheVariants.{Html}
use Rattle.html_nodes.specs.Below.{below}
use Rattle.html_nodes.specs.Looks.{attribute_of}
use Rattle.html_extracts.specs.Links.{has_href, has_source, is_in_line}
use Rattle.html_srcset.specs.Srcset.{candidates}
use Rattle.html_listings.specs.declared.links.Link.{Link}
use Rattle.html_listings.specs.declared.links.LinkKind.{LinkKind}
use Rattle.html_listings.specs.declared.links.LinkKind.TheVariants.{Href, Src, Srcset, Action, Data, Poster}

-- KINDS

-- the attributes with URLs, in the order in which the links of an element are listed
abbrev pub kinds : List LinkKind
kinds = Href ∷ Src ∷ Srcset ∷ Action ∷ Data ∷ Poster ∷ []

abbrev pub word_of : LinkKind → List ℕ
word_of Href = codes "href"
word_of Src = codes "src"
word_of Srcset = codes "srcset"
word_of Action = codes "action"
word_of Data = codes "data"
word_of Poster = codes "poster"

-- whether an element of HTML of this name has URLs in the attribute
unfoldable pub leads : LinkKind → List ℕ → Bool
leads Href local = has_href local
leads Src local = has_source local
leads Srcset local = bytes_eq local (codes "img") || bytes_eq local (codes "source")
leads Action local = bytes_eq local (codes "form")
leads Data local = bytes_eq local (codes "object")
leads Poster local = bytes_eq local (codes "video")

-- URLS

-- a text in UTF-8 without the white space at its ends
abbrev pub trimmed : List ℕ → List ℕ
trimmed text =
    let rest = drop (prefix_len is_ascii_whitespace text) text in take (length rest - suffix_len is_ascii_whitespace rest) rest

-- the characters of a URL in one line: without the white space at its ends, and without tabs and line breaks, which are no part of it
-- (URL Standard, section 4.4)
unfoldable pub in_one_line : List ℕ → List ℕ
in_one_line text = filter is_in_line (chars (trimmed text))

-- the URLs in a value
unfoldable pub urls_in : LinkKind → List ℕ → List (List ℕ)
urls_in Srcset value = candidates value
urls_in _ value = value ∷ []

-- LINKS

abbrev pub link : ℕ → LinkKind → List ℕ → Link
link n kind url = record { kind = kind; node = n; url = in_one_line (encode_utf8_all url) }

unfoldable pub links_in : ℕ → LinkKind → Option (List ℕ) → List Link
links_in n kind None = []
links_in n kind (Some value) = map (link n kind) (urls_in kind value)

-- the links of one kind of an element of HTML with this name
unfoldable pub links_of : Forest → ℕ → List ℕ → LinkKind → List Link
links_of f n local kind = if leads kind local then links_in n kind (attribute_of f n (word_of kind)) else []

abbrev pub links_named : Forest → ℕ → Option QualName → List Link
links_named f n None = []
links_named f n (Some name) =
    if bytes_eq name.ns (name_of Html) then flat_map (links_of f n (encode_utf8_all name.local)) kinds else []

-- the links of a node
unfoldable pub links_at : Forest → ℕ → List Link
links_at f n = links_named f n (element_name (data_of f n))

-- those of the nodes below a node, in tree order
abbrev pub links_below : Forest → ℕ → List Link
links_below f top = flat_map (links_at f) (below f top)
