-- The links of a page, line by line.
use Rattle.std.specs.Prelude.{ℕ, ◌==◌, ◌&&◌, Bool, true, false, not, List, [], ◌∷◌, ◌++◌, Option, Some, None, Ok, Err}
use Rattle.std.specs.Prelude.{codes, encode_utf8_all, if◌then◌else◌, option_map, unwrap_or}
use Rattle.std.specs.List.{flat_map}
use Rattle.std.specs.Option.{option_or}
use Rattle.std.specs.String.{string_bytes}
use Rattle.markup.specs.Forest.{Forest, data_of, element_name}
use Rattle.markup.specs.declared.names.QualName.{QualName}
use Rattle.html_nodes.specs.Below.{below}
use Rattle.html_nodes.specs.Looks.{attribute_of, is_html}
use Rattle.url.specs.Parser.{Parsed, parse_url}
use Rattle.url.specs.Parts.{Parts, serialize}
use Rattle.html_listings.specs.Json.{member}
use Rattle.html_listings.specs.Links.{links_below, word_of}
use Rattle.html_listings.specs.declared.links.Link.{Link}
use Rattle.html_listings.specs.declared.listing.Listing.{Listing}

-- BASES

abbrev pub if_parsed : Parsed Parts → Option Parts
if_parsed (Ok url) = Some url
if_parsed (Err error) = None

-- a text as a URL, relative to another one if there is one
unfoldable pub url_in : Option Parts → List ℕ → Option Parts
url_in base text = if_parsed (parse_url base text)

-- the `href` of the first element `base` among nodes that has one (HTML Standard, section 4.2.3)
abbrev pub base_in : Forest → List ℕ → Option (List ℕ)
base_in f [] = None
base_in f (n ∷ ns) = if is_html f n (codes "base") then option_or (attribute_of f n (codes "href")) (base_in f ns) else base_in f ns

-- what links are relative to: the page's `base`, which is relative to what is given, or else that
abbrev pub base_by : Option (List ℕ) → Option Parts → Option Parts
base_by None given = given
base_by (Some text) given = option_or (url_in given (encode_utf8_all text)) given

abbrev pub given_base : Option (List ℕ) → Option Parts
given_base None = None
given_base (Some text) = url_in None text

unfoldable pub base_of : Forest → Option (List ℕ) → Option Parts
base_of f given = base_by (base_in f (below f 0)) (given_base given)

-- LINES

-- the name of a file before a line
abbrev pub file_prefix : Bool → List ℕ → List ℕ
file_prefix true name = name ++ codes ":"
file_prefix false name = []

abbrev pub text_or : Option Parts → List ℕ → List ℕ
text_or (Some url) text = serialize url
text_or None text = text

abbrev pub url_by : Option Parts → List ℕ → Option Parts
url_by None text = None
url_by (Some base) text = url_in (Some base) text

-- a URL, absolute where there is something to which it is relative
abbrev pub absolute : Option Parts → List ℕ → List ℕ
absolute base text = text_or (url_by base text) text

abbrev pub local_or_none : Option QualName → List ℕ
local_or_none None = []
local_or_none (Some name) = encode_utf8_all name.local

-- the local name of an element
abbrev pub local_of : Forest → ℕ → List ℕ
local_of f n = local_or_none (element_name (data_of f n))

unfoldable pub plain_line : (kinds : Bool) → (prefix kind url : List ℕ) → List ℕ
plain_line true prefix kind url = prefix ++ (kind ++ (codes " " ++ (url ++ codes "\n")))
plain_line false prefix kind url = prefix ++ (url ++ codes "\n")

unfoldable pub json_line : (name kind element url : List ℕ) → List ℕ
json_line name kind element url =
    member (codes "{\"file\":") name ++ (member (codes ",\"kind\":") kind ++ (member (codes ",\"element\":") element
    ++ (member (codes ",\"url\":") url ++ codes "}\n")))

abbrev pub begins_with_hash : List ℕ → Bool
begins_with_hash [] = false
begins_with_hash (c ∷ cs) = c == 35

-- whether a link is not listed: one to a place in the page itself, unless these are asked for
abbrev pub is_left_out : Listing → List ℕ → Bool
is_left_out listing url = not listing.anchors && begins_with_hash url

-- the line of a link of which this is the URL that is listed, in the file of a name
unfoldable pub url_line : Listing → Forest → (name prefix : List ℕ) → Link → List ℕ → List ℕ
url_line listing f name prefix link url =
    if listing.json then json_line name (word_of link.kind) (local_of f link.node) url
    else plain_line listing.kinds prefix (word_of link.kind) url

-- the line of a link, if it is listed
unfoldable pub line_of : Listing → Forest → (name prefix : List ℕ) → Option Parts → Link → List ℕ
line_of listing f name prefix base link =
    let url = encode_utf8_all link.url in
    if is_left_out listing url then [] else url_line listing f name prefix link (absolute base url)

-- whether lines begin with the name of the file: as is asked for, or where there are several files
abbrev pub has_names : Listing → Bool → Bool
has_names listing several = unwrap_or listing.names several

-- the lines of the links of a page
abbrev pub links_text : Listing → Forest → (name : List ℕ) → (several : Bool) → List ℕ
links_text listing f name several =
    flat_map (line_of listing f name (file_prefix (has_names listing several) name) (base_of f (option_map string_bytes listing.base)))
    (links_below f 0)
