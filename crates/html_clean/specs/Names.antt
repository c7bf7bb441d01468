-- Which names of elements and of attributes a policy can keep at all.
use Rattle.std.specs.Char.{is_ascii_digit, is_ascii_lowercase}
use Rattle.std.specs.List.{list_all}
use Rattle.std.specs.Prelude.{ℕ, Bool, false, ◌&&◌, ◌||◌, not, nat_eq, List, [], ◌∷◌, Option, Some, None, codes}
use Rattle.markup.specs.Trees.{is_among, void_names}
use Rattle.html_round_trip.specs.Slices.Forms.{is_attribute_name}
use Rattle.html_tokens.specs.Clean.{is_clean_in_name}

-- Elements of HTML (HTML Standard, section 4, and section 16.2 for those that are obsolete). These are not among them, and so never
-- kept: `script`, `style`, `xmp`, `iframe`, `noembed`, `noframes`, `plaintext`, `title`, `textarea` and `noscript`, after whose start
-- tags other text than data may come; `template`, which holds what it has apart; `svg` and `math`, in which other rules hold; `base`,
-- `basefont`, `bgsound`, `link` and `meta`, which say something of the whole page; `image`, which is read as `img`; frames, `applet`,
-- `keygen`, `listing` and names of one's own.
abbrev pub safe_names : List (List ℕ)
safe_names =
    codes "a" ∷ codes "abbr" ∷ codes "acronym" ∷ codes "address" ∷ codes "area" ∷ codes "article" ∷ codes "aside" ∷ codes "audio" ∷
    codes "b" ∷ codes "bdi" ∷ codes "bdo" ∷ codes "big" ∷ codes "blockquote" ∷ codes "body" ∷ codes "br" ∷ codes "button" ∷
    codes "canvas" ∷ codes "caption" ∷ codes "center" ∷ codes "cite" ∷ codes "code" ∷ codes "col" ∷ codes "colgroup" ∷ codes "data" ∷
    codes "datalist" ∷ codes "dd" ∷ codes "del" ∷ codes "details" ∷ codes "dfn" ∷ codes "dialog" ∷ codes "dir" ∷ codes "div" ∷
    codes "dl" ∷ codes "dt" ∷ codes "em" ∷ codes "embed" ∷ codes "fieldset" ∷ codes "figcaption" ∷ codes "figure" ∷ codes "font" ∷
    codes "footer" ∷ codes "form" ∷ codes "h1" ∷ codes "h2" ∷ codes "h3" ∷ codes "h4" ∷ codes "h5" ∷ codes "h6" ∷ codes "head" ∷
    codes "header" ∷ codes "hgroup" ∷ codes "hr" ∷ codes "html" ∷ codes "i" ∷ codes "img" ∷ codes "input" ∷ codes "ins" ∷
    codes "kbd" ∷ codes "label" ∷ codes "legend" ∷ codes "li" ∷ codes "main" ∷ codes "map" ∷ codes "mark" ∷ codes "marquee" ∷
    codes "menu" ∷ codes "meter" ∷ codes "nav" ∷ codes "nobr" ∷ codes "object" ∷ codes "ol" ∷ codes "optgroup" ∷ codes "option" ∷
    codes "output" ∷ codes "p" ∷ codes "param" ∷ codes "picture" ∷ codes "pre" ∷ codes "progress" ∷ codes "q" ∷ codes "rb" ∷
    codes "rp" ∷ codes "rt" ∷ codes "rtc" ∷ codes "ruby" ∷ codes "s" ∷ codes "samp" ∷ codes "search" ∷ codes "section" ∷
    codes "select" ∷ codes "slot" ∷ codes "small" ∷ codes "source" ∷ codes "span" ∷ codes "strike" ∷ codes "strong" ∷ codes "sub" ∷
    codes "summary" ∷ codes "sup" ∷ codes "table" ∷ codes "tbody" ∷ codes "td" ∷ codes "tfoot" ∷ codes "th" ∷ codes "thead" ∷
    codes "time" ∷ codes "tr" ∷ codes "track" ∷ codes "tt" ∷ codes "u" ∷ codes "ul" ∷ codes "var" ∷ codes "video" ∷ codes "wbr" ∷ []

unfoldable pub is_safe_name : List ℕ → Bool
is_safe_name name = is_among name safe_names

abbrev pub is_void : List ℕ → Bool
is_void name = is_among name void_names

-- the first two characters of a text
abbrev pub first_two : List ℕ → Option (ℕ × ℕ)
first_two [] = None
first_two (c ∷ []) = None
first_two (c ∷ (d ∷ cs)) = Some (c, d)

-- whether there are two, which are as said
abbrev pub are_first : (ℕ → Bool) → (ℕ → Bool) → Option (ℕ × ℕ) → Bool
are_first p q None = false
are_first p q (Some two) = p two.0 && q two.1

-- attributes whose values are scripts, styles, documents or lists of URLs other than `srcset`; `code`, from which browsers load what an
-- `embed` shows; and `xmlns`, which has a namespace of its own in SVG and MathML
abbrev pub unsafe_attributes : List (List ℕ)
unsafe_attributes =
    codes "archive" ∷ codes "attributionsrc" ∷ codes "code" ∷ codes "imagesrcset" ∷ codes "ping" ∷ codes "srcdoc" ∷
    codes "style" ∷ codes "xmlns" ∷ []

-- as attributes do that have a script for an event
abbrev pub begins_with_on : List ℕ → Bool
begins_with_on text = are_first (λ c. nat_eq c 111) (λ c. nat_eq c 110) (first_two text)

-- lower-case letters, digits and hyphens, but none of these
unfoldable pub is_safe_attribute : List ℕ → Bool
is_safe_attribute name = is_attribute_name name && (not (begins_with_on name) && not (is_among name unsafe_attributes))

-- what such a name may begin with
abbrev pub is_safe_beginning : List ℕ → Bool
is_safe_beginning text = list_all is_clean_in_name text && not (begins_with_on text)

-- schemes of URLs that name what is run, or shown as a document of its own
abbrev pub unsafe_schemes : List (List ℕ)
unsafe_schemes = codes "data" ∷ codes "javascript" ∷ codes "vbscript" ∷ []

-- a character that may stand in a scheme, in lower case
abbrev pub is_lower_scheme_character : ℕ → Bool
is_lower_scheme_character c = is_ascii_lowercase c || (is_ascii_digit c || (nat_eq c 43 || (nat_eq c 45 || nat_eq c 46)))

abbrev pub begins_with_lower : List ℕ → Bool
begins_with_lower [] = false
begins_with_lower (c ∷ cs) = is_ascii_lowercase c

-- a scheme in lower case (URL Standard, section 4.3)
abbrev pub is_scheme_name : List ℕ → Bool
is_scheme_name text = begins_with_lower text && list_all is_lower_scheme_character text

abbrev pub is_safe_scheme : List ℕ → Bool
is_safe_scheme text = is_scheme_name text && not (is_among text unsafe_schemes)

-- elements of the page itself: in a fragment their tags make no element, and give attributes to the page's own (HTML Standard, section
-- 13.2.6.4.7)
abbrev pub page_names : List (List ℕ)
page_names = codes "body" ∷ codes "head" ∷ codes "html" ∷ []

abbrev pub is_fragment_name : List ℕ → Bool
is_fragment_name name = not (is_among name page_names)

-- attributes of HTML whose values are URLs, on whatever element; that of `srcset` is a list of them
abbrev pub url_attributes : List (List ℕ)
url_attributes =
    codes "action" ∷ codes "background" ∷ codes "cite" ∷ codes "classid" ∷ codes "codebase" ∷ codes "data" ∷ codes "dynsrc" ∷
    codes "formaction" ∷ codes "href" ∷ codes "icon" ∷ codes "longdesc" ∷ codes "lowsrc" ∷ codes "manifest" ∷ codes "poster" ∷
    codes "profile" ∷ codes "src" ∷ codes "srcset" ∷ []

unfoldable pub is_url_attribute : List ℕ → Bool
is_url_attribute name = is_among name url_attributes
