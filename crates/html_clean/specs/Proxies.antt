-- URLs that are loaded through a proxy.
use Rattle.std.specs.Prelude.{ℕ, ◌+◌, ◌/◌, ◌%◌, Bool, true, false, cond, ◌&&◌, ◌||◌, nat_eq, nat_lt, List, [], ◌∷◌, ◌++◌}
use Rattle.std.specs.Prelude.{Option, Some, None, codes, encode_utf8_all, map}
use Rattle.std.specs.Char.{is_ascii_alphanumeric, to_ascii_lowercase}
use Rattle.std.specs.List.{flat_map, list_all}
use Rattle.markup.specs.Trees.{is_among}
use Rattle.html_clean.specs.Beginnings.{after_beginning, begins_with_one}
use Rattle.html_clean.specs.Urls.{url_kind, url_text}
use Rattle.html_clean.specs.declared.kinds.UrlKind.{UrlKind}
use Rattle.html_clean.specs.declared.kinds.UrlKind.TheVariants.{HasHost, HasScheme, IsRelative}

-- PERCENT-ENCODING

-- a character that stands for itself in each part of a URL (RFC 3986, section 2.3, "Unreserved Characters")
abbrev pub is_unreserved : ℕ → Bool
is_unreserved c = is_ascii_alphanumeric c || (nat_eq c 45 || (nat_eq c 46 || (nat_eq c 95 || nat_eq c 126)))

abbrev pub hex_digit : ℕ → ℕ
hex_digit n = cond (nat_lt n 10) (48 + n) (55 + n)

-- a byte, percent-encoded (URL Standard, section 1.3)
abbrev pub escaped_byte : ℕ → List ℕ
escaped_byte b = 37 ∷ hex_digit (b / 16) ∷ hex_digit (b % 16) ∷ []

-- the same, unless it is such a character
abbrev pub encoded_byte : ℕ → List ℕ
encoded_byte b = cond (is_unreserved b) (b ∷ []) (escaped_byte b)

-- a text, percent-encoded
unfoldable pub percent_encoded : List ℕ → List ℕ
percent_encoded text = flat_map encoded_byte (encode_utf8_all text)

-- THE PROXY

-- the schemes of the web
abbrev pub web_schemes : List (List ℕ)
web_schemes = codes "http" ∷ codes "https" ∷ []

-- whether a proxy loads URLs of a kind: those of the web, and those that have a host and no scheme
abbrev pub is_loaded_kind : UrlKind → Bool
is_loaded_kind (HasScheme scheme) = is_among scheme web_schemes
is_loaded_kind HasHost = true
is_loaded_kind IsRelative = false

-- how such a URL begins once it is percent-encoded, in lower case
abbrev pub loaded_beginnings : List (List ℕ)
loaded_beginnings =
    codes "http%3a" ∷ codes "https%3a" ∷ codes "%2f%2f" ∷ codes "%2f%5c" ∷ codes "%5c%2f" ∷ codes "%5c%5c" ∷ []

abbrev pub is_encoded_character : ℕ → Bool
is_encoded_character c = is_unreserved c || nat_eq c 37

-- whether a text is such a URL, percent-encoded
unfoldable pub is_loaded : List ℕ → Bool
is_loaded text = list_all is_encoded_character text && begins_with_one loaded_beginnings (map to_ascii_lowercase text)

abbrev pub is_loaded_after : Option (List ℕ) → Bool
is_loaded_after None = false
is_loaded_after (Some rest) = is_loaded rest

-- a URL through a proxy: a prefix, and the URL as the URL parser takes it, percent-encoded. One that is so already stays as it is, and so
-- does one that the proxy doesn't load
unfoldable pub proxied : List ℕ → List ℕ → List ℕ
proxied prefix url = cond (is_loaded_after (after_beginning prefix url)) url
    (cond (is_loaded_kind (url_kind url)) (prefix ++ percent_encoded (url_text url)) url)
