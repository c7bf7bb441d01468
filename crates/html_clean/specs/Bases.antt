-- URLs that are made absolute.
use Rattle.std.specs.Prelude.{ℕ, Bool, true, false, cond, List, Option, Some, None, Ok, Err, encode_utf8_all}
use Rattle.std.specs.Str.{chars}
use Rattle.html_clean.specs.Urls.{url_kind}
use Rattle.html_clean.specs.declared.kinds.UrlKind.{UrlKind}
use Rattle.html_clean.specs.declared.kinds.UrlKind.TheVariants.{HasHost, HasScheme, IsRelative}
use Rattle.url.specs.Parser.{Parsed, parse_url}
use Rattle.url.specs.Parts.{Parts, serialize}

abbrev pub if_parsed : Parsed Parts → Option Parts
if_parsed (Ok url) = Some url
if_parsed (Err error) = None

-- the URL that bytes are, relative to another if there is one (URL Standard, section 4.4)
unfoldable pub url_in : Option Parts → List ℕ → Option Parts
url_in base bytes = if_parsed (parse_url base bytes)

abbrev pub url_by : Option Parts → List ℕ → Option Parts
url_by None bytes = None
url_by (Some base) bytes = url_in (Some base) bytes

-- whether a URL is made absolute
abbrev pub has_no_scheme : UrlKind → Bool
has_no_scheme (HasScheme scheme) = false
has_no_scheme HasHost = true
has_no_scheme IsRelative = true

-- a URL as it is written (URL Standard, section 4.5), or a text
abbrev pub text_or : Option Parts → List ℕ → List ℕ
text_or (Some url) text = chars (serialize url)
text_or None text = text

-- a text as a URL relative to a base. Where it can't be parsed so, or the base is no URL, it stays as it is
abbrev pub resolved : List ℕ → List ℕ → List ℕ
resolved base url = text_or (url_by (url_in None (encode_utf8_all base)) (encode_utf8_all url)) url

-- a URL, so that it has a scheme
unfoldable pub absolute : List ℕ → List ℕ → List ℕ
absolute base url = cond (has_no_scheme (url_kind url)) (resolved base url) url
