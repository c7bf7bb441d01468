-- URLs that are the data of a picture.
use Rattle.std.specs.Prelude.{ℕ, Bool, ◌&&◌, List, [], ◌∷◌, codes, map}
use Rattle.std.specs.Char.{to_ascii_lowercase}
use Rattle.std.specs.Str.{bytes_eq}
use Rattle.html_clean.specs.Beginnings.{begins_with_one}
use Rattle.html_clean.specs.Urls.{url_text}

-- the attribute whose URL may be the data of a picture
abbrev pub is_picture : List ℕ → List ℕ → Bool
is_picture element name = bytes_eq element (codes "img") && bytes_eq name (codes "src")

-- how the URLs of such pictures begin (Fetch Standard, section 6, "`data:` URLs"); SVG is none of them
abbrev pub picture_beginnings : List (List ℕ)
picture_beginnings =
    codes "data:image/avif," ∷ codes "data:image/avif;" ∷ codes "data:image/gif," ∷ codes "data:image/gif;" ∷
    codes "data:image/jpeg," ∷ codes "data:image/jpeg;" ∷ codes "data:image/png," ∷ codes "data:image/png;" ∷
    codes "data:image/webp," ∷ codes "data:image/webp;" ∷ []

-- whether a URL begins so, as the URL parser takes it and whatever its case
unfoldable pub is_picture_data : List ℕ → Bool
is_picture_data value = begins_with_one picture_beginnings (map to_ascii_lowercase (url_text value))
