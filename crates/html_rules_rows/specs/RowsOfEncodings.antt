-- Worked rows: the encodings that texts name.
use Prim.Native.String.{String}
use Rattle.std.specs.Prelude.{◌≡◌, ℕ, List, [], ◌∷◌, ◌++◌, map, codes, Option}
use Rattle.html_tokens.specs.RowForms.{at, no, yes}
use Rattle.html_rules.specs.Encodings.{encoding_of, encoding_hint}

abbrev names : String → Option (List ℕ) → List ℕ × Option (List ℕ)
names text encoding = (codes text, encoding)

abbrev pub encoding_rows : List (List ℕ × Option (List ℕ))
encoding_rows =
    names "charset=utf8" (yes "utf8")
    ∷ names "cHarSet=utf8" (yes "utf8")
    ∷ (codes "charset " ++ 9 ∷ codes "=" ++ 9 ∷ codes " utf8", yes "utf8")
    ∷ (codes "charset" ++ 13 ∷ 10 ∷ codes "=" ++ 12 ∷ codes "utf8" ++ 13 ∷ [], yes "utf8")
    ∷ names "charset='utf8'" (yes "utf8")
    ∷ names "charset=\"utf8\"" (yes "utf8")
    ∷ names "charset=''x" (yes "")
    ∷ names "charset=utf8 foo" (yes "utf8")
    ∷ names "charset=utf8;foo" (yes "utf8")
    ∷ names "charset=;x" (yes "")
    ∷ names "text/html; charset=utf8" (yes "utf8")
    ∷ names "text/html; charset charset=utf8" (yes "utf8")
    ∷ names "charset='utf8" no
    ∷ names "charset=\"utf8" no
    ∷ names "charset=\"utf8'" no
    ∷ names "foobar" no
    ∷ names "charset utf8" no
    ∷ names "text/html; charset" no
    ∷ names "text/html; charset=" no
    ∷ (codes "text/html; charset " ++ 9 ∷ [], no)
    ∷ names "text/html; charset='" no
    ∷ names "text/html; charset=\"" no
    ∷ []

-- by an attribute `charset`, and by `http-equiv` and `content`
abbrev pub AreEncodingRowsRead : Type 0
AreEncodingRowsRead =
    (map (λ r. encoding_of r.0) encoding_rows ≡ map (λ r. r.1) encoding_rows)
    × (encoding_hint (at "charset" "x y" ∷ []) ≡ yes "x y")
    × (encoding_hint (at "http-equiv" "Content-Type" ∷ at "content" "text/html; charset=utf8" ∷ []) ≡ yes "utf8")
    × (encoding_hint (at "content" "charset=a" ∷ at "http-equiv" "content-type" ∷ at "charset" "b" ∷ []) ≡ yes "b")
    × (encoding_hint (at "http-equiv" "refresh" ∷ at "content" "charset=utf8" ∷ []) ≡ no)
    × (encoding_hint (at "http-equiv" "content-type" ∷ []) ≡ no)
