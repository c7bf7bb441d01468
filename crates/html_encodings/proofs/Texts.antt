-- The text of what is written.
use Rattle.std.proofs.Common.{◌≡◌, ◌∙◌, ℕ, ◌+◌, Option, Some, List, [], ◌∷◌, ◌++◌, map, refl, ap, arith}
use Rattle.std.proofs.Common.{append_assoc}
use Rattle.std.specs.Prelude.{encode_utf8, encode_utf8_all, IsAscii, unwrap_or}
use Rattle.std.proofs.lemmas.List.{append-nil, map-append}
use Rattle.std.proofs.lemmas.List.Sums.{sum_by-append}
use Rattle.std.proofs.lemmas.Str.{encodes-append, encodes-IsAscii}
use Rattle.html_encodings.specs.Handlers.{utf8_of, characters, error_count}

-- one text after another
pub utf8_of-append : (xs ys : List (Option ℕ)) → utf8_of (xs ++ ys) ≡ utf8_of xs ++ utf8_of ys
unfolding utf8_of
utf8_of-append xs ys = ap encode_utf8_all (map-append _ xs ys) ∙ encodes-append (characters xs) (characters ys)

pub utf8_of-nil : utf8_of [] ≡ []
unfolding utf8_of
utf8_of-nil = refl

pub error_count-append : (xs ys : List (Option ℕ)) → error_count (xs ++ ys) ≡ error_count xs + error_count ys
error_count-append xs ys = sum_by-append _ xs ys

pub utf8_of_item : (item : Option ℕ) → utf8_of (item ∷ []) ≡ encode_utf8 (unwrap_or item 0xFFFD)
unfolding utf8_of
utf8_of_item item = append-nil (encode_utf8 (unwrap_or item 0xFFFD))

-- one more is put after a text
pub put_more : (old mid new : List ℕ) (items : List (Option ℕ)) (item : Option ℕ) → mid ≡ old ++ utf8_of items
    → new ≡ mid ++ utf8_of (item ∷ []) → new ≡ old ++ utf8_of (items ++ item ∷ [])
put_more old mid new items item first second =
    rw (utf8_of-append items (item ∷ [])) (second ∙ ap (λ t. t ++ utf8_of (item ∷ [])) first
    ∙ append_assoc old (utf8_of items) (utf8_of (item ∷ [])))

-- ASCII characters are their bytes
pub utf8_of_ascii : (run : List ℕ) → IsAscii run → utf8_of (map Some run) ≡ run
unfolding utf8_of
utf8_of_ascii run ascii = ap encode_utf8_all (shown run) ∙ encodes-IsAscii run ascii
  where
    shown : (run : List ℕ) → characters (map Some run) ≡ run
    shown [] = refl
    shown (byte ∷ run) = ap (λ r. byte ∷ r) (shown run)

pub error_count_none : (run : List ℕ) → error_count (map Some run) ≡ 0
error_count_none [] = refl
error_count_none (byte ∷ run) = omega (arith, error_count_none run)
