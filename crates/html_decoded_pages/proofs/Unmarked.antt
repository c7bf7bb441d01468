-- What is found by more than a mark has none in front.
use Rattle.std.proofs.Common.{◌≡◌, ℕ, List, Option, Some, None, take, true, refl}
use Rattle.std.specs.Prelude.{option_and_then}
use Rattle.html_encodings.specs.Labels.{label_encoding}
use Rattle.html_encodings.specs.Prescan.{prescanned}
use Rattle.html_encodings.specs.Sniffing.{mark_of, sniffed, sniffed_by, sniffed_inside, sniffed_outside}
use Rattle.html_encodings.specs.declared.names.Encoding.{Encoding}
use Rattle.html_encodings.specs.declared.sniffing.Mark.{Mark}
use Rattle.html_decoded_pages.specs.Changing.{is_tentative}

inside : (named : Option Encoding) (fallback : Encoding) → (sniffed_inside named fallback).mark_length ≡ 0
inside (Some encoding) fallback = refl
inside None fallback = refl

outside : (named : Option Encoding) (bytes : List ℕ) (fallback : Encoding) → (sniffed_outside named bytes fallback).mark_length ≡ 0
outside (Some encoding) bytes fallback = refl
outside None bytes fallback = inside (prescanned (take 1024 bytes)) fallback

by-mark : (mark : Option Mark) (label : Option (List ℕ)) (bytes : List ℕ) (fallback : Encoding)
    → is_tentative (sniffed_by mark label bytes fallback).why ≡ true → (sniffed_by mark label bytes fallback).mark_length ≡ 0
by-mark (Some mark) label bytes fallback is = absurd cc
by-mark None label bytes fallback is = outside (option_and_then label_encoding label) bytes fallback

-- what is tentative was not found by a byte order mark
pub tentative-unmarked : (bytes : List ℕ) (label : Option (List ℕ)) (fallback : Encoding)
    → is_tentative (sniffed bytes label fallback).why ≡ true → (sniffed bytes label fallback).mark_length ≡ 0
tentative-unmarked bytes label fallback is = by-mark (mark_of bytes) label bytes fallback is
