-- What is found of the front of bytes is found of all.
use Rattle.std.proofs.Common.{◌≡◌, ◌∙◌, ℕ, ◌+◌, ◌-◌, ◌≤◌, Bool, true, false, ◌&&◌, cond, List, [], ◌∷◌, ◌++◌, length, take, drop, Option}
use Rattle.std.proofs.Common.{Some, None, refl, sym, ap, arith, append-nil, subst, nat_eq}
use Rattle.std.specs.Prelude.{◌⊎◌, option_and_then, option_map}
use Rattle.std.proofs.Common.{inl, inr}
use Rattle.std.specs.Io.KnownBytes.{IsAtEnd, prepend_known}
use Rattle.std.specs.List.{starts_with}
use Rattle.std.specs.Cmp.Lexicographic.{pointwise}
use Rattle.std.proofs.lemmas.List.{drop-append-le, drop-take, length-take-le, take-append-le}
use Rattle.html_encodings.specs.Handlers.{utf8_of}
use Rattle.html_encodings.specs.Labels.{label_encoding}
use Rattle.html_encodings.specs.Prescan.{prescanned}
use Rattle.html_encodings.specs.Sniffing.{mark_of, sniffed, sniffed_by, sniffed_inside, sniffed_outside}
use Rattle.html_encodings.specs.declared.names.Encoding.{Encoding}
use Rattle.html_encodings.specs.declared.names.Encoding.TheVariants.{Utf8, Utf16be, Utf16le}
use Rattle.html_encodings.specs.declared.sniffing.Mark.{Mark}
use Rattle.html_encodings.specs.declared.sniffing.Sniffed.{Sniffed}
use Rattle.html_encodings_multibyte.specs.Every.{every_start}
use Rattle.html_decoded_source.specs.Sources.{IsFound, IsFront, left_of, text_in, to_come}
use Rattle.html_decoded_source.proofs.Left.{at}

-- the mark, by which of the three stands in front
abbrev marks : Bool → Bool → Bool → Option Mark
marks a b c = cond a (Some (record { encoding = Utf8; length = 3 }))
    (cond b (Some (record { encoding = Utf16be; length = 2 })) (cond c (Some (record { encoding = Utf16le; length = 2 })) None))

abbrev length_of : Option Mark → ℕ
length_of None = 0
length_of (Some mark) = mark.length

short-mark : (a b c : Bool) → length_of (marks a b c) ≤ 3
short-mark true b c = omega arith
short-mark false true c = omega arith
short-mark false false true = omega arith
short-mark false false false = omega arith

other-mark : (b c : Bool) → length_of (marks false b c) ≤ 2
other-mark true c = omega arith
other-mark false true = omega arith
other-mark false false = omega arith

abbrev has_utf_8 : List ℕ → Bool
has_utf_8 bytes = starts_with nat_eq bytes (0xEF ∷ 0xBB ∷ 0xBF ∷ [])

abbrev has_utf_16be : List ℕ → Bool
has_utf_16be bytes = starts_with nat_eq bytes (0xFE ∷ 0xFF ∷ [])

abbrev has_utf_16le : List ℕ → Bool
has_utf_16le bytes = starts_with nat_eq bytes (0xFF ∷ 0xFE ∷ [])

inside : (named : Option Encoding) (fallback : Encoding) → (sniffed_inside named fallback).mark_length ≡ 0
inside (Some encoding) fallback = refl
inside None fallback = refl

outside : (named : Option Encoding) (bytes : List ℕ) (fallback : Encoding) → (sniffed_outside named bytes fallback).mark_length ≡ 0
outside (Some encoding) bytes fallback = refl
outside None bytes fallback = inside (prescanned (take 1024 bytes)) fallback

by-mark : (mark : Option Mark) (label : Option (List ℕ)) (bytes : List ℕ) (fallback : Encoding)
    → (sniffed_by mark label bytes fallback).mark_length ≡ length_of mark
by-mark (Some mark) label bytes fallback = refl
by-mark None label bytes fallback = outside (option_and_then label_encoding label) bytes fallback

not-both : (a : Bool) → (a && false) ≡ false
not-both true = refl
not-both false = refl

-- a mark stands in the bytes that have it
mark-within : (bytes : List ℕ) → length_of (mark_of bytes) ≤ length bytes
mark-within [] = omega arith
mark-within (a ∷ []) =
    rw (not-both (nat_eq 0xEF a), not-both (nat_eq 0xFE a), not-both (nat_eq 0xFF a)) (omega arith)
mark-within (a ∷ b ∷ []) =
    rw (not-both (nat_eq 0xBB b), not-both (nat_eq 0xEF a))
    (other-mark (has_utf_16be (a ∷ b ∷ [])) (has_utf_16le (a ∷ b ∷ [])))
mark-within (a ∷ b ∷ c ∷ rest) =
    let bytes = a ∷ b ∷ c ∷ rest in
    let short = short-mark (has_utf_8 bytes) (has_utf_16be bytes) (has_utf_16le bytes) in
    omega arith

-- that is so of what is found
pub found-within : (bytes : List ℕ) (label : Option (List ℕ)) (fallback : Encoding)
    → (sniffed bytes label fallback).mark_length ≤ length bytes
found-within bytes label fallback =
    subst (λ n. n ≤ length bytes) (sym (by-mark (mark_of bytes) label bytes fallback)) (mark-within bytes)

pub found-short : (found : Sniffed) (bytes : List ℕ) (label : Option (List ℕ)) (fallback : Encoding)
    → found ≡ sniffed bytes label fallback → found.mark_length ≤ 3
found-short found bytes label fallback is =
    let first : (sniffed bytes label fallback).mark_length ≤ 3 =
    subst (λ n. n ≤ 3) (sym (by-mark (mark_of bytes) label bytes fallback))
    (short-mark (has_utf_8 bytes) (has_utf_16be bytes) (has_utf_16le bytes)) in
    subst (λ (f : Sniffed). f.mark_length ≤ 3) (sym is) first

module _ (front rest : List ℕ) (long : 1024 ≤ length front) where
  starts-front : (needle : List ℕ) → length needle ≤ 3 → starts_with nat_eq (front ++ rest) needle ≡ starts_with nat_eq front needle
  starts-front needle short =
      let within : length needle ≤ length front = omega arith in
      ap (λ bytes. pointwise nat_eq needle bytes) (take-append-le (length needle) front rest within)

  mark-front : mark_of (front ++ rest) ≡ mark_of front
  mark-front =
      ap (λ a. marks a (has_utf_16be (front ++ rest)) (has_utf_16le (front ++ rest))) (starts-front (0xEF ∷ 0xBB ∷ 0xBF ∷ []) (omega arith))
      ∙ ap (λ b. marks (has_utf_8 front) b (has_utf_16le (front ++ rest))) (starts-front (0xFE ∷ 0xFF ∷ []) (omega arith))
      ∙ ap (λ c. marks (has_utf_8 front) (has_utf_16be front) c) (starts-front (0xFF ∷ 0xFE ∷ []) (omega arith))

  outside-front : (named : Option Encoding) (fallback : Encoding)
      → sniffed_outside named (front ++ rest) fallback ≡ sniffed_outside named front fallback
  outside-front (Some encoding) fallback = refl
  outside-front None fallback = ap (λ bytes. sniffed_inside (prescanned bytes) fallback) (take-append-le 1024 front rest long)

  by-front : (mark : Option Mark) (label : Option (List ℕ)) (fallback : Encoding)
      → sniffed_by mark label (front ++ rest) fallback ≡ sniffed_by mark label front fallback
  by-front (Some mark) label fallback = refl
  by-front None label fallback = outside-front (option_and_then label_encoding label) fallback

  found-long : (label : Option (List ℕ)) (fallback : Encoding) → sniffed (front ++ rest) label fallback ≡ sniffed front label fallback
  found-long label fallback = by-front (mark_of (front ++ rest)) label fallback ∙ ap (λ m. sniffed_by m label front fallback) mark-front

-- of 1,024 bytes, or of all, the same is found as of all
found-front : (front rest : List ℕ) (label : Option (List ℕ)) (fallback : Encoding) → (1024 ≤ length front) ⊎ (rest ≡ [])
    → sniffed (front ++ rest) label fallback ≡ sniffed front label fallback
found-front front rest label fallback (inl long) = found-long front rest long label fallback
found-front front rest label fallback (inr none) = rw none (ap (λ bytes. sniffed bytes label fallback) (append-nil front))

-- what a buffer holds after a mark
after-mark : (buffer : List ℕ) (held mark : ℕ) → mark ≤ held → drop mark (take held buffer) ≡ take (held - mark) (drop mark buffer)
after-mark buffer held mark within =
    let whole : mark + (held - mark) ≡ held = omega arith in
    ap (λ n. drop mark (take n buffer)) (sym whole) ∙ drop-take mark (held - mark) buffer

whole-text : (encoding : Encoding) (bytes : List ℕ) → to_come false (every_start encoding) bytes ≡ text_in encoding bytes
unfolding utf8_of
whole-text encoding bytes = refl

module _ {R : Type 0} (left : R → Option (List ℕ)) (source : R) where
  -- what is left after the front was read
  pub all-found : (old : Option (List ℕ)) (buffer : List ℕ) (held : ℕ) (label : Option (List ℕ)) (fallback : Encoding) (found : Sniffed)
      → IsFront old (left source) buffer held → found ≡ sniffed (take held buffer) label fallback
      → (whole : List ℕ) → old ≡ Some whole
      → IsFound whole label fallback found (left_of left (at left source (every_start found.encoding)
      (take (held - found.mark_length) (drop found.mark_length buffer)) [] false))
  all-found old buffer held label fallback found front is whole told = by (left source) (sym front.moved ∙ told) front.enough
    where
      first : List ℕ
      first = take held buffer

      by : (rest : Option (List ℕ)) → prepend_known (take held buffer) rest ≡ Some whole → (1024 ≤ held) ⊎ IsAtEnd rest
          → IsFound whole label fallback found (option_map (λ bytes. [] ++ to_come false (every_start found.encoding)
          (take (held - found.mark_length) (drop found.mark_length buffer) ++ bytes)) rest)
      by None e enough = absurd cc
      by (Some rest) e enough =
          let all : first ++ rest ≡ whole = cc in
          let long : length first ≡ held = length-take-le held buffer front.within in
          let marked : found.mark_length ≤ length first =
          subst (λ (f : Sniffed). f.mark_length ≤ length first) (sym is) (found-within first label fallback) in
          record {
            is = is ∙ (sym (found-front first rest label fallback (subst (λ n. (1024 ≤ n) ⊎ (rest ≡ [])) (sym long) enough))
                ∙ ap (λ bytes. sniffed bytes label fallback) all);
            left = ap (λ bytes. Some (to_come false (every_start found.encoding) bytes))
                (ap (λ xs. xs ++ rest) (sym (after-mark buffer held found.mark_length (subst (λ n. found.mark_length ≤ n) long marked)))
                ∙ (sym (drop-append-le found.mark_length first rest marked) ∙ ap (λ bytes. drop found.mark_length bytes) all))
                ∙ ap (λ bytes. Some bytes) (whole-text found.encoding (drop found.mark_length whole));
          }
