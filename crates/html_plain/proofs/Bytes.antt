-- Texts whose characters are told plain by their bytes.
use lib.Utf8.{scalar, scalars, encode, encodes}
use Rattle.std.proofs.Common.{◌≡◌, ◌<◌, ◌+◌, ◌-◌, ℕ, Bool, true, false, ◌&&◌, not, List, [], ◌∷◌, Option, Some, None, length}
use Rattle.std.proofs.Common.{slice_index, arith, subst, refl, sym, ap, ◌∙◌, inl, inr}
use Rattle.std.specs.List.{list_all}
use Rattle.std.specs.Option.{is_some}
use Rattle.std.specs.Str.{IsUtf8, chars}
use Rattle.std.proofs.lemmas.Bool.{and_parts, cases_Bool, cases_lt}
use Rattle.std.proofs.lemmas.Bool.Decides.{nat_tests}
use Rattle.std.proofs.lemmas.List.{get_or-append-add, length-append}
use Rattle.std.proofs.lemmas.Str.{encode_ascii, encodes-chars, inside_one, length-encode, len_utf8_bounds, scalars-chars}
use Rattle.memchr.specs.Find.{IsFirstByte, Passes, is_byte2}
use Rattle.html_plain.specs.Grammar.{is_plain_character}

-- U+0000 or a carriage return
abbrev is_odd : ℕ → Bool
is_odd = is_byte2 0 13

odd_is_low : (c : ℕ) → is_odd c ≡ true → c < 128
odd_is_low c odd = grind (arith, nat_tests, odd)

odd_is_not_plain : (c : ℕ) → is_odd c ≡ true → is_plain_character c ≡ false
odd_is_not_plain c odd = grind (arith, nat_tests, odd)

other_is_plain : (c : ℕ) → scalar c ≡ true → is_odd c ≡ false → is_plain_character c ≡ true
other_is_plain c whole other = grind (arith, nat_tests, whole, other)

and_false : (b : Bool) → (b && false) ≡ false
and_false true = refl
and_false false = refl

-- a text that begins with one of the two has its byte first
byte_of : (c : ℕ) (cs : List ℕ) → is_odd c ≡ true → Passes is_odd (encodes (c ∷ cs)) 0
byte_of c cs odd = rw (encode_ascii c (odd_is_low c odd)) odd

-- where no byte is one of the two, each character is plain
none-plain : (cs : List ℕ) → scalars cs ≡ true
    → ((k : ℕ) → k < length (encodes cs) → ¬ Passes is_odd (encodes cs) k) → list_all is_plain_character cs ≡ true
none-plain [] whole lack = refl
none-plain (c ∷ cs) whole lack =
    let parts = and_parts (scalar c) (scalars cs) whole in
    let size = length-append (encode c) (encodes cs) in
    let rest : (k : ℕ) → k < length (encodes cs) → ¬ Passes is_odd (encodes cs) k =
    λ k within odd. lack (length (encode c) + k) (omega (arith, within, size))
    (subst (λ (b : ℕ). is_odd b ≡ true) (sym (get_or-append-add (encode c) (encodes cs) k 0)) odd) in
    let first : is_odd c ≡ false = elim (cases_Bool (is_odd c)) [
      | inl odd ↦ absurd (lack 0 (omega (arith, size, length-encode c, (len_utf8_bounds c).0)) (byte_of c cs odd))
      | inr other ↦ other
    ] in
    rw (other_is_plain c parts.0 first) (none-plain cs parts.1 rest)

-- where a byte is one of the two, some character is not plain
byte-not_plain : (cs : List ℕ) (k : ℕ) → k < length (encodes cs) → Passes is_odd (encodes cs) k → list_all is_plain_character cs ≡ false
byte-not_plain [] k within odd = absurd (omega (arith, within))
byte-not_plain (c ∷ cs) k within odd =
    let size = length-append (encode c) (encodes cs) in
    elim (cases_lt k (length (encode c))) [
      | inl front ↦
          let is : c ≡ slice_index (encodes (c ∷ cs)) k = inside_one c (encodes cs) (encodes (c ∷ cs)) k refl front (odd_is_low _ odd) in
          rw (odd_is_not_plain c (ap is_odd is ∙ odd)) refl
      | inr behind ↦
          let moved : slice_index (encodes (c ∷ cs)) k ≡ slice_index (encodes cs) (k - length (encode c)) =
          ap (slice_index (encodes (c ∷ cs))) (omega arith) ∙ get_or-append-add (encode c) (encodes cs) (k - length (encode c)) 0 in
          let rest = byte-not_plain cs (k - length (encode c)) (omega (arith, within, size)) (ap is_odd (sym moved) ∙ odd) in
          rw rest (and_false (is_plain_character c))
    ]

absence : (none : Bool) → false ≡ not none → none ≡ true
absence true is = refl
absence false is = is

presence : (none : Bool) → true ≡ not none → none ≡ false
presence true is = is
presence false is = refl

-- a search for the two bytes finds none exactly where all characters are plain
pub search-plain : (bs : List ℕ) (found : Option ℕ) (none : Bool) → IsUtf8 bs → IsFirstByte is_odd bs found
    → is_some found ≡ not none → none ≡ list_all is_plain_character (chars bs)
search-plain bs None none text search is =
    let same = encodes-chars bs text in
    let plain = none-plain (chars bs) (scalars-chars bs text)
    (λ k within odd. search k (omega arith) (subst (λ (xs : List ℕ). k < length xs) same within)
    (subst (λ (xs : List ℕ). Passes is_odd xs k) same odd)) in
    absence none is ∙ sym plain
search-plain bs (Some k) none text search is =
    let same = sym (encodes-chars bs text) in
    let odd = byte-not_plain (chars bs) k (subst (λ (xs : List ℕ). k < length xs) same search.0.high)
    (subst (λ (xs : List ℕ). Passes is_odd xs k) same search.1) in
    presence none is ∙ sym odd
