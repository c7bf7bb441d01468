-- Tokens of a text without U+0000 have names without it, and numbers that are not too large.
use Rattle.std.proofs.Common.{◌≡◌, ℕ, zero, suc, ◌+◌, ◌*◌, ◌≤◌, Bool, true, false, not, ◌&&◌, ◌||◌}
use Rattle.std.proofs.Common.{List, [], ◌∷◌, ◌++◌, length, drop, refl, arith, inl, inr, length-append}
use Rattle.std.specs.Prelude.{◌==◌, ◌≢◌, slice_index, min, codes, nat_le, nat_eq}
use Rattle.std.specs.List.{starts_with}
use Rattle.std.specs.Char.{is_ascii_digit, is_ascii_hexdigit, digit_value}
use Rattle.std.proofs.lemmas.Bool.{cases_Bool, false≢true, ne_eqb, eqb-false, or_parts}
use Rattle.html_selector_text.specs.declared.tokens.Token.{Token}
use Rattle.html_selector_text.specs.declared.tokens.TokenKind.{TokenKind}
use Rattle.html_selector_text.specs.declared.tokens.TokenKind.TheVariants.{Ident, Function, AtKeyword, Hash, Str, BadStr, Url, BadUrl}
use Rattle.html_selector_text.specs.declared.tokens.TokenKind.TheVariants.{Number, Percentage, Dimension, Space, Cdo, Cdc, Delim, End}
use Rattle.html_selector_text.specs.Characters.{filtered, preprocessed_after, preprocessed, is_whitespace, is_in_name, at_escape, at_name}
use Rattle.html_selector_text.specs.Characters.{at_number}
use Rattle.html_selector_text.specs.Scanning.{Read, hex, code_point, escaped, past_one, past_whitespace, past_comment, name_steps}
use Rattle.html_selector_text.specs.Scanning.{name, string_steps, string_part, string, digits, past_sign, past_digits, past_fraction}
use Rattle.html_selector_text.specs.Scanning.{past_exponent, number, numeric, ends_url, is_not_in_url, past_bad_url, bad_url_steps, url_end}
use Rattle.html_selector_text.specs.Scanning.{url_steps, url, is_word, is_quote, ident_like, token, placed, one_token, token_steps, tokens}
use Rattle.html_selector_text.specs.Written.{NoZero}
use Rattle.html_selector_text.specs.Readable.{IsName}
use Rattle.html_selector_text.proofs.ReadBack.Shorter.{escape_or_name}

zero_drop : (k : ℕ) (chars : List ℕ) → NoZero chars → NoZero (drop k chars)
zero_drop zero chars h = h
zero_drop (suc k) [] h = tt
zero_drop (suc k) (c ∷ rest) h = zero_drop k rest h.1

zero_append : (a b : List ℕ) → NoZero a → NoZero b → NoZero (a ++ b)
zero_append [] b h k = k
zero_append (c ∷ a) b h k = (h.0, zero_append a b h.1 k)

zero_first : (chars : List ℕ) → NoZero chars → (length chars == 0) ≡ false → slice_index chars 0 ≢ 0
zero_first [] h some = absurd (eqb-false 0 0 some refl)
zero_first (c ∷ rest) h some = h.0

-- WHAT IS LEFT

whitespace_zero : (chars : List ℕ) → NoZero chars → NoZero (past_whitespace chars)
whitespace_zero [] h = tt
whitespace_zero (c ∷ rest) h = elim (cases_Bool (is_whitespace c)) [ inl is ↦ rw is (whitespace_zero rest h.1) | inr is ↦ rw is h ]

hex_zero : (count value : ℕ) (chars : List ℕ) → NoZero chars → NoZero (hex count value chars).rest
unfolding hex
hex_zero zero value chars h = h
hex_zero (suc count) value [] h = tt
hex_zero (suc count) value (c ∷ rest) h = elim (cases_Bool (is_ascii_hexdigit c)) [
  | inl is ↦ rw is (hex_zero count (min (value * 16 + digit_value c) 0x110000) rest h.1)
  | inr is ↦ rw is h
]

one_zero : (chars : List ℕ) → NoZero chars → NoZero (past_one chars)
one_zero chars h = elim (cases_Bool (is_whitespace (slice_index chars 0))) [
  | inl is ↦ rw is (zero_drop 1 chars h)
  | inr is ↦ rw is h
]

code_some : (v : ℕ) → code_point v ≢ 0
code_some v = elim (cases_Bool ((v == 0) || ((nat_le 0xD800 v && nat_le v 0xDFFF) || nat_le 0x110000 v))) [
  | inl is ↦ rw is (λ e. omega (arith, e))
  | inr is ↦ rw is (eqb-false v 0 (or_parts _ _ is).0)
]

escape_zero : (chars : List ℕ) → NoZero chars → ((escaped chars).value ≢ 0) × NoZero (escaped chars).rest
unfolding escaped
escape_zero [] h = (λ e. omega (arith, e), tt)
escape_zero (c ∷ rest) h = elim (cases_Bool (is_ascii_hexdigit c)) [
  | inl is ↦ rw is (code_some (hex 6 0 (c ∷ rest)).value, one_zero (hex 6 0 (c ∷ rest)).rest (hex_zero 6 0 (c ∷ rest) h))
  | inr is ↦ rw is h
]

-- NAMES

name_zero : (count : ℕ) (so_far chars : List ℕ) → NoZero so_far → NoZero chars
    → NoZero (name_steps count so_far chars).text × NoZero (name_steps count so_far chars).rest
name_zero zero so_far chars before h = (before, h)
name_zero (suc count) so_far chars before h = elim (cases_Bool (length chars == 0)) [
  | inl none ↦ elim (cases_Bool (at_escape chars)) [
    | inl is ↦
        let e = escape_zero (drop 1 chars) (zero_drop 1 chars h) in
        rw (none, is) (name_zero count (so_far ++ (escaped (drop 1 chars)).value ∷ []) (escaped (drop 1 chars)).rest
        (zero_append so_far ((escaped (drop 1 chars)).value ∷ []) before (e.0, tt)) e.1)
    | inr is ↦ rw (none, is) (before, h)
  ]
  | inr some ↦ elim (cases_Bool (is_in_name (slice_index chars 0))) [
    | inl is ↦ rw (some, is) (name_zero count (so_far ++ slice_index chars 0 ∷ []) (drop 1 chars)
        (zero_append so_far (slice_index chars 0 ∷ []) before (zero_first chars h some, tt)) (zero_drop 1 chars h))
    | inr other ↦ elim (cases_Bool (at_escape chars)) [
      | inl is ↦
          let e = escape_zero (drop 1 chars) (zero_drop 1 chars h) in
          rw (some, other, is) (name_zero count (so_far ++ (escaped (drop 1 chars)).value ∷ []) (escaped (drop 1 chars)).rest
          (zero_append so_far ((escaped (drop 1 chars)).value ∷ []) before (e.0, tt)) e.1)
      | inr is ↦ rw (some, other, is) (before, h)
    ]
  ]
]

name_long : (count : ℕ) (so_far chars : List ℕ) → length so_far ≤ length (name_steps count so_far chars).text
name_long zero so_far chars = omega arith
name_long (suc count) so_far chars = elim (cases_Bool (not (length chars == 0) && is_in_name (slice_index chars 0))) [
  | inl is ↦ rw is (omega (
    arith,
    name_long count (so_far ++ slice_index chars 0 ∷ []) (drop 1 chars),
    length-append so_far (slice_index chars 0 ∷ []),
  ))
  | inr other ↦ elim (cases_Bool (at_escape chars)) [
    | inl is ↦ rw (other, is) (omega (
      arith,
      name_long count (so_far ++ (escaped (drop 1 chars)).value ∷ []) (escaped (drop 1 chars)).rest,
      length-append so_far ((escaped (drop 1 chars)).value ∷ []),
    ))
    | inr is ↦ rw (other, is) (omega arith)
  ]
]

named : (text : List ℕ) → NoZero text → 1 ≤ length text → IsName text
named [] h long = absurd (omega (arith, long))
named (c ∷ cs) h long = h

name_of : (chars : List ℕ) → NoZero chars → NoZero (name chars).text × NoZero (name chars).rest
unfolding name
name_of chars h = name_zero (length chars) [] chars tt h

name_some : (chars : List ℕ) → at_name chars ≡ true → 1 ≤ length (name chars).text
unfolding at_name at_escape name
name_some [] starts = absurd (false≢true starts)
name_some (c ∷ rest) starts =
    let some : (length (c ∷ rest) == 0) ≡ false = ne_eqb _ _ (omega arith) in
    elim (cases_Bool (is_in_name c)) [
      | inl is ↦ rw (some, is) (name_long (length rest) ([] ++ c ∷ []) rest)
      | inr other ↦
          let escape = escape_or_name c (slice_index rest 0) (slice_index rest 1) starts other in
          rw (some, other, escape) (name_long (length rest) ([] ++ (escaped rest).value ∷ []) (escaped rest).rest)
    ]

is_name : (chars : List ℕ) → NoZero chars → at_name chars ≡ true → IsName (name chars).text
is_name chars h starts = named (name chars).text (name_of chars h).0 (name_some chars starts)

-- KINDS OF TOKENS

abbrev pub SoundKind : TokenKind → Type 0
SoundKind (Ident text) = IsName text
SoundKind (Function text) = IsName text
SoundKind (AtKeyword text) = Unit {0}
SoundKind (Hash text id) = id ≡ true → IsName text
SoundKind (Str text) = NoZero text
SoundKind BadStr = Unit {0}
SoundKind Url = Unit {0}
SoundKind BadUrl = Unit {0}
SoundKind (Number value) = value.value ≤ 1000000000
SoundKind Percentage = Unit {0}
SoundKind (Dimension value unit) = value.value ≤ 1000000000
SoundKind Space = Unit {0}
SoundKind Cdo = Unit {0}
SoundKind Cdc = Unit {0}
SoundKind (Delim c) = Unit {0}
SoundKind End = Unit {0}

abbrev SoundRead : Read → Type 0
SoundRead r = SoundKind r.kind × NoZero r.rest

part_zero : (chars : List ℕ) → NoZero chars → (length chars == 0) ≡ false
    → NoZero (string_part chars).text × NoZero (string_part chars).rest
part_zero chars h some = elim (cases_Bool (slice_index chars 0 == 92)) [
  | inr is ↦ rw is ((zero_first chars h some, tt), zero_drop 1 chars h)
  | inl is ↦ elim (cases_Bool (nat_le (length chars) 1 || (slice_index chars 1 == 10))) [
    | inl also ↦ rw (is, also) (tt, zero_drop 2 chars h)
    | inr also ↦
        let e = escape_zero (drop 1 chars) (zero_drop 1 chars h) in
        rw (is, also) ((e.0, tt), e.1)
  ]
]

string_sound : (quote count : ℕ) (so_far chars : List ℕ) → NoZero so_far → NoZero chars → SoundRead (string_steps quote count so_far chars)
string_sound quote zero so_far chars before h = (before, h)
string_sound quote (suc count) so_far chars before h = elim (cases_Bool (length chars == 0)) [
  | inl is ↦ rw is (before, tt)
  | inr some ↦ elim (cases_Bool (slice_index chars 0 == quote)) [
    | inl is ↦ rw (some, is) (before, zero_drop 1 chars h)
    | inr other ↦ elim (cases_Bool (slice_index chars 0 == 10)) [
      | inl is ↦ rw (some, other, is) (tt, h)
      | inr is ↦
          let p = part_zero chars h some in
          rw (some, other, is) (string_sound quote count (so_far ++ (string_part chars).text) (string_part chars).rest
          (zero_append so_far (string_part chars).text before p.0) p.1)
    ]
  ]
]

pub digits_small : (value : ℕ) (chars : List ℕ) → value ≤ 1000000000 → (digits value chars).value ≤ 1000000000
digits_small value [] small = small
digits_small value (c ∷ rest) small = elim (cases_Bool (is_ascii_digit c)) [
  | inl is ↦ rw is (digits_small (min (value * 10 + digit_value c) 1000000000) rest (omega arith))
  | inr is ↦ rw is small
]

digits_zero : (value : ℕ) (chars : List ℕ) → NoZero chars → NoZero (digits value chars).rest
digits_zero value [] h = tt
digits_zero value (c ∷ rest) h = elim (cases_Bool (is_ascii_digit c)) [
  | inl is ↦ rw is (digits_zero (min (value * 10 + digit_value c) 1000000000) rest h.1)
  | inr is ↦ rw is h
]

past_digits_zero : (chars : List ℕ) → NoZero chars → NoZero (past_digits chars)
past_digits_zero [] h = tt
past_digits_zero (c ∷ rest) h = elim (cases_Bool (is_ascii_digit c)) [ inl is ↦ rw is (past_digits_zero rest h.1) | inr is ↦ rw is h ]

sign_zero : (chars : List ℕ) → NoZero chars → NoZero (past_sign chars)
sign_zero chars h = elim (cases_Bool ((slice_index chars 0 == 43) || (slice_index chars 0 == 45))) [
  | inl is ↦ rw is (zero_drop 1 chars h)
  | inr is ↦ rw is h
]

fraction_zero : (chars : List ℕ) → NoZero chars → NoZero (past_fraction chars)
fraction_zero chars h = elim (cases_Bool ((slice_index chars 0 == 46) && is_ascii_digit (slice_index chars 1))) [
  | inl is ↦ rw is (past_digits_zero (drop 1 chars) (zero_drop 1 chars h))
  | inr is ↦ rw is h
]

exponent_zero : (chars : List ℕ) → NoZero chars → NoZero (past_exponent chars)
exponent_zero chars h = elim (cases_Bool ((slice_index chars 0 == 69) || (slice_index chars 0 == 101))) [
  | inr is ↦ rw is h
  | inl is ↦ elim (cases_Bool (is_ascii_digit (slice_index chars 1))) [
    | inl also ↦ rw (is, also) (past_digits_zero (drop 1 chars) (zero_drop 1 chars h))
    | inr none ↦ elim (cases_Bool (((slice_index chars 1 == 43) || (slice_index chars 1 == 45)) && is_ascii_digit (slice_index chars 2))) [
      | inl also ↦ rw (is, none, also) (past_digits_zero (drop 2 chars) (zero_drop 2 chars h))
      | inr also ↦ rw (is, none, also) h
    ]
  ]
]

number_zero : (chars : List ℕ) → NoZero chars → ((number chars).number.value ≤ 1000000000) × NoZero (number chars).rest
unfolding number
number_zero chars h =
    let d = digits_zero 0 (past_sign chars) (sign_zero chars h) in (
      digits_small 0 (past_sign chars) (omega arith),
      exponent_zero (past_fraction (digits 0 (past_sign chars)).rest) (fraction_zero (digits 0 (past_sign chars)).rest d),
    )

numeric_sound : (chars : List ℕ) → NoZero chars → SoundRead (numeric chars)
unfolding numeric
numeric_sound chars h =
    let n = number_zero chars h in
    elim (cases_Bool (at_name (number chars).rest)) [
      | inl is ↦ rw is (n.0, (name_of (number chars).rest n.1).1)
      | inr other ↦ elim (cases_Bool (slice_index (number chars).rest 0 == 37)) [
        | inl is ↦ rw (other, is) (tt, zero_drop 1 (number chars).rest n.1)
        | inr is ↦ rw (other, is) n
      ]
    ]

bad_url_zero : (count : ℕ) (chars : List ℕ) → NoZero chars → NoZero (bad_url_steps count chars)
bad_url_zero zero chars h = h
bad_url_zero (suc count) chars h = elim (cases_Bool (ends_url chars)) [
  | inl is ↦ rw is (zero_drop 1 chars h)
  | inr is ↦ elim (cases_Bool (at_escape chars)) [
    | inl also ↦ rw (is, also) (bad_url_zero count (escaped (drop 1 chars)).rest (escape_zero (drop 1 chars) (zero_drop 1 chars h)).1)
    | inr also ↦ rw (is, also) (bad_url_zero count (drop 1 chars) (zero_drop 1 chars h))
  ]
]

past_bad_zero : (chars : List ℕ) → NoZero chars → NoZero (past_bad_url chars)
unfolding past_bad_url
past_bad_zero chars h = bad_url_zero (length chars) chars h

url_end_sound : (chars : List ℕ) → NoZero chars → SoundRead (url_end chars)
url_end_sound chars h = elim (cases_Bool (ends_url chars)) [
  | inl is ↦ rw is (tt, zero_drop 1 chars h)
  | inr is ↦ rw is (tt, past_bad_zero chars h)
]

url_sound : (count : ℕ) (chars : List ℕ) → NoZero chars → SoundRead (url_steps count chars)
url_sound zero chars h = (tt, h)
url_sound (suc count) chars h = elim (cases_Bool (ends_url chars)) [
  | inl is ↦ rw is (tt, zero_drop 1 chars h)
  | inr some ↦ elim (cases_Bool (is_whitespace (slice_index chars 0))) [
    | inl is ↦ rw (some, is) (url_end_sound (past_whitespace chars) (whitespace_zero chars h))
    | inr other ↦ elim (cases_Bool (at_escape chars)) [
      | inl is ↦ rw (some, other, is) (url_sound count (escaped (drop 1 chars)).rest (escape_zero (drop 1 chars) (zero_drop 1 chars h)).1)
      | inr none ↦ elim (cases_Bool (is_not_in_url (slice_index chars 0))) [
        | inl is ↦ rw (some, other, none, is) (tt, past_bad_zero chars h)
        | inr is ↦ rw (some, other, none, is) (url_sound count (drop 1 chars) (zero_drop 1 chars h))
      ]
    ]
  ]
]

whole_url_sound : (chars : List ℕ) → NoZero chars → SoundRead (url chars)
unfolding url
whole_url_sound chars h = url_sound (length chars) chars h

ident_like_sound : (chars : List ℕ) → NoZero chars → at_name chars ≡ true → SoundRead (ident_like chars)
unfolding ident_like
ident_like_sound chars h starts =
    let n = name_of chars h in
    let own = is_name chars h starts in
    let after : NoZero (drop 1 (name chars).rest) = zero_drop 1 (name chars).rest n.1 in
    elim (cases_Bool (slice_index (name chars).rest 0 == 40)) [
      | inr other ↦ rw other (own, n.1)
      | inl opens ↦ elim (cases_Bool (is_word (name chars).text (codes "url")
          && not (is_quote (slice_index (past_whitespace (drop 1 (name chars).rest)) 0)))) [
            | inl is ↦ rw (opens, is) (whole_url_sound (past_whitespace (drop 1 (name chars).rest)) (whitespace_zero (drop 1
                (name chars).rest) after))
            | inr is ↦ rw (opens, is) (own, after)
          ]
    ]

token_sound : (chars : List ℕ) → NoZero chars → SoundRead (token chars)
unfolding token string
token_sound [] h = (tt, tt)
token_sound (c ∷ rest) h = elim (cases_Bool (is_whitespace c)) [
  | inl is ↦ rw is (tt, whitespace_zero rest h.1)
  | inr n1 ↦ elim (cases_Bool (is_quote c)) [
    | inl is ↦ rw (n1, is) (string_sound c (length rest) [] rest tt h.1)
    | inr n2 ↦ elim (cases_Bool ((c == 35) && (is_in_name (slice_index rest 0) || at_escape rest))) [
      | inl is ↦ rw (n1, n2, is) (λ id. is_name rest h.1 id, (name_of rest h.1).1)
      | inr n3 ↦ elim (cases_Bool ((c == 64) && at_name rest)) [
        | inl is ↦ rw (n1, n2, n3, is) (tt, (name_of rest h.1).1)
        | inr n4 ↦ elim (cases_Bool (starts_with nat_eq (c ∷ rest) (codes "<!--"))) [
          | inl is ↦ rw (n1, n2, n3, n4, is) (tt, zero_drop 3 rest h.1)
          | inr n5 ↦ elim (cases_Bool (starts_with nat_eq (c ∷ rest) (codes "-->"))) [
            | inl is ↦ rw (n1, n2, n3, n4, n5, is) (tt, zero_drop 2 rest h.1)
            | inr n6 ↦ elim (cases_Bool (at_number (c ∷ rest))) [
              | inl is ↦ rw (n1, n2, n3, n4, n5, n6, is) (numeric_sound (c ∷ rest) h)
              | inr n7 ↦ elim (cases_Bool (at_name (c ∷ rest))) [
                | inl is ↦ rw (n1, n2, n3, n4, n5, n6, n7, is) (ident_like_sound (c ∷ rest) h is)
                | inr n8 ↦ rw (n1, n2, n3, n4, n5, n6, n7, n8) (tt, h.1)
              ]
            ]
          ]
        ]
      ]
    ]
  ]
]

-- TOKENS

abbrev pub Sound : List Token → Type 0
Sound [] = Unit {0}
Sound (t ∷ ts) = SoundKind t.kind × Sound ts

sound_append : (a b : List Token) → Sound a → Sound b → Sound (a ++ b)
sound_append [] b h k = k
sound_append (t ∷ a) b h k = (h.0, sound_append a b h.1 k)

comment_zero : (chars : List ℕ) → NoZero chars → NoZero (past_comment chars)
comment_zero [] h = tt
comment_zero (c ∷ rest) h = elim (cases_Bool ((c == 42) && (slice_index rest 0 == 47))) [
  | inl is ↦ rw is (zero_drop 1 rest h.1)
  | inr is ↦ rw is (comment_zero rest h.1)
]

one_sound : (total : ℕ) (chars : List ℕ) → NoZero chars → Sound (one_token total chars).tokens × NoZero (one_token total chars).rest
one_sound total chars h = elim (cases_Bool ((slice_index chars 0 == 47) && (slice_index chars 1 == 42))) [
  | inl is ↦ rw is (tt, comment_zero (drop 2 chars) (zero_drop 2 chars h))
  | inr is ↦
      let t = token_sound chars h in
      rw is ((t.0, tt), t.1)
]

steps_sound : (count total : ℕ) (so_far : List Token) (chars : List ℕ) → Sound so_far → NoZero chars
    → Sound (token_steps count total so_far chars)
steps_sound zero total so_far chars before h = before
steps_sound (suc count) total so_far chars before h = elim (cases_Bool (length chars == 0)) [
  | inl is ↦ rw is before
  | inr is ↦
      let t = one_sound total chars h in
      rw is (steps_sound count total (so_far ++ (one_token total chars).tokens) (one_token total chars).rest
      (sound_append so_far (one_token total chars).tokens before t.0) t.1)
]

pub tokens_sound : (chars : List ℕ) → NoZero chars → Sound (tokens chars)
unfolding tokens
tokens_sound chars h = sound_append (token_steps (length chars) (length chars) [] chars) (placed End (length chars) ∷ [])
    (steps_sound (length chars) (length chars) [] chars tt h) (tt, tt)

filtered_some : (c : ℕ) → filtered c ≢ 0
filtered_some c = elim (cases_Bool ((c == 12) || (c == 13))) [
  | inl is ↦ rw is (λ e. omega (arith, e))
  | inr other ↦ elim (cases_Bool (c == 0)) [
    | inl is ↦ rw (other, is) (λ e. omega (arith, e))
    | inr is ↦ rw (other, is) (eqb-false c 0 is)
  ]
]

after_zero : (cr : Bool) (text : List ℕ) → NoZero (preprocessed_after cr text)
after_zero cr [] = tt
after_zero cr (c ∷ rest) = elim (cases_Bool (cr && (c == 10))) [
  | inl is ↦ rw is (after_zero false rest)
  | inr is ↦ rw is (filtered_some c, after_zero (c == 13) rest)
]

pub preprocessed_zero : (text : List ℕ) → NoZero (preprocessed text)
unfolding preprocessed
preprocessed_zero text = after_zero false text
