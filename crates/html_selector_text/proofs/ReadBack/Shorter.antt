-- Each token takes a character at least.
use Rattle.std.proofs.Common.{◌≡◌, ℕ, zero, suc, ◌+◌, ◌*◌, ◌<◌, ◌≤◌, true, false, not, ◌&&◌, ◌||◌}
use Rattle.std.proofs.Common.{List, [], ◌∷◌, ◌++◌, length, drop, arith, inl, inr}
use Rattle.std.specs.Prelude.{◌==◌, slice_index, min, codes, nat_le, nat_eq}
use Rattle.std.specs.List.{starts_with}
use Rattle.std.specs.Char.{is_ascii_digit, is_ascii_hexdigit, digit_value}
use Rattle.std.proofs.lemmas.Bool.{cases_Bool, false≢true, ne_eqb}
use Rattle.std.proofs.lemmas.Bool.Decides.{nat_tests}
use Rattle.std.proofs.lemmas.List.{length-drop}
use Rattle.html_selector_text.specs.Characters.{is_whitespace, is_in_name, is_escape, starts_name, starts_number, at_escape, at_name}
use Rattle.html_selector_text.specs.Characters.{at_number}
use Rattle.html_selector_text.specs.Scanning.{hex, escaped, past_one, past_whitespace, past_comment, name_steps, name}
use Rattle.html_selector_text.specs.Scanning.{string_steps, string_part, string, digits, past_digits, past_fraction, past_exponent}
use Rattle.html_selector_text.specs.Scanning.{number, numeric, ends_url, is_not_in_url, past_bad_url, bad_url_steps, url_end}
use Rattle.html_selector_text.specs.Scanning.{url_steps, url, is_word, is_quote, ident_like, token}

dropped : (k n : ℕ) (chars : List ℕ) → length chars ≤ n → length (drop k chars) ≤ n
dropped k n chars long = omega (arith, length-drop k chars)

whitespace_left : (chars : List ℕ) → length (past_whitespace chars) ≤ length chars
whitespace_left [] = omega arith
whitespace_left (c ∷ rest) = elim (cases_Bool (is_whitespace c)) [
  | inl is ↦ rw is (omega (arith, whitespace_left rest))
  | inr is ↦ rw is (omega arith)
]

hex_left : (count value : ℕ) (chars : List ℕ) → length (hex count value chars).rest ≤ length chars
unfolding hex
hex_left zero value chars = omega arith
hex_left (suc count) value [] = omega arith
hex_left (suc count) value (c ∷ rest) = elim (cases_Bool (is_ascii_hexdigit c)) [
  | inl is ↦ rw is (omega (arith, hex_left count (min (value * 16 + digit_value c) 0x110000) rest))
  | inr is ↦ rw is (omega arith)
]

one_left : (n : ℕ) (chars : List ℕ) → length chars ≤ n → length (past_one chars) ≤ n
one_left n chars long = elim (cases_Bool (is_whitespace (slice_index chars 0))) [
  | inl is ↦ rw is (dropped 1 n chars long)
  | inr is ↦ rw is long
]

escape_left : (chars : List ℕ) → length (escaped chars).rest ≤ length chars
unfolding escaped
escape_left [] = omega arith
escape_left (c ∷ rest) = elim (cases_Bool (is_ascii_hexdigit c)) [
  | inl is ↦ rw is (one_left (length (c ∷ rest)) (hex 6 0 (c ∷ rest)).rest (hex_left 6 0 (c ∷ rest)))
  | inr is ↦ rw is (omega arith)
]

escape_within : (n : ℕ) (chars : List ℕ) → length chars ≤ n → length (escaped (drop 1 chars)).rest ≤ n
escape_within n chars long = omega (arith, escape_left (drop 1 chars), length-drop 1 chars)

name_left : (count n : ℕ) (so_far chars : List ℕ) → length chars ≤ n → length (name_steps count so_far chars).rest ≤ n
name_left zero n so_far chars long = long
name_left (suc count) n so_far chars long = elim (cases_Bool (not (length chars == 0) && is_in_name (slice_index chars 0))) [
  | inl is ↦ rw is (name_left count n (so_far ++ slice_index chars 0 ∷ []) (drop 1 chars) (dropped 1 n chars long))
  | inr is ↦ elim (cases_Bool (at_escape chars)) [
    | inl also ↦ rw (is, also) (name_left count n (so_far ++ (escaped (drop 1 chars)).value ∷ []) (escaped (drop 1 chars)).rest
        (escape_within n chars long))
    | inr also ↦ rw (is, also) long
  ]
]

part_left : (n : ℕ) (chars : List ℕ) → length chars ≤ n → length (string_part chars).rest ≤ n
part_left n chars long = elim (cases_Bool (slice_index chars 0 == 92)) [
  | inl is ↦ elim (cases_Bool (nat_le (length chars) 1 || (slice_index chars 1 == 10))) [
    | inl also ↦ rw (is, also) (dropped 2 n chars long)
    | inr also ↦ rw (is, also) (escape_within n chars long)
  ]
  | inr is ↦ rw is (dropped 1 n chars long)
]

string_left : (quote count n : ℕ) (so_far chars : List ℕ) → length chars ≤ n → length (string_steps quote count so_far chars).rest ≤ n
string_left quote zero n so_far chars long = long
string_left quote (suc count) n so_far chars long = elim (cases_Bool (length chars == 0)) [
  | inl is ↦ rw is (omega arith)
  | inr some ↦ elim (cases_Bool (slice_index chars 0 == quote)) [
    | inl is ↦ rw (some, is) (dropped 1 n chars long)
    | inr other ↦ elim (cases_Bool (slice_index chars 0 == 10)) [
      | inl is ↦ rw (some, other, is) long
      | inr is ↦ rw (some, other, is) (string_left quote count n (so_far ++ (string_part chars).text) (string_part chars).rest
          (part_left n chars long))
    ]
  ]
]

digits_left : (value n : ℕ) (chars : List ℕ) → length chars ≤ n → length (digits value chars).rest ≤ n
digits_left value n [] long = long
digits_left value n (c ∷ rest) long = elim (cases_Bool (is_ascii_digit c)) [
  | inl is ↦ rw is (digits_left (min (value * 10 + digit_value c) 1000000000) n rest (omega arith))
  | inr is ↦ rw is long
]

past_digits_left : (n : ℕ) (chars : List ℕ) → length chars ≤ n → length (past_digits chars) ≤ n
past_digits_left n [] long = long
past_digits_left n (c ∷ rest) long = elim (cases_Bool (is_ascii_digit c)) [
  | inl is ↦ rw is (past_digits_left n rest (omega arith))
  | inr is ↦ rw is long
]

fraction_left : (n : ℕ) (chars : List ℕ) → length chars ≤ n → length (past_fraction chars) ≤ n
fraction_left n chars long = elim (cases_Bool ((slice_index chars 0 == 46) && is_ascii_digit (slice_index chars 1))) [
  | inl is ↦ rw is (past_digits_left n (drop 1 chars) (dropped 1 n chars long))
  | inr is ↦ rw is long
]

exponent_left : (n : ℕ) (chars : List ℕ) → length chars ≤ n → length (past_exponent chars) ≤ n
exponent_left n chars long = elim (cases_Bool ((slice_index chars 0 == 69) || (slice_index chars 0 == 101))) [
  | inr is ↦ rw is long
  | inl is ↦ elim (cases_Bool (is_ascii_digit (slice_index chars 1))) [
    | inl also ↦ rw (is, also) (past_digits_left n (drop 1 chars) (dropped 1 n chars long))
    | inr none ↦ elim (cases_Bool (((slice_index chars 1 == 43) || (slice_index chars 1 == 45)) && is_ascii_digit (slice_index chars 2))) [
      | inl also ↦ rw (is, none, also) (past_digits_left n (drop 2 chars) (dropped 2 n chars long))
      | inr also ↦ rw (is, none, also) long
    ]
  ]
]

bad_url_left : (count n : ℕ) (chars : List ℕ) → length chars ≤ n → length (bad_url_steps count chars) ≤ n
bad_url_left zero n chars long = long
bad_url_left (suc count) n chars long = elim (cases_Bool (ends_url chars)) [
  | inl is ↦ rw is (dropped 1 n chars long)
  | inr is ↦ elim (cases_Bool (at_escape chars)) [
    | inl also ↦ rw (is, also) (bad_url_left count n (escaped (drop 1 chars)).rest (escape_within n chars long))
    | inr also ↦ rw (is, also) (bad_url_left count n (drop 1 chars) (dropped 1 n chars long))
  ]
]

past_bad_left : (n : ℕ) (chars : List ℕ) → length chars ≤ n → length (past_bad_url chars) ≤ n
unfolding past_bad_url
past_bad_left n chars long = bad_url_left (length chars) n chars long

url_end_left : (n : ℕ) (chars : List ℕ) → length chars ≤ n → length (url_end chars).rest ≤ n
url_end_left n chars long = elim (cases_Bool (ends_url chars)) [
  | inl is ↦ rw is (dropped 1 n chars long)
  | inr is ↦ rw is (past_bad_left n chars long)
]

url_left : (count n : ℕ) (chars : List ℕ) → length chars ≤ n → length (url_steps count chars).rest ≤ n
url_left zero n chars long = long
url_left (suc count) n chars long = elim (cases_Bool (ends_url chars)) [
  | inl is ↦ rw is (dropped 1 n chars long)
  | inr some ↦ elim (cases_Bool (is_whitespace (slice_index chars 0))) [
    | inl is ↦ rw (some, is) (url_end_left n (past_whitespace chars) (omega (arith, whitespace_left chars)))
    | inr other ↦ elim (cases_Bool (at_escape chars)) [
      | inl is ↦ rw (some, other, is) (url_left count n (escaped (drop 1 chars)).rest (escape_within n chars long))
      | inr none ↦ elim (cases_Bool (is_not_in_url (slice_index chars 0))) [
        | inl is ↦ rw (some, other, none, is) (past_bad_left n chars long)
        | inr is ↦ rw (some, other, none, is) (url_left count n (drop 1 chars) (dropped 1 n chars long))
      ]
    ]
  ]
]

-- NAMES AND NUMBERS, OF WHICH A CHARACTER IS TAKEN AT LEAST

pub escape_or_name : (a b c : ℕ) → starts_name a b c ≡ true → is_in_name a ≡ false → is_escape a b ≡ true
escape_or_name a b c starts other = grind (arith, nat_tests)

pub name_takes : (chars : List ℕ) → at_name chars ≡ true → length (name chars).rest < length chars
unfolding at_name at_escape name
name_takes [] starts = absurd (false≢true starts)
name_takes (c ∷ rest) starts =
    let some : (length (c ∷ rest) == 0) ≡ false = ne_eqb _ _ (omega arith) in
    elim (cases_Bool (is_in_name c)) [
      | inl is ↦ rw (some, is) (omega (arith, name_left (length rest) (length rest) ([] ++ c ∷ []) rest (omega arith)))
      | inr other ↦
          let escape = escape_or_name c (slice_index rest 0) (slice_index rest 1) starts other in
          rw (some, other, escape)
          (omega (arith, name_left (length rest) (length rest) ([] ++ (escaped rest).value ∷ []) (escaped rest).rest (escape_left rest)))
    ]

no_number : (a b d : ℕ) → starts_number a b d ≡ true → ((a == 43) || (a == 45)) ≡ false → is_ascii_digit a ≡ false
    → ((a == 46) && is_ascii_digit b) ≡ false → ⊥
no_number a b d starts unsigned none also = grind (arith, nat_tests)

number_takes : (chars : List ℕ) → at_number chars ≡ true → length (number chars).rest < length chars
unfolding at_number number
number_takes [] starts = absurd (false≢true starts)
number_takes (c ∷ rest) starts = elim (cases_Bool ((c == 43) || (c == 45))) [
  | inl is ↦ rw is (omega (
    arith,
    exponent_left (length rest) (past_fraction (digits 0 rest).rest)
        (fraction_left (length rest) (digits 0 rest).rest (digits_left 0 (length rest) rest (omega arith))),
  ))
  | inr unsigned ↦ elim (cases_Bool (is_ascii_digit c)) [
    | inl is ↦ rw (unsigned, is)
        (omega (
          arith,
          exponent_left (length rest) (past_fraction (digits (min (0 * 10 + digit_value c) 1000000000) rest).rest)
              (fraction_left (length rest) (digits (min (0 * 10 + digit_value c) 1000000000) rest).rest
              (digits_left (min (0 * 10 + digit_value c) 1000000000) (length rest) rest (omega arith))),
        ))
    | inr none ↦ elim (cases_Bool ((c == 46) && is_ascii_digit (slice_index rest 0))) [
      | inl is ↦ rw (unsigned, none, is) (omega (
        arith,
        exponent_left (length rest) (past_digits rest)
            (past_digits_left (length rest) rest (omega arith)),
      ))
      | inr also ↦ absurd (no_number c (slice_index rest 0) (slice_index rest 1) starts unsigned none also)
    ]
  ]
]

numeric_takes : (chars : List ℕ) → at_number chars ≡ true → length (numeric chars).rest < length chars
unfolding numeric at_name name
numeric_takes chars starts = elim (cases_Bool (at_name (number chars).rest)) [
  | inl is ↦ rw is (omega (arith, number_takes chars starts, name_takes (number chars).rest is))
  | inr other ↦ elim (cases_Bool (slice_index (number chars).rest 0 == 37)) [
    | inl is ↦ rw (other, is) (omega (arith, number_takes chars starts, length-drop 1 (number chars).rest))
    | inr is ↦ rw (other, is) (number_takes chars starts)
  ]
]

url_shorter : (n : ℕ) (chars : List ℕ) → length chars ≤ n → length (url chars).rest ≤ n
unfolding url
url_shorter n chars long = url_left (length chars) n chars long

ident_like_takes : (chars : List ℕ) → at_name chars ≡ true → length (ident_like chars).rest < length chars
unfolding ident_like
ident_like_takes chars starts =
    let taken : length (name chars).rest < length chars = name_takes chars starts in
    let behind : List ℕ = past_whitespace (drop 1 (name chars).rest) in
    elim (cases_Bool (slice_index (name chars).rest 0 == 40)) [
      | inr other ↦ rw other taken
      | inl opens ↦ elim (cases_Bool (is_word (name chars).text (codes "url") && not (is_quote (slice_index behind 0)))) [
        | inl is ↦ rw (opens, is) (omega (
          arith,
          taken,
          url_shorter (length (drop 1 (name chars).rest)) behind
              (whitespace_left (drop 1 (name chars).rest)),
          length-drop 1 (name chars).rest,
        ))
        | inr is ↦ rw (opens, is) (omega (arith, taken, length-drop 1 (name chars).rest))
      ]
    ]

-- a token takes a character at least
pub token_takes : (c : ℕ) (rest : List ℕ) → length (token (c ∷ rest)).rest ≤ length rest
unfolding token string name
token_takes c rest = elim (cases_Bool (is_whitespace c)) [
  | inl is ↦ rw is (whitespace_left rest)
  | inr n1 ↦ elim (cases_Bool (is_quote c)) [
    | inl is ↦ rw (n1, is) (string_left c (length rest) (length rest) [] rest (omega arith))
    | inr n2 ↦ elim (cases_Bool ((c == 35) && (is_in_name (slice_index rest 0) || at_escape rest))) [
      | inl is ↦ rw (n1, n2, is) (name_left (length rest) (length rest) [] rest (omega arith))
      | inr n3 ↦ elim (cases_Bool ((c == 64) && at_name rest)) [
        | inl is ↦ rw (n1, n2, n3, is) (name_left (length rest) (length rest) [] rest (omega arith))
        | inr n4 ↦ elim (cases_Bool (starts_with nat_eq (c ∷ rest) (codes "<!--"))) [
          | inl is ↦ rw (n1, n2, n3, n4, is) (dropped 3 (length rest) rest (omega arith))
          | inr n5 ↦ elim (cases_Bool (starts_with nat_eq (c ∷ rest) (codes "-->"))) [
            | inl is ↦ rw (n1, n2, n3, n4, n5, is) (dropped 2 (length rest) rest (omega arith))
            | inr n6 ↦ elim (cases_Bool (at_number (c ∷ rest))) [
              | inl is ↦ rw (n1, n2, n3, n4, n5, n6, is) (omega (arith, numeric_takes (c ∷ rest) is))
              | inr n7 ↦ elim (cases_Bool (at_name (c ∷ rest))) [
                | inl is ↦ rw (n1, n2, n3, n4, n5, n6, n7, is) (omega (arith, ident_like_takes (c ∷ rest) is))
                | inr n8 ↦ rw (n1, n2, n3, n4, n5, n6, n7, n8) (omega arith)
              ]
            ]
          ]
        ]
      ]
    ]
  ]
]

comment_end : (chars : List ℕ) → length (past_comment chars) ≤ length chars
comment_end [] = omega arith
comment_end (c ∷ rest) = elim (cases_Bool ((c == 42) && (slice_index rest 0 == 47))) [
  | inl is ↦ rw is (omega (arith, length-drop 1 rest))
  | inr is ↦ rw is (omega (arith, comment_end rest))
]

pub comment_left : (chars : List ℕ) → length (past_comment (drop 1 chars)) ≤ length chars
comment_left chars = omega (arith, comment_end (drop 1 chars), length-drop 1 chars)
