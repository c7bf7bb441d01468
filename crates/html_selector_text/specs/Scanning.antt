-- Code points to tokens (CSS Syntax Level 3, section 4.3). Each definition speaks of what is left of the text.
use Rattle.std.specs.Prelude.{ℕ, zero, suc, Bool, cond, not, ◌&&◌, ◌||◌, ◌==◌, ◌+◌, ◌*◌, ◌-◌, min, nat_le}
use Rattle.std.specs.Prelude.{List, [], ◌∷◌, ◌++◌, length, drop, slice_index, codes, nat_eq}
use Rattle.std.specs.Prelude.{map}
use Rattle.std.specs.Char.{is_ascii_digit, is_ascii_hexdigit, digit_value, to_ascii_lowercase}
use Rattle.std.specs.Str.{bytes_eq}
use Rattle.std.specs.List.{starts_with}
use Rattle.html_selector_text.specs.declared.tokens.Number.{Number as NumberValue}
use Rattle.html_selector_text.specs.declared.tokens.Sign.{Sign}
use Rattle.html_selector_text.specs.declared.tokens.Sign.TheVariants.{Unsigned, Plus, Minus}
use Rattle.html_selector_text.specs.declared.tokens.Token.{Token}
use Rattle.html_selector_text.specs.declared.tokens.TokenKind.{TokenKind}
use Rattle.html_selector_text.specs.declared.tokens.TokenKind.TheVariants.{Ident, Function, AtKeyword, Hash, Str, BadStr, Url, BadUrl}
use Rattle.html_selector_text.specs.declared.tokens.TokenKind.TheVariants.{Number, Percentage, Dimension, Space, Cdo, Cdc, Delim, End}
use Rattle.html_selector_text.specs.Characters.{is_whitespace, is_in_name, at_escape, at_name, at_number}

-- characters that were read, and what is left
pub record Taken : Type 0 where
  pub text : List ℕ
  pub rest : List ℕ

abbrev pub past_whitespace : List ℕ → List ℕ
past_whitespace [] = []
past_whitespace (c ∷ rest) = cond (is_whitespace c) (past_whitespace rest) (c ∷ rest)

-- what follows a comment, behind its first two characters (section 4.3.2)
abbrev pub past_comment : List ℕ → List ℕ
past_comment [] = []
past_comment (c ∷ rest) = cond ((c == 42) && (slice_index rest 0 == 47)) (drop 1 rest) (past_comment rest)

-- ESCAPES

-- a number, and what is left
pub record Counted : Type 0 where
  pub value : ℕ
  pub rest : List ℕ

-- the value of at most so many hexadecimal digits; what is greater than any code point counts as 0x110000
unfoldable pub hex : ℕ → ℕ → List ℕ → Counted
hex zero value chars = record { value = value; rest = chars }
hex (suc left) value [] = record { value = value; rest = [] }
hex (suc left) value (c ∷ rest) =
    cond (is_ascii_hexdigit c) (hex left (min (value * 16 + digit_value c) 0x110000) rest) (record { value = value; rest = c ∷ rest })

-- U+0000, surrogates and what is greater than any code point are U+FFFD
abbrev pub code_point : ℕ → ℕ
code_point value =
    cond ((value == 0) || ((nat_le 0xD800 value && nat_le value 0xDFFF) || nat_le 0x110000 value)) 65533 value

-- one character of white space is part of an escape
abbrev pub past_one : List ℕ → List ℕ
past_one chars = cond (is_whitespace (slice_index chars 0)) (drop 1 chars) chars

abbrev pub hex_escape : Counted → Counted
hex_escape counted = record { value = code_point counted.value; rest = past_one counted.rest }

-- "consume an escaped code point", behind the backslash (section 4.3.7)
unfoldable pub escaped : List ℕ → Counted
escaped [] = record { value = 65533; rest = [] }
escaped (c ∷ rest) = cond (is_ascii_hexdigit c) (hex_escape (hex 6 0 (c ∷ rest))) (record { value = c; rest = rest })

-- NAMES AND STRINGS

-- "consume an ident sequence" (section 4.3.11), so many steps of it, with the result so far
abbrev pub name_steps : ℕ → List ℕ → List ℕ → Taken
name_steps zero so_far chars = record { text = so_far; rest = chars }
name_steps (suc count) so_far chars =
    cond (not (length chars == 0) && is_in_name (slice_index chars 0))
    (name_steps count (so_far ++ slice_index chars 0 ∷ []) (drop 1 chars))
    (cond (at_escape chars)
    (name_steps count (so_far ++ (escaped (drop 1 chars)).value ∷ []) (escaped (drop 1 chars)).rest)
    (record { text = so_far; rest = chars }))

-- each step takes a character at least, so there are not more of them than characters
unfoldable pub name : List ℕ → Taken
name chars = name_steps (length chars) [] chars

-- a token that was read, and what is left
pub record Read : Type 0 where
  pub kind : TokenKind
  pub rest : List ℕ

abbrev pub read : TokenKind → List ℕ → Read
read kind rest = record { kind = kind; rest = rest }

-- what one step adds to a string: a character, an escaped one, or nothing for an escaped line feed and for a backslash at the end
abbrev pub string_part : List ℕ → Taken
string_part chars =
    cond (not (slice_index chars 0 == 92)) (record { text = slice_index chars 0 ∷ []; rest = drop 1 chars })
    (cond (nat_le (length chars) 1 || (slice_index chars 1 == 10)) (record { text = []; rest = drop 2 chars })
    (record { text = (escaped (drop 1 chars)).value ∷ []; rest = (escaped (drop 1 chars)).rest }))

-- "consume a string token" (section 4.3.5), so many steps of it, with the string so far
abbrev pub string_steps : ℕ → ℕ → List ℕ → List ℕ → Read
string_steps quote zero so_far chars = read (Str so_far) chars
string_steps quote (suc count) so_far chars =
    cond (length chars == 0) (read (Str so_far) [])
    (cond (slice_index chars 0 == quote) (read (Str so_far) (drop 1 chars))
    (cond (slice_index chars 0 == 10) (read BadStr chars)
    (string_steps quote count (so_far ++ (string_part chars).text) (string_part chars).rest)))

unfoldable pub string : ℕ → List ℕ → Read
string quote chars = string_steps quote (length chars) [] chars

-- NUMBERS

abbrev pub sign_of : ℕ → Sign
sign_of c = cond (c == 43) Plus (cond (c == 45) Minus Unsigned)

abbrev pub past_sign : List ℕ → List ℕ
past_sign chars = cond ((slice_index chars 0 == 43) || (slice_index chars 0 == 45)) (drop 1 chars) chars

-- the value of the digits in front, where what is greater counts as 1,000,000,000
abbrev pub digits : ℕ → List ℕ → Counted
digits value [] = record { value = value; rest = [] }
digits value (c ∷ rest) =
    cond (is_ascii_digit c) (digits (min (value * 10 + digit_value c) 1000000000) rest) (record { value = value; rest = c ∷ rest })

abbrev pub past_digits : List ℕ → List ℕ
past_digits [] = []
past_digits (c ∷ rest) = cond (is_ascii_digit c) (past_digits rest) (c ∷ rest)

abbrev pub past_fraction : List ℕ → List ℕ
past_fraction chars =
    cond ((slice_index chars 0 == 46) && is_ascii_digit (slice_index chars 1)) (past_digits (drop 1 chars)) chars

abbrev pub past_exponent : List ℕ → List ℕ
past_exponent chars =
    cond (not ((slice_index chars 0 == 69) || (slice_index chars 0 == 101))) chars
    (cond (is_ascii_digit (slice_index chars 1)) (past_digits (drop 1 chars))
    (cond (((slice_index chars 1 == 43) || (slice_index chars 1 == 45)) && is_ascii_digit (slice_index chars 2))
    (past_digits (drop 2 chars)) chars))

-- a number, and what is left
pub record Numbered : Type 0 where
  pub number : NumberValue
  pub rest : List ℕ

-- an integer has neither a fraction nor an exponent
abbrev pub numbered : Sign → Counted → List ℕ → Numbered
numbered sign whole rest = record {
  number = record { sign = sign; is_integer = length rest == length whole.rest; value = whole.value };
  rest = rest;
}

-- "consume a number" (section 4.3.12)
unfoldable pub number : List ℕ → Numbered
number chars =
    let whole = digits 0 (past_sign chars) in
    numbered (sign_of (slice_index chars 0)) whole (past_exponent (past_fraction whole.rest))

-- "consume a numeric token" (section 4.3.3)
abbrev pub numeric_of : Numbered → Read
numeric_of n =
    cond (at_name n.rest) (read (Dimension n.number (name n.rest).text) (name n.rest).rest)
    (cond (slice_index n.rest 0 == 37) (read Percentage (drop 1 n.rest)) (read (Number n.number) n.rest))

unfoldable pub numeric : List ℕ → Read
numeric chars = numeric_of (number chars)

-- URLS, of which nothing is kept, since no selector has one

-- what no URL without quotes has: quotes, `(`, a backslash that escapes nothing, and code points that are not printable
abbrev pub is_not_in_url : ℕ → Bool
is_not_in_url c =
    (((c == 34) || (c == 39)) || ((c == 40) || (c == 92)))
    || ((nat_le c 8 || (c == 11)) || ((nat_le 14 c && nat_le c 31) || (c == 127)))

abbrev pub ends_url : List ℕ → Bool
ends_url chars = (length chars == 0) || (slice_index chars 0 == 41)

-- "consume the remnants of a bad url" (section 4.3.14)
abbrev pub bad_url_steps : ℕ → List ℕ → List ℕ
bad_url_steps zero chars = chars
bad_url_steps (suc count) chars =
    cond (ends_url chars) (drop 1 chars)
    (cond (at_escape chars) (bad_url_steps count (escaped (drop 1 chars)).rest) (bad_url_steps count (drop 1 chars)))

unfoldable pub past_bad_url : List ℕ → List ℕ
past_bad_url chars = bad_url_steps (length chars) chars

-- white space may stand at the end alone
abbrev pub url_end : List ℕ → Read
url_end chars = cond (ends_url chars) (read Url (drop 1 chars)) (read BadUrl (past_bad_url chars))

-- "consume a url token" (section 4.3.6), behind the white space in front
abbrev pub url_steps : ℕ → List ℕ → Read
url_steps zero chars = read Url chars
url_steps (suc count) chars =
    cond (ends_url chars) (read Url (drop 1 chars))
    (cond (is_whitespace (slice_index chars 0)) (url_end (past_whitespace chars))
    (cond (at_escape chars) (url_steps count (escaped (drop 1 chars)).rest)
    (cond (is_not_in_url (slice_index chars 0)) (read BadUrl (past_bad_url chars)) (url_steps count (drop 1 chars)))))

unfoldable pub url : List ℕ → Read
url chars = url_steps (length chars) chars

-- TOKENS

-- a name in ASCII letters of any case
abbrev pub is_word : List ℕ → List ℕ → Bool
is_word text word = bytes_eq (map to_ascii_lowercase text) word

abbrev pub is_quote : ℕ → Bool
is_quote c = (c == 34) || (c == 39)

-- "consume an ident-like token" (section 4.3.4); white space in front of a string in `url(` is left as a token
abbrev pub ident_like_of : Taken → Read
ident_like_of n =
    cond (not (slice_index n.rest 0 == 40)) (read (Ident n.text) n.rest)
    (cond (is_word n.text (codes "url") && not (is_quote (slice_index (past_whitespace (drop 1 n.rest)) 0)))
    (url (past_whitespace (drop 1 n.rest))) (read (Function n.text) (drop 1 n.rest)))

unfoldable pub ident_like : List ℕ → Read
ident_like chars = ident_like_of (name chars)

abbrev pub hash_of : Bool → Taken → Read
hash_of is_id n = read (Hash n.text is_id) n.rest

abbrev pub at_keyword_of : Taken → Read
at_keyword_of n = read (AtKeyword n.text) n.rest

-- "consume a token" (section 4.3.1). A colon, a comma, a semicolon and each bracket is a delim token here.
unfoldable pub token : List ℕ → Read
token [] = read End []
token (c ∷ rest) =
    cond (is_whitespace c) (read Space (past_whitespace rest))
    (cond (is_quote c) (string c rest)
    (cond ((c == 35) && (is_in_name (slice_index rest 0) || at_escape rest)) (hash_of (at_name rest) (name rest))
    (cond ((c == 64) && at_name rest) (at_keyword_of (name rest))
    (cond (starts_with nat_eq (c ∷ rest) (codes "<!--")) (read Cdo (drop 3 rest))
    (cond (starts_with nat_eq (c ∷ rest) (codes "-->")) (read Cdc (drop 2 rest))
    (cond (at_number (c ∷ rest)) (numeric (c ∷ rest))
    (cond (at_name (c ∷ rest)) (ident_like (c ∷ rest))
    (read (Delim c) rest))))))))

abbrev pub placed : TokenKind → ℕ → Token
placed kind at = record { kind = kind; at = at }

-- tokens that were read, and what is left
pub record Tokens : Type 0 where
  pub tokens : List Token
  pub rest : List ℕ

-- a token of what is left of a text of so many code points, or none for a comment (section 4.3.2)
abbrev pub one_token : ℕ → List ℕ → Tokens
one_token total chars =
    cond ((slice_index chars 0 == 47) && (slice_index chars 1 == 42)) (record { tokens = []; rest = past_comment (drop 2 chars) })
    (record { tokens = placed (token chars).kind (total - length chars) ∷ []; rest = (token chars).rest })

-- so many steps, with the tokens so far
abbrev pub token_steps : ℕ → ℕ → List Token → List ℕ → List Token
token_steps zero total so_far chars = so_far
token_steps (suc count) total so_far chars =
    cond (length chars == 0) so_far (token_steps count total (so_far ++ (one_token total chars).tokens) (one_token total chars).rest)

-- all tokens of a text, the last of which is its end
unfoldable pub tokens : List ℕ → List Token
tokens chars = token_steps (length chars) (length chars) [] chars ++ placed End (length chars) ∷ []
