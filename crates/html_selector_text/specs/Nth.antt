-- An+B (CSS Syntax Level 3, section 6.2), as a grammar of tokens.
use Rattle.std.specs.Prelude.{ℕ, Bool, true, false, cond, not, ◌&&◌, ◌||◌, ◌≡◌, ◌==◌, ◌+◌, ◌*◌, ◌-◌, ◌%◌, Option, Some, None, Result, Ok, Err}
use Rattle.std.specs.Prelude.{List, [], ◌∷◌, drop, length, slice_index, codes}
use Rattle.selectors.specs.declared.selector.Nth.{Nth}
use Rattle.html_selector_text.specs.declared.fault.SyntaxFault.TheVariants.{NoNth}
use Rattle.html_selector_text.specs.declared.nth.Suffix.{Suffix}
use Rattle.html_selector_text.specs.declared.nth.Suffix.TheVariants.{N, NDash, NDashDigits, Other}
use Rattle.html_selector_text.specs.declared.nth.Term.{Term}
use Rattle.html_selector_text.specs.declared.tokens.Number.{Number as NumberValue}
use Rattle.html_selector_text.specs.declared.tokens.Sign.{Sign}
use Rattle.html_selector_text.specs.declared.tokens.Sign.TheVariants.{Unsigned, Minus}
use Rattle.html_selector_text.specs.declared.tokens.Token.{Token}
use Rattle.html_selector_text.specs.declared.tokens.TokenKind.{TokenKind}
use Rattle.html_selector_text.specs.declared.tokens.TokenKind.TheVariants.{Ident, Number, Dimension}
use Rattle.html_selector_text.specs.Results.{Wrong, ◌>>=◌}
use Rattle.html_selector_text.specs.Reading.{is_delim, past_spaces, ident_of}
use Rattle.html_selector_text.specs.Scanning.{Counted, digits, is_word}

abbrev pub nth_from : ℕ → ℕ → Bool → Nth
nth_from first step descends = record { first = first; step = step; descends = descends; from_end = false }

abbrev pub signed : Bool → ℕ → Term
signed is_negative value = record { is_negative = is_negative; value = value }

-- A·n + B for the numbers n from 0, as numbers counted from 1: B alone; from B down; or from B up, where a negative B is raised by A as
-- often as it takes
unfoldable pub places : Term → Term → Nth
places a b =
    cond (a.value == 0) (nth_from (cond b.is_negative 0 b.value) 0 false)
    (cond a.is_negative (cond b.is_negative (nth_from 0 0 false) (nth_from b.value a.value true))
    (nth_from (cond b.is_negative ((a.value - b.value % a.value) % a.value) b.value) a.value false))

-- a number of siblings is the first one, or a number of steps after it, or before it where they descend
abbrev pub IsPlace : Nth → ℕ → Type 0
IsPlace nth k = (m : ℕ) × (cond nth.descends (k + m * nth.step) k ≡ cond nth.descends nth.first (nth.first + m * nth.step))

-- a number of siblings is A·n + B for a number n from 0, each side with what is added to it
abbrev pub IsSum : Term → Term → ℕ → Type 0
IsSum a b k = (n : ℕ) × ((k + cond a.is_negative (a.value * n) 0) + cond b.is_negative b.value 0
    ≡ cond a.is_negative 0 (a.value * n) + cond b.is_negative 0 b.value)

abbrev pub is_minus : Sign → Bool
is_minus Minus = true
is_minus _ = false

abbrev pub is_signed : Sign → Bool
is_signed Unsigned = false
is_signed _ = true

abbrev pub term_of : NumberValue → Term
term_of number = signed (is_minus number.sign) number.value

-- the integer that stands first, with a sign (<signed-integer>) or without one (<signless-integer>)
abbrev pub integer_kind : Bool → TokenKind → Option Term
integer_kind with_sign (Number number) =
    cond (number.is_integer && cond with_sign (is_signed number.sign) (not (is_signed number.sign))) (Some (term_of number)) None
integer_kind with_sign _ = None

abbrev pub integer_of : Bool → List Token → Option Term
integer_of with_sign [] = None
integer_of with_sign (t ∷ ts) = integer_kind with_sign t.kind

-- a term, and what is left
abbrev pub TermRead : Type 0
TermRead = Result (Term × List Token) Wrong

abbrev pub no_nth : {A : Type 0} → ℕ → Result A Wrong
no_nth at = Err (record { fault = NoNth; at = at })

-- B behind a sign of its own, which stands before a <signless-integer>
abbrev pub signless : ℕ → Bool → Option Term → List Token → TermRead
signless at is_negative None rest = no_nth at
signless at is_negative (Some b) rest = Ok (signed is_negative b.value, drop 1 rest)

unfoldable pub b_behind_sign : ℕ → Bool → List Token → TermRead
b_behind_sign at is_negative tokens =
    signless at is_negative (integer_of false (past_spaces tokens)) (past_spaces tokens)

abbrev pub b_signed : ℕ → Option Term → List Token → List Token → TermRead
b_signed at (Some b) next tokens = Ok (b, drop 1 next)
b_signed at None next tokens =
    cond (is_delim 43 next) (b_behind_sign at false (drop 1 next))
    (cond (is_delim 45 next) (b_behind_sign at true (drop 1 next)) (Ok (signed false 0, tokens)))

-- B behind `n`: a <signed-integer>, a sign and a <signless-integer>, or nothing
unfoldable pub b_behind_n : ℕ → List Token → TermRead
b_behind_n at tokens = b_signed at (integer_of true (past_spaces tokens)) (past_spaces tokens) tokens

-- what `n` is written with
abbrev pub digits_suffix : Counted → Suffix
digits_suffix counted = cond (length counted.rest == 0) (NDashDigits counted.value) Other

unfoldable pub suffix_of : List ℕ → Suffix
suffix_of word =
    cond (not ((slice_index word 0 == 110) || (slice_index word 0 == 78))) Other
    (cond (length word == 1) N
    (cond (not (slice_index word 1 == 45)) Other
    (cond (length word == 2) NDash (digits_suffix (digits 0 (drop 2 word))))))

abbrev pub b_behind : ℕ → Suffix → List Token → TermRead
b_behind at N tokens = b_behind_n at tokens
b_behind at NDash tokens = b_behind_sign at true tokens
b_behind at (NDashDigits value) tokens = Ok (signed true value, tokens)
b_behind at Other tokens = no_nth at

-- numbers of siblings, and what is left
abbrev pub NthRead : Type 0
NthRead = Result (Nth × List Token) Wrong

-- A is given, and `n` begins this word
unfoldable pub nth_behind : ℕ → Term → List ℕ → List Token → NthRead
nth_behind at a word tokens = do
  b ← b_behind at (suffix_of word) tokens
  Ok (places a b.0, b.1)

-- A without digits is 1
unfoldable pub nth_of_ident : ℕ → List ℕ → List Token → NthRead
nth_of_ident at name tokens =
    cond (is_word name (codes "odd")) (Ok (places (signed false 2) (signed false 1), tokens))
    (cond (is_word name (codes "even")) (Ok (places (signed false 2) (signed false 0), tokens))
    (cond (slice_index name 0 == 45) (nth_behind at (signed true 1) (drop 1 name) tokens) (nth_behind at (signed false 1) name tokens)))

abbrev pub nth_behind_plus : ℕ → Option (List ℕ) → List Token → NthRead
nth_behind_plus at None tokens = no_nth at
nth_behind_plus at (Some name) tokens = nth_behind at (signed false 1) name (drop 1 tokens)

abbrev pub nth_of_kind : ℕ → TokenKind → List Token → NthRead
nth_of_kind at (Ident name) tokens = nth_of_ident at name (drop 1 tokens)
nth_of_kind at (Number number) tokens = cond number.is_integer (Ok (places (signed false 0) (term_of number), drop 1 tokens)) (no_nth at)
nth_of_kind at (Dimension number unit) tokens = cond number.is_integer (nth_behind at (term_of number) unit (drop 1 tokens)) (no_nth at)
nth_of_kind at _ tokens = cond (is_delim 43 tokens) (nth_behind_plus at (ident_of (drop 1 tokens)) (drop 1 tokens)) (no_nth at)

-- <an-plus-b>; the error is told at a place that is given
unfoldable pub nth : ℕ → List Token → NthRead
nth at [] = no_nth at
nth at (t ∷ ts) = nth_of_kind at t.kind (t ∷ ts)
