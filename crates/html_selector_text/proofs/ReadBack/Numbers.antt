-- An+B that is written is read back.
use Rattle.std.proofs.Common.{◌≡◌, ◌∙◌, ℕ, zero, suc, ◌+◌, ◌-◌, ◌/◌, ◌%◌, ◌<◌, ◌≤◌, Bool, true, false, cond, not, ◌&&◌, ◌||◌, Ok}
use Rattle.std.proofs.Common.{None, List, [], ◌∷◌, ◌++◌, length, refl, sym, ap, subst, arith, append_assoc, inl, inr}
use Rattle.std.specs.Prelude.{◌==◌, slice_index, codes}
use Rattle.std.specs.Char.{is_ascii_digit}
use Rattle.std.proofs.lemmas.Bool.{cases_Bool, cases_lt, eq-eqb, eqb-true, le-ltb, lt-ltb, or_cases}
use Rattle.std.proofs.lemmas.Bool.Decides.{nat_tests}
use Rattle.selectors.specs.declared.selector.Nth.{Nth}
use Rattle.html_selector_text.specs.declared.tokens.Number.{Number as NumberValue}
use Rattle.html_selector_text.specs.declared.tokens.Sign.{Sign}
use Rattle.html_selector_text.specs.declared.tokens.Sign.TheVariants.{Unsigned, Plus, Minus}
use Rattle.html_selector_text.specs.declared.tokens.TokenKind.TheVariants.{Number, Dimension}
use Rattle.html_selector_text.specs.Characters.{is_whitespace, at_name, at_number}
use Rattle.html_selector_text.specs.Nth.{nth, nth_of_ident, nth_behind, suffix_of, b_behind_n, integer_of, places, signed}
use Rattle.html_selector_text.specs.Reading.{is_delim, past_spaces}
use Rattle.html_selector_text.specs.Scanning.{digits, past_fraction, past_exponent, numbered, number, numeric_of, numeric, name, placed}
use Rattle.html_selector_text.specs.Scanning.{token}
use Rattle.html_selector_text.specs.Written.{decimal_in, decimal, identifier, nth_text, step_text}
use Rattle.html_selector_text.specs.Readable.{IsNth}
use Rattle.html_selector_text.proofs.ReadBack.Decimals.{HasDigits, is_digit, some_digits, decimal_read}
use Rattle.html_selector_text.proofs.ReadBack.Identifiers.{identifier_read}
use Rattle.html_selector_text.proofs.ReadBack.Lexing.{tokens_of, token_first}
use Rattle.html_selector_text.proofs.ReadBack.Words.{ends_ident, ends_name}
use Rattle.html_selector_text.proofs.ReadBack.Parts.{IsWord, no_zeros, word_token}

-- NUMBERS

-- a number begins with a digit
record DigitFirst (chars : List ℕ) : Type 0 where
  pub head : ℕ
  pub tail : List ℕ
  pub is : chars ≡ head ∷ tail
  pub digit : is_ascii_digit head ≡ true

digits_first : (count n : ℕ) (rest : List ℕ) → 0 < count → HasDigits count n → DigitFirst (decimal_in count n ++ rest)
digits_first zero n rest some few = absurd (omega arith)
digits_first (suc count) n rest some few = elim (cases_lt n 10) [
  | inl less ↦ rw (lt-ltb n 10 less) (record { head = 48 + n; tail = rest; is = refl; digit = is_digit n less })
  | inr more ↦ rw (le-ltb n 10 more) (subst DigitFirst (sym (append_assoc (decimal_in count (n / 10)) ((48 + n % 10) ∷ []) rest))
      (digits_first count (n / 10) ((48 + n % 10) ∷ rest) (some_digits count (n / 10) few (omega arith)) few))
]

decimal_first : (n : ℕ) (rest : List ℕ) → n ≤ 1000000000 → DigitFirst (decimal n ++ rest)
unfolding decimal
decimal_first n rest small = digits_first 10 n rest (omega arith) (omega arith)

-- what stands behind a number belongs to no number
abbrev stops_at : ℕ → Bool
stops_at c = not (is_ascii_digit c) && not ((c == 46) || ((c == 69) || (c == 101)))

abbrev stops_number : List ℕ → Bool
stops_number [] = true
stops_number (c ∷ rest) = stops_at c

stops_digit : (c : ℕ) → stops_at c ≡ true → is_ascii_digit c ≡ false
stops_digit c h = grind (arith, nat_tests)

stops_fraction : (c : ℕ) → stops_at c ≡ true → (c == 46) ≡ false
stops_fraction c h = grind (arith, nat_tests)

stops_exponent : (c : ℕ) → stops_at c ≡ true → ((c == 69) || (c == 101)) ≡ false
stops_exponent c h = grind (arith, nat_tests)

abbrev whole : Sign → ℕ → NumberValue
whole sign n = record { sign = sign; is_integer = true; value = n }

-- the digits of a number, and what stands behind it
numbered_whole : (sign : Sign) (n : ℕ) (rest : List ℕ) → n ≤ 1000000000 → stops_number rest ≡ true
    → numbered sign (digits 0 (decimal n ++ rest)) (past_exponent (past_fraction (digits 0 (decimal n ++ rest)).rest))
    ≡ record { number = whole sign n; rest = rest }
numbered_whole sign n [] small stops = rw (decimal_read n [] small) refl
numbered_whole sign n (c ∷ rest) small stops =
    let same : (length (c ∷ rest) == length (c ∷ rest)) ≡ true = eq-eqb _ _ refl in
    rw (decimal_read n (c ∷ rest) small) (simp (stops_digit c stops, stops_fraction c stops, stops_exponent c stops, same) refl)

-- tests of a digit
abbrev digit_tests : ℕ → Bool
digit_tests c = (((not (is_whitespace c) && not ((c == 34) || (c == 39))) && (not (c == 35) && not (c == 64)))
    && ((not (60 == c) && not (45 == c)) && not ((c == 43) || (c == 45)))) && (not (c == 46) && not (c == 47))

is_plain : (c : ℕ) → is_ascii_digit c ≡ true → digit_tests c ≡ true
is_plain c h = grind (arith, nat_tests)

d_white : (c : ℕ) → digit_tests c ≡ true → is_whitespace c ≡ false
d_white c h = grind (arith, nat_tests)

d_quote : (c : ℕ) → digit_tests c ≡ true → ((c == 34) || (c == 39)) ≡ false
d_quote c h = grind (arith, nat_tests)

d_hash : (c : ℕ) → digit_tests c ≡ true → (c == 35) ≡ false
d_hash c h = grind (arith, nat_tests)

d_at : (c : ℕ) → digit_tests c ≡ true → (c == 64) ≡ false
d_at c h = grind (arith, nat_tests)

d_less : (c : ℕ) → digit_tests c ≡ true → (60 == c) ≡ false
d_less c h = grind (arith, nat_tests)

d_arrow : (c : ℕ) → digit_tests c ≡ true → (45 == c) ≡ false
d_arrow c h = grind (arith, nat_tests)

d_sign : (c : ℕ) → digit_tests c ≡ true → ((c == 43) || (c == 45)) ≡ false
d_sign c h = grind (arith, nat_tests)

d_plus : (c : ℕ) → digit_tests c ≡ true → (c == 43) ≡ false
d_plus c h = grind (arith, nat_tests)

d_minus : (c : ℕ) → digit_tests c ≡ true → (c == 45) ≡ false
d_minus c h = grind (arith, nat_tests)

d_dot : (c : ℕ) → digit_tests c ≡ true → (c == 46) ≡ false
d_dot c h = grind (arith, nat_tests)

d_slash : (c : ℕ) → digit_tests c ≡ true → (c == 47) ≡ false
d_slash c h = grind (arith, nat_tests)

digit_token : (c : ℕ) (tail : List ℕ) → is_ascii_digit c ≡ true → token (c ∷ tail) ≡ numeric (c ∷ tail)
unfolding token at_number
digit_token c tail digit =
    let h = is_plain c digit in
    simp (d_white c h, d_quote c h, d_hash c h, d_at c h, d_less c h, d_arrow c h, d_plus c h, d_minus c h, d_dot c h, digit) refl

plus_token : (c : ℕ) (tail : List ℕ) → is_ascii_digit c ≡ true → token (43 ∷ c ∷ tail) ≡ numeric (43 ∷ c ∷ tail)
unfolding token at_number
plus_token c tail digit = rw digit refl

minus_token : (c : ℕ) (tail : List ℕ) → is_ascii_digit c ≡ true → token (45 ∷ c ∷ tail) ≡ numeric (45 ∷ c ∷ tail)
unfolding token at_number
minus_token c tail digit = simp (d_arrow c (is_plain c digit), digit) refl

number_is : (c : ℕ) (tail : List ℕ) → is_ascii_digit c ≡ true
    → number (c ∷ tail) ≡ numbered Unsigned (digits 0 (c ∷ tail)) (past_exponent (past_fraction (digits 0 (c ∷ tail)).rest))
unfolding number
number_is c tail digit =
    let h = is_plain c digit in
    simp (d_plus c h, d_minus c h) refl

number_read : (n : ℕ) (rest : List ℕ) → n ≤ 1000000000 → stops_number rest ≡ true
    → number (decimal n ++ rest) ≡ record { number = whole Unsigned n; rest = rest }
number_read n rest small stops =
    let d = decimal_first n rest small in
    subst (λ (x : List ℕ). number x ≡ numbered Unsigned (digits 0 x) (past_exponent (past_fraction (digits 0 x).rest))) (sym d.is)
    (number_is d.head d.tail d.digit) ∙ numbered_whole Unsigned n rest small stops

plus_read : (n : ℕ) (rest : List ℕ) → n ≤ 1000000000 → stops_number rest ≡ true
    → number (43 ∷ (decimal n ++ rest)) ≡ record { number = whole Plus n; rest = rest }
unfolding number
plus_read n rest small stops = numbered_whole Plus n rest small stops

minus_read : (n : ℕ) (rest : List ℕ) → n ≤ 1000000000 → stops_number rest ≡ true
    → number (45 ∷ (decimal n ++ rest)) ≡ record { number = whole Minus n; rest = rest }
unfolding number
minus_read n rest small stops = numbered_whole Minus n rest small stops

-- the token of a number without a unit: a space or a parenthesis stands behind it
abbrev ends_number : List ℕ → Bool
ends_number [] = false
ends_number (c ∷ rest) = (c == 32) || (c == 41)

ends_stops : (rest : List ℕ) → ends_number rest ≡ true → stops_number rest ≡ true
ends_stops [] h = refl
ends_stops (c ∷ rest) h = grind (arith, nat_tests)

no_unit : (rest : List ℕ) → ends_number rest ≡ true → at_name rest ≡ false
unfolding at_name
no_unit [] h = refl
no_unit (c ∷ rest) h = elim (or_cases _ _ h) [
  | inl is ↦ subst (λ (x : ℕ). at_name (x ∷ rest) ≡ false) (sym (eqb-true c 32 is)) refl
  | inr is ↦ subst (λ (x : ℕ). at_name (x ∷ rest) ≡ false) (sym (eqb-true c 41 is)) refl
]

no_percent : (rest : List ℕ) → ends_number rest ≡ true → (slice_index rest 0 == 37) ≡ false
no_percent [] h = refl
no_percent (c ∷ rest) h = grind (arith, nat_tests)

plain_number : (total n : ℕ) (rest : List ℕ) → n ≤ 1000000000 → ends_number rest ≡ true
    → tokens_of total (decimal n ++ rest) ≡ placed (Number (whole Unsigned n)) (total - length (decimal n ++ rest)) ∷ tokens_of total rest
unfolding numeric
plain_number total n rest small ends =
    let d = decimal_first n rest small in
    let same : List ℕ → Type 0 = λ x. tokens_of total x ≡ placed (Number (whole Unsigned n)) (total - length x) ∷ tokens_of total rest in
    let is : number (d.head ∷ d.tail) ≡ record { number = whole Unsigned n; rest = rest } =
    subst (λ (x : List ℕ). number x ≡ record { number = whole Unsigned n; rest = rest }) d.is (number_read n rest small
    (ends_stops rest ends)) in
    subst same (sym d.is) (token_first total d.head d.tail rest (Number (whole Unsigned n)) (d_slash d.head (is_plain d.head d.digit))
    (digit_token d.head d.tail d.digit ∙ (ap numeric_of is ∙ rw (no_unit rest ends, no_percent rest ends) refl)))

plus_number : (total n : ℕ) (rest : List ℕ) → n ≤ 1000000000 → ends_number rest ≡ true
    → tokens_of total (43 ∷ (decimal n ++ rest)) ≡ placed (Number (whole Plus n)) (total - length (43 ∷
    (decimal n ++ rest))) ∷ tokens_of total rest
unfolding numeric
plus_number total n rest small ends =
    let d = decimal_first n rest small in
    let is : token (43 ∷ (decimal n ++ rest)) ≡ numeric (43 ∷ (decimal n ++ rest)) =
    subst (λ (x : List ℕ). token (43 ∷ x) ≡ numeric (43 ∷ x)) (sym d.is) (plus_token d.head d.tail d.digit) in
    token_first total 43 (decimal n ++ rest) rest (Number (whole Plus n)) refl
    (is ∙ (ap numeric_of (plus_read n rest small (ends_stops rest ends)) ∙ rw (no_unit rest ends, no_percent rest ends) refl))

-- the token of a number with the unit `n`
n_word : IsWord (codes "n")
unfolding identifier
n_word = record { is_name = no_zeros (codes "n") refl; as_it_is = refl }

minus_n_word : IsWord (codes "-n")
unfolding identifier
minus_n_word = record { is_name = no_zeros (codes "-n") refl; as_it_is = refl }

n_name : (rest : List ℕ) → ends_ident rest ≡ true → name (110 ∷ rest) ≡ record { text = codes "n"; rest = rest }
n_name rest ends =
    subst (λ (x : List ℕ). name (x ++ rest) ≡ record { text = codes "n"; rest = rest }) n_word.as_it_is
    (identifier_read (codes "n") rest (no_zeros (codes "n") refl) (ends_name rest ends))

with_unit : (total n : ℕ) (rest : List ℕ) → n ≤ 1000000000 → ends_ident rest ≡ true
    → tokens_of total (decimal n ++ 110 ∷ rest)
    ≡ placed (Dimension (whole Unsigned n) (codes "n")) (total - length (decimal n ++ 110 ∷ rest)) ∷ tokens_of total rest
unfolding numeric at_name
with_unit total n rest small ends =
    let d = decimal_first n (110 ∷ rest) small in
    let same : List ℕ → Type 0 =
    λ x. tokens_of total x ≡ placed (Dimension (whole Unsigned n) (codes "n")) (total - length x) ∷ tokens_of total rest in
    let is : number (d.head ∷ d.tail) ≡ record { number = whole Unsigned n; rest = 110 ∷ rest } =
    subst (λ (x : List ℕ). number x ≡ record { number = whole Unsigned n; rest = 110 ∷ rest }) d.is (number_read n
    (110 ∷ rest) small refl) in
    subst same (sym d.is) (token_first total d.head d.tail rest (Dimension (whole Unsigned n) (codes "n"))
    (d_slash d.head (is_plain d.head d.digit)) (digit_token d.head d.tail d.digit ∙ (ap numeric_of is ∙ rw (n_name rest ends) refl)))

minus_with_unit : (total n : ℕ) (rest : List ℕ) → n ≤ 1000000000 → ends_ident rest ≡ true
    → tokens_of total (45 ∷ (decimal n ++ 110 ∷ rest))
    ≡ placed (Dimension (whole Minus n) (codes "n")) (total - length (45 ∷ (decimal n ++ 110 ∷ rest))) ∷ tokens_of total rest
unfolding numeric at_name
minus_with_unit total n rest small ends =
    let d = decimal_first n (110 ∷ rest) small in
    let is : token (45 ∷ (decimal n ++ 110 ∷ rest)) ≡ numeric (45 ∷ (decimal n ++ 110 ∷ rest)) =
    subst (λ (x : List ℕ). token (45 ∷ x) ≡ numeric (45 ∷ x)) (sym d.is) (minus_token d.head d.tail d.digit) in
    token_first total 45 (decimal n ++ 110 ∷ rest) rest (Dimension (whole Minus n) (codes "n")) refl
    (is ∙ (ap numeric_of (minus_read n (110 ∷ rest) small refl) ∙ rw (n_name rest ends) refl))

-- AN+B

-- what stands behind it is no B
pub record EndsNth (total : ℕ) (rest : List ℕ) : Type 0 where
  pub ends : ends_number rest ≡ true
  pub number : integer_of true (past_spaces (tokens_of total rest)) ≡ None
  pub plus : is_delim 43 (past_spaces (tokens_of total rest)) ≡ false
  pub minus : is_delim 45 (past_spaces (tokens_of total rest)) ≡ false

-- an An+B is read of a text
pub record IsNthRead (total : ℕ) (nth_value : Nth) (chars rest : List ℕ) : Type 0 where
  pub spaces : past_spaces (tokens_of total chars) ≡ tokens_of total chars
  pub read : (at : ℕ) → nth at (tokens_of total chars) ≡ Ok (record nth_value { from_end = false }, tokens_of total rest)
  pub fewer : length (tokens_of total rest) ≤ length (tokens_of total chars)

-- B alone
alone_read : (total first : ℕ) (from_end : Bool) (rest : List ℕ) → first ≤ 1000000000 → EndsNth total rest
    → IsNthRead total (record { first = first; step = 0; descends = false; from_end = from_end }) (decimal first ++ rest) rest
unfolding nth places
alone_read total first from_end rest small ends =
    let is = plain_number total first rest small ends.ends in
    record { spaces = rw is refl; read = λ at. rw is refl; fewer = rw is (omega arith) }

-- B behind `n`
b_text : ℕ → List ℕ
b_text first = cond (first == 0) [] (43 ∷ decimal first)

record IsB (total first : ℕ) (chars rest : List ℕ) : Type 0 where
  pub ends : ends_ident chars ≡ true
  pub read : (at : ℕ) → b_behind_n at (tokens_of total chars) ≡ Ok (signed false first, tokens_of total rest)
  pub fewer : length (tokens_of total rest) ≤ length (tokens_of total chars)

ends_one : (c : ℕ) → ((c == 32) || (c == 41)) ≡ true → ends_ident (c ∷ []) ≡ true
ends_one c h = grind (arith, nat_tests)

ends_both : (rest : List ℕ) → ends_number rest ≡ true → ends_ident rest ≡ true
ends_both [] h = refl
ends_both (c ∷ rest) h = ends_one c h

b_read : (total first : ℕ) (rest : List ℕ) → first ≤ 1000000000 → EndsNth total rest → IsB total first (b_text first ++ rest) rest
unfolding b_behind_n b_text
b_read total first rest small ends = elim (cases_Bool (first == 0)) [
  | inl none ↦
      let zero_first : first ≡ 0 = eqb-true _ _ none in
      subst (λ (x : ℕ). IsB total x (b_text x ++ rest) rest) (sym zero_first) (record {
        ends = ends_both rest ends.ends;
        read = λ at. rw (ends.number, ends.plus, ends.minus) refl;
        fewer = omega arith;
      })
  | inr some ↦
      let is = plus_number total first rest small ends.ends in
      rw some (record { ends = refl; read = λ at. rw is refl; fewer = rw is (omega arith) })
]

-- by the step and the direction
one_up : (total first : ℕ) (from_end : Bool) (rest : List ℕ) → first ≤ 1000000000 → EndsNth total rest
    → IsNthRead total (record { first = first; step = 1; descends = false; from_end = from_end }) (110 ∷ (b_text first ++ rest)) rest
unfolding nth nth_of_ident nth_behind suffix_of places
one_up total first from_end rest small ends =
    let b = b_read total first rest small ends in
    let n = word_token total (codes "n") (b_text first ++ rest) n_word b.ends in
    record { spaces = rw n refl; read = λ at. rw (n, b.read at) refl; fewer = rw n (omega (arith, b.fewer)) }

one_down : (total first : ℕ) (from_end : Bool) (rest : List ℕ) → first ≤ 1000000000 → EndsNth total rest
    → IsNthRead total (record { first = first; step = 1; descends = true; from_end = from_end }) (45 ∷ 110 ∷ (b_text first ++ rest)) rest
unfolding nth nth_of_ident nth_behind suffix_of places
one_down total first from_end rest small ends =
    let b = b_read total first rest small ends in
    let n = word_token total (codes "-n") (b_text first ++ rest) minus_n_word b.ends in
    record { spaces = rw n refl; read = λ at. rw (n, b.read at) refl; fewer = rw n (omega (arith, b.fewer)) }

steps_up : (total first step : ℕ) (from_end : Bool) (rest : List ℕ) → first ≤ 1000000000 → step ≤ 1000000000 → (step == 0) ≡ false
    → EndsNth total rest → IsNthRead total (record { first = first; step = step; descends = false; from_end = from_end })
    (decimal step ++ 110 ∷ (b_text first ++ rest)) rest
unfolding nth nth_behind suffix_of places
steps_up total first step from_end rest small few some ends =
    let b = b_read total first rest small ends in
    let n = with_unit total step (b_text first ++ rest) few b.ends in
    record { spaces = rw n refl; read = λ at. rw (n, b.read at, some) refl; fewer = rw n (omega (arith, b.fewer)) }

steps_down : (total first step : ℕ) (from_end : Bool) (rest : List ℕ) → first ≤ 1000000000 → step ≤ 1000000000 → (step == 0) ≡ false
    → EndsNth total rest → IsNthRead total (record { first = first; step = step; descends = true; from_end = from_end })
    (45 ∷ (decimal step ++ 110 ∷ (b_text first ++ rest))) rest
unfolding nth nth_behind suffix_of places
steps_down total first step from_end rest small few some ends =
    let b = b_read total first rest small ends in
    let n = minus_with_unit total step (b_text first ++ rest) few b.ends in
    record { spaces = rw n refl; read = λ at. rw (n, b.read at, some) refl; fewer = rw n (omega (arith, b.fewer)) }

-- the text of a step, and what stands behind it
step_behind : (digits b rest : List ℕ) → (([] ++ (digits ++ 110 ∷ [])) ++ b) ++ rest ≡ digits ++ 110 ∷ (b ++ rest)
step_behind digits b rest = append_assoc (digits ++ 110 ∷ []) b rest ∙ append_assoc digits (110 ∷ []) (b ++ rest)

stepping : (total first step : ℕ) (descends from_end : Bool) (rest : List ℕ) → first ≤ 1000000000 → step ≤ 1000000000 → (step == 0) ≡ false
    → EndsNth total rest → IsNthRead total (record { first = first; step = step; descends = descends; from_end = from_end })
    ((step_text (record { first = first; step = step; descends = descends; from_end = from_end }) ++ b_text first) ++ rest) rest
stepping total first step false from_end rest small few some ends = elim (cases_Bool (step == 1)) [
  | inl is ↦ subst (λ (x : ℕ). IsNthRead total (record { first = first; step = x; descends = false; from_end = from_end })
      ((step_text (record { first = first; step = x; descends = false; from_end = from_end }) ++ b_text first) ++ rest) rest)
      (sym (eqb-true step 1 is)) (one_up total first from_end rest small ends)
  | inr other ↦ rw other (subst (λ (x : List ℕ). IsNthRead total
      (record { first = first; step = step; descends = false; from_end = from_end }) x rest)
      (sym (step_behind (decimal step) (b_text first) rest)) (steps_up total first step from_end rest small few some ends))
]
stepping total first step true from_end rest small few some ends = elim (cases_Bool (step == 1)) [
  | inl is ↦ subst (λ (x : ℕ). IsNthRead total (record { first = first; step = x; descends = true; from_end = from_end })
      ((step_text (record { first = first; step = x; descends = true; from_end = from_end }) ++ b_text first) ++ rest) rest)
      (sym (eqb-true step 1 is)) (one_down total first from_end rest small ends)
  | inr other ↦ rw other (subst (λ (x : List ℕ). IsNthRead total
      (record { first = first; step = step; descends = true; from_end = from_end }) (45 ∷ x) rest)
      (sym (step_behind (decimal step) (b_text first) rest)) (steps_down total first step from_end rest small few some ends))
]

nth_fields : (total first step : ℕ) (descends from_end : Bool) (rest : List ℕ) → first ≤ 1000000000 → step ≤ 1000000000
    → (step ≡ 0 → descends ≡ false) → EndsNth total rest
    → IsNthRead total (record { first = first; step = step; descends = descends; from_end = from_end })
    (nth_text (record { first = first; step = step; descends = descends; from_end = from_end }) ++ rest) rest
unfolding nth_text b_text
nth_fields total first step descends from_end rest small few rises ends = elim (cases_Bool (step == 0)) [
  | inl is ↦
      let none : step ≡ 0 = eqb-true step 0 is in
      subst (λ (x : ℕ). IsNthRead total (record { first = first; step = x; descends = descends; from_end = from_end })
      (nth_text (record { first = first; step = x; descends = descends; from_end = from_end }) ++ rest) rest) (sym none)
      (subst (λ (x : Bool). IsNthRead total (record { first = first; step = 0; descends = x; from_end = from_end })
      (nth_text (record { first = first; step = 0; descends = x; from_end = from_end }) ++ rest) rest) (sym (rises none))
      (alone_read total first from_end rest small ends))
  | inr some ↦ rw some (stepping total first step descends from_end rest small few some ends)
]

pub nth_read : (total : ℕ) (value : Nth) (rest : List ℕ) → IsNth value → EndsNth total rest
    → IsNthRead total value (nth_text value ++ rest) rest
nth_read total value rest is ends =
    nth_fields total value.first value.step value.descends value.from_end rest is.first is.step is.rises ends
