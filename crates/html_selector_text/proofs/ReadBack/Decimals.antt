-- Numbers that are written are read as the same numbers.
use Rattle.std.proofs.Common.{◌≡◌, ◌∙◌, ℕ, zero, suc, ◌+◌, ◌*◌, ◌/◌, ◌%◌, ◌<◌, ◌≤◌, true}
use Rattle.std.proofs.Common.{List, [], ◌∷◌, ◌++◌, refl, ap, arith, append_assoc, inl, inr}
use Rattle.std.specs.Prelude.{min}
use Rattle.std.specs.Char.{is_ascii_digit, digit_value}
use Rattle.std.proofs.lemmas.Bool.{cases_lt, le-ltb}
use Rattle.std.proofs.lemmas.Bool.Decides.{nat_tests, Decides-ltb}
use Rattle.html_selector_text.specs.Scanning.{digits}
use Rattle.html_selector_text.specs.Written.{decimal_in, decimal}

-- a number has at most so many digits
abbrev pub HasDigits : ℕ → ℕ → Type 0
HasDigits zero n = n < 1
HasDigits (suc count) n = HasDigits count (n / 10)

pub is_digit : (d : ℕ) → d < 10 → is_ascii_digit (48 + d) ≡ true
is_digit d less = grind (arith, nat_tests)

digit_is : (d : ℕ) → d < 10 → digit_value (48 + d) ≡ d
digit_is d less = grind (arith, nat_tests)

-- one digit more
digit_read : (v d : ℕ) (rest : List ℕ) → d < 10 → v * 10 + d ≤ 1000000000 → digits v ((48 + d) ∷ rest) ≡ digits (v * 10 + d) rest
digit_read v d rest less small =
    let capped : min (v * 10 + d) 1000000000 ≡ v * 10 + d = grind (arith, nat_tests) in
    rw (is_digit d less, digit_is d less, capped) refl

pub some_digits : (count n : ℕ) → HasDigits count n → 1 ≤ n → 0 < count
some_digits zero n few some = absurd (omega arith)
some_digits (suc count) n few some = omega arith

-- the digits of a number
digits_read : (count n : ℕ) (rest : List ℕ) → 0 < count → HasDigits count n → n ≤ 1000000000
    → digits 0 (decimal_in count n ++ rest) ≡ digits n rest
digits_read zero n rest some few small = absurd (omega arith)
digits_read (suc count) n rest some few small = elim (cases_lt n 10) [
  | inl less ↦ rw ((Decides-ltb n 10).1 less) (digit_read 0 n rest less (omega arith) ∙ ap (λ (v : ℕ). digits v rest) (omega arith))
  | inr more ↦
      let low : n % 10 < 10 = omega arith in
      let whole : (n / 10) * 10 + n % 10 ≡ n = omega arith in
      rw (le-ltb n 10 more) (ap (digits 0) (append_assoc (decimal_in count (n / 10)) ((48 + n % 10) ∷ []) rest)
      ∙ (digits_read count (n / 10) ((48 + n % 10) ∷ rest)
      (some_digits count (n / 10) few (omega arith)) few (omega arith)
      ∙ (digit_read (n / 10) (n % 10) rest low (omega arith) ∙ ap (λ (v : ℕ). digits v rest) whole)))
]

-- a number that is written is read as the same number, with the digits that follow
pub decimal_read : (n : ℕ) (rest : List ℕ) → n ≤ 1000000000 → digits 0 (decimal n ++ rest) ≡ digits n rest
unfolding decimal
decimal_read n rest small = digits_read 10 n rest (omega arith) (omega arith) small
