-- A number's digits are a word, which is read as the number.
use Rattle.std.proofs.Common.{◌≡◌, ◌∙◌, ℕ, ◌+◌, ◌*◌, ◌/◌, ◌%◌, ◌^◌, ◌≤◌, ◌<◌, true, List, [], ◌∷◌, ◌++◌}
use Rattle.std.proofs.Common.{None, Some, ap, arith, length, refl}
use Rattle.std.specs.Prelude.{◌&&◌, ◌==◌, cond, nat_le, not}
use Rattle.std.specs.Char.{is_ascii_digit}
use Rattle.std.specs.Fmt.{decimal}
use Rattle.std.specs.List.{fold, list_all}
use Rattle.std.proofs.lemmas.Bool.{and_from, and_parts}
use Rattle.std.specs.Str.{chars}
use Rattle.std.proofs.lemmas.Fmt.{IsAscii-decimal, decimal_by_steps, decimal_nonempty}
use Rattle.std.proofs.lemmas.List.Folds.{list_all-append}
use Rattle.std.proofs.lemmas.List.Sums.{fold-append}
use Rattle.std.proofs.lemmas.Str.{chars-IsAscii}
use Rattle.html_clean.specs.Values.{greatest, with_digit}
use Rattle.html_policy_text.specs.Rules.{number_of}
use Rattle.html_policy_text.specs.Written.{is_solid, is_word}

-- the digits of a number, read from the left, are that number
abbrev IsRead : ℕ → List ℕ → Type 0
IsRead n ds = (list_all is_ascii_digit ds ≡ true) × (n ≤ greatest → fold with_digit 0 ds ≡ n)

pub is-digit : (n : ℕ) → n < 10 → is_ascii_digit (48 + n) ≡ true
is-digit n h = grind arith

next-digit : (n d k : ℕ) → n * 10 + d ≡ k → k ≤ greatest → with_digit n (48 + d) ≡ k
next-digit n d k e h = omega arith

one-digit : (n : ℕ) → n < 10 → IsRead n ((48 + n) ∷ [])
one-digit n h = (and_from (is_ascii_digit (48 + n)) true (is-digit n h) refl, λ k. next-digit 0 n n (omega arith) k)

pub parts-of : (n : ℕ) → ((n / 10) * 10 + n % 10 ≡ n) × (n % 10 < 10)
parts-of n = (omega arith, omega arith)

one-more : (n : ℕ) (ds : List ℕ) → 10 ≤ n → IsRead (n / 10) ds → IsRead n (ds ++ (48 + n % 10) ∷ [])
one-more n ds h read =
    let last = 48 + n % 10 in
    let parts = parts-of n in (
      list_all-append is_ascii_digit ds (last ∷ [])
          ∙ and_from (list_all is_ascii_digit ds) (is_ascii_digit last && true) read.0
          (and_from (is_ascii_digit last) true (is-digit (n % 10) parts.1) refl),
      λ k. fold-append with_digit 0 ds (last ∷ [])
          ∙ (ap (λ m. with_digit m last) (read.1 (omega (arith, k))) ∙ next-digit (n / 10) (n % 10) n parts.0 k),
    )

digits-read : (n : ℕ) → nat_le n greatest ≡ true → IsRead n (decimal n)
digits-read n h = decimal_by_steps IsRead one-digit one-more n (grind arith)

-- a number is read from its digits
pub number-back : (n : ℕ) → nat_le n greatest ≡ true → number_of (decimal n) ≡ Some n
number-back n h =
    let read = digits-read n h in
    ap (λ b. cond b (Some (fold with_digit 0 (decimal n))) None) read.0 ∙ ap Some (read.1 (grind arith))

pub digit-solid : (c : ℕ) → is_ascii_digit c ≡ true → is_solid c ≡ true
digit-solid c h = grind arith

pub digits-solid : (cs : List ℕ) → list_all is_ascii_digit cs ≡ true → list_all is_solid cs ≡ true
digits-solid [] h = refl
digits-solid (c ∷ cs) h =
    let both = and_parts (is_ascii_digit c) (list_all is_ascii_digit cs) h in
    and_from (is_solid c) (list_all is_solid cs) (digit-solid c both.0) (digits-solid cs both.1)

pub some-length : (cs : List ℕ) → 0 < length cs → not (length cs == 0) ≡ true
some-length cs h = grind arith

-- the digits of a number are a word of a line
pub decimal-is : (n : ℕ) → nat_le n greatest ≡ true → is_word (decimal n) ≡ true
decimal-is n h =
    and_from (not (length (decimal n) == 0)) (list_all is_solid (decimal n)) (some-length (decimal n) (decimal_nonempty n (grind arith)))
    (digits-solid (decimal n) (digits-read n h).0)

-- the characters of a number's digits are the digits
pub digits-chars : (n : ℕ) (bytes : List ℕ) → n < 2 ^ 64 → bytes ≡ decimal n → chars bytes ≡ decimal n
digits-chars n bytes h is = ap chars is ∙ chars-IsAscii (decimal n) (IsAscii-decimal n h)
