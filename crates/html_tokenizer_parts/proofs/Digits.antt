-- Numbers of references, digit by digit.
use Rattle.std.proofs.Common.{◌≡◌, ◌∙◌, ℕ, ◌<◌, ◌≤◌, ◌+◌, ◌*◌, min, Bool, true, false, List, [], ◌∷◌, ◌++◌, length, get_or}
use Rattle.std.proofs.Common.{take, refl, sym, ap, arith, ⊎_elim}
use Rattle.std.specs.Char.{IsScalar}
use Rattle.std.proofs.Math.Nat.{min-eq_left, min-eq_right}
use Rattle.std.proofs.lemmas.Bool.{cases_lt}
use Rattle.std.proofs.lemmas.Bool.Decides.{nat_tests}
use Rattle.std.proofs.lemmas.List.{take_more}
use Rattle.html_tokens.specs.Reference.{digit, number, number_after, numbered, is_no_character, replaced, replacements}
use Rattle.html_tokenizer_parts.specs.CharRefs.{base_of}

number_after-push : (base n : ℕ) (ds : List ℕ) (d : ℕ) → number_after base n (ds ++ d ∷ []) ≡ number_after base n ds * base + digit d
number_after-push base n [] d = refl
number_after-push base n (c ∷ ds) d = number_after-push base (n * base + digit c) ds d

capped : (hex : Bool) (n d : ℕ) → min (min n 0x110000 * base_of hex + d) 0x110000 ≡ min (n * base_of hex + d) 0x110000
capped true n d = omega arith
capped false n d = omega arith

number-pushed : (hex : Bool) (digits : List ℕ) (k : ℕ) → k < length digits → number (base_of hex)
    (take (k + 1) digits) ≡ number (base_of hex) (take k digits) * base_of hex + digit (get_or digits k 0)
number-pushed hex digits k l = ap (number (base_of hex)) (take_more digits k 0 l)
    ∙ number_after-push (base_of hex) 0 (take k digits) (get_or digits k 0)

-- the number of one digit more
pub number-more : (hex : Bool) (digits : List ℕ) (k value base d next : ℕ) → k < length digits → base ≡ base_of hex
    → value ≡ min (number (base_of hex) (take k digits)) 0x110000
    → d ≡ digit (get_or digits k 0) → next ≡ min (value * base + d) 0x110000
    → next ≡ min (number (base_of hex) (take (k + 1) digits)) 0x110000
number-more hex digits k value base d next l b e f h =
    h ∙ rw (b, e, f, number-pushed hex digits k l) (capped hex (number (base_of hex) (take k digits)) (digit (get_or digits k 0)))

no_character-above : (n : ℕ) → 0x110000 ≤ n → is_no_character n ≡ true
no_character-above n l = grind (arith, nat_tests)

numbered-above : (n : ℕ) → 0x110000 ≤ n → numbered n ≡ 0xFFFD
numbered-above n l = rw (no_character-above n l) refl

-- numbers above all characters name none
pub numbered-capped : (n : ℕ) → numbered (min n 0x110000) ≡ numbered n
numbered-capped n =
    ⊎_elim
    (λ (l : n < 0x110000). let within : n ≤ 0x110000 = omega arith in ap numbered (min-eq_left within))
    (λ (l : 0x110000 ≤ n). ap numbered (min-eq_right l) ∙ sym (numbered-above n l))
    (cases_lt n 0x110000)

-- a scalar value that is not 0 is a number of a character
is_character : (n : ℕ) → IsScalar n → (n ≡ 0 → ⊥) → is_no_character n ≡ false
is_character n scalar some = grind (arith, nat_tests)

-- a number of a character names it, or what stands in its place
pub numbered-some : (n c named : ℕ) → IsScalar n → c ≡ n → (c ≡ 0 → ⊥) → named ≡ replaced c replacements → named ≡ numbered n
numbered-some n c named scalar same some is =
    let known : is_no_character n ≡ false = is_character n scalar (λ e. some (same ∙ e)) in
    is ∙ ap (λ (k : ℕ). replaced k replacements) same ∙ rw known refl

-- what is no scalar value is a number of no character
no_character : (n : ℕ) → (IsScalar n → ⊥) → is_no_character n ≡ true
no_character n none = grind (arith, nat_tests)

-- a number of no character names U+FFFD
pub numbered-none : (n : ℕ) → (IsScalar n → ⊥) → 0xFFFD ≡ numbered n
numbered-none n none = rw (no_character n none) refl

-- so does 0
pub numbered-zero : (n : ℕ) → n ≡ 0 → 0xFFFD ≡ numbered n
numbered-zero n zero = rw zero refl
