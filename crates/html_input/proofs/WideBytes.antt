-- Characters of UTF-8, by their bytes.
use Rattle.std.proofs.Common.{◌≡◌, ◌∙◌, ℕ, ◌+◌, ◌-◌, ◌*◌, ◌/◌, ◌%◌, ◌<◌, ◌≤◌, false, List, [], ◌∷◌, length, take, drop}
use Rattle.std.proofs.Common.{suc, refl, sym, subst, ap, arith, inl, inr}
use Rattle.std.specs.Prelude.{IsUtf8, encode_utf8, slice_index}
use Rattle.std.specs.Char.{IsScalar}
use Rattle.std.specs.Str.{IsAscii}
use Rattle.std.proofs.Math.Seq.{take-add, drop-cons}
use Rattle.std.proofs.lemmas.Bool.{cases_eq, cases_lt}
use Rattle.std.proofs.lemmas.Bool.Decides.{nat_tests}
use Rattle.std.proofs.lemmas.List.{drop-drop, get_or_past, length-drop, take-take, take_rest}
use Rattle.std.proofs.lemmas.Simd.{get_or-chunk, length-chunk}
use Rattle.std.proofs.lemmas.Str.{IsUtf8-append, IsUtf8-encode, IsUtf8-from_ascii}
use lib.Utf8.{low_scalar}
use Rattle.html_input.specs.Wide.{IsContinuation, IsSecond, is_wide}
use Rattle.html_input.proofs.Utf8.{encode-two, encode-three, encode-four}

pub not_wide : (b : ℕ) → is_wide b ≡ false → b < 128
not_wide b narrow = grind (arith, nat_tests)

-- text after text
pub text-more : (bytes : List ℕ) (at count : ℕ) → IsUtf8 (take at bytes) → IsUtf8 (take count (drop at bytes))
    → IsUtf8 (take (at + count) bytes)
text-more bytes at count before more =
    subst IsUtf8 (sym (take-add at count bytes)) (IsUtf8-append (take at bytes) (take count (drop at bytes)) before more)

-- a run of ASCII is text
pub ascii-text : (bytes : List ℕ) (at count : ℕ) → at + count ≤ length bytes
    → ((k : ℕ) → at ≤ k → k < at + count → slice_index bytes k < 128) → IsUtf8 (take count (drop at bytes))
ascii-text bytes at count within low = IsUtf8-from_ascii (take count (drop at bytes)) each
  where
    each : IsAscii (take count (drop at bytes))
    each i = elim (cases_lt i count) [
      | inl inside ↦ rw (get_or-chunk at count bytes i 0 inside) (low (at + i) (omega arith) (omega arith))
      | inr past ↦ rw (get_or_past (take count (drop at bytes)) i 0 (omega (arith, length-chunk at count bytes within))) (omega arith)
    ]

high_scalar : (c : ℕ) → 57344 ≤ c → c < 1114112 → IsScalar c
high_scalar c low high = grind (arith, nat_tests)

-- two bytes that are a character
pub IsUtf8-two : (x y : ℕ) → 194 ≤ x → x < 224 → IsContinuation y → IsUtf8 (x ∷ y ∷ [])
IsUtf8-two x y low high second =
    let y_low = second.low in
    let y_high = second.high in
    let c : ℕ = (x - 192) * 64 + (y - 128) in
    let first : 192 + c / 64 ≡ x = omega arith in
    let last : 128 + c % 64 ≡ y = omega arith in
    let e : encode_utf8 c ≡ x ∷ y ∷ [] = encode-two c (omega arith) (omega arith) ∙ (rw (first, last) refl) in
    subst IsUtf8 e (IsUtf8-encode c (low_scalar c (omega arith)))

-- three, by what each byte adds to its least value
three-text-parts : (a b d : ℕ) → a < 16 → b < 64 → d < 64 → (a ≡ 0 → 32 ≤ b) → (a ≡ 13 → b < 32)
    → IsUtf8 ((224 + a) ∷ (128 + b) ∷ (128 + d) ∷ [])
three-text-parts a b d a_high b_high d_high least surrogate =
    let c : ℕ = a * 4096 + b * 64 + d in
    let first : c / 4096 ≡ a = omega arith in
    let second : c / 64 % 64 ≡ b = omega arith in
    let third : c % 64 ≡ d = omega arith in
    let low : 2048 ≤ c = elim (cases_eq a 0) [ inl none ↦ (let more = least none in omega arith) | inr some ↦ omega arith ] in
    let valid : IsScalar c = elim (cases_lt c 55296) [
      | inl below ↦ low_scalar c below
      | inr above ↦ high_scalar c
          (elim (cases_eq a 13) [ inl is ↦ (let under = surrogate is in omega arith) | inr other ↦ omega arith ]) (omega arith)
    ] in
    let e : encode_utf8 c ≡ (224 + a) ∷ (128 + b) ∷ (128 + d) ∷ [] = encode-three c low (omega arith) ∙ (rw (first, second, third) refl) in
    subst IsUtf8 e (IsUtf8-encode c valid)

-- four
four-text-parts : (a b d f : ℕ) → a < 5 → b < 64 → d < 64 → f < 64 → (a ≡ 0 → 16 ≤ b) → (a ≡ 4 → b < 16)
    → IsUtf8 ((240 + a) ∷ (128 + b) ∷ (128 + d) ∷ (128 + f) ∷ [])
four-text-parts a b d f a_high b_high d_high f_high least most =
    let c : ℕ = a * 262144 + b * 4096 + d * 64 + f in
    let first : c / 262144 ≡ a = omega arith in
    let second : c / 4096 % 64 ≡ b = omega arith in
    let third : c / 64 % 64 ≡ d = omega arith in
    let fourth : c % 64 ≡ f = omega arith in
    let low : 65536 ≤ c = elim (cases_eq a 0) [ inl none ↦ (let more = least none in omega arith) | inr some ↦ omega arith ] in
    let high : c < 1114112 = elim (cases_eq a 4) [ inl is ↦ (let under = most is in omega arith) | inr other ↦ omega arith ] in
    let e : encode_utf8 c ≡ (240 + a) ∷ (128 + b) ∷ (128 + d) ∷ (128 + f) ∷ [] =
    encode-four c low ∙ (rw (first, second, third, fourth) refl) in
    subst IsUtf8 e (IsUtf8-encode c (high_scalar c (omega arith) high))

-- what a second byte may be
record SecondOf (x y : ℕ) : Type 0 where
  low : 128 ≤ y
  high : y < 192
  three_low : x ≡ 224 → 160 ≤ y
  three_high : x ≡ 237 → y < 160
  four_low : x ≡ 240 → 144 ≤ y
  four_high : x ≡ 244 → y < 144

second_of : (x y : ℕ) → IsSecond x y → SecondOf x y
second_of x y second =
    let low = second.low in
    let high = second.high in
    record {
      low = grind (arith, nat_tests);
      high = grind (arith, nat_tests);
      three_low = λ e. grind (arith, nat_tests);
      three_high = λ e. grind (arith, nat_tests);
      four_low = λ e. grind (arith, nat_tests);
      four_high = λ e. grind (arith, nat_tests);
    }

pub IsUtf8-three : (x y z : ℕ) → 224 ≤ x → x < 240 → IsSecond x y → IsContinuation z → IsUtf8 (x ∷ y ∷ z ∷ [])
IsUtf8-three x y z low high second third =
    let is = second_of x y second in
    let a : 224 + (x - 224) ≡ x = omega arith in
    let b : 128 + (y - 128) ≡ y = let k = is.low in omega arith in
    let d : 128 + (z - 128) ≡ z = let k = third.low in omega arith in
    let parts = three-text-parts (x - 224) (y - 128) (z - 128) (omega arith) (let k = is.high in omega arith)
    (let k = third.high in omega arith)
    (λ none. let k = is.three_low (omega arith) in omega arith) (λ is_13. let k = is.three_high (omega arith) in omega arith) in
    subst (λ (t : ℕ). IsUtf8 (t ∷ y ∷ z ∷ [])) a
    (subst (λ (t : ℕ). IsUtf8 ((224 + (x - 224)) ∷ t ∷ z ∷ [])) b
    (subst (λ (t : ℕ). IsUtf8 ((224 + (x - 224)) ∷ (128 + (y - 128)) ∷ t ∷ [])) d parts))

pub IsUtf8-four : (x y z w : ℕ) → 240 ≤ x → x < 245 → IsSecond x y → IsContinuation z → IsContinuation w → IsUtf8 (x ∷ y ∷ z ∷ w ∷ [])
IsUtf8-four x y z w low high second third fourth =
    let is = second_of x y second in
    let a : 240 + (x - 240) ≡ x = omega arith in
    let b : 128 + (y - 128) ≡ y = let k = is.low in omega arith in
    let d : 128 + (z - 128) ≡ z = let k = third.low in omega arith in
    let f : 128 + (w - 128) ≡ w = let k = fourth.low in omega arith in
    let parts = four-text-parts (x - 240) (y - 128) (z - 128) (w - 128) (omega arith) (let k = is.high in omega arith)
    (let k = third.high in omega arith) (let k = fourth.high in omega arith)
    (λ none. let k = is.four_low (omega arith) in omega arith) (λ is_4. let k = is.four_high (omega arith) in omega arith) in
    subst (λ (t : ℕ). IsUtf8 (t ∷ y ∷ z ∷ w ∷ [])) a
    (subst (λ (t : ℕ). IsUtf8 ((240 + (x - 240)) ∷ t ∷ z ∷ w ∷ [])) b
    (subst (λ (t : ℕ). IsUtf8 ((240 + (x - 240)) ∷ (128 + (y - 128)) ∷ t ∷ w ∷ [])) d
    (subst (λ (t : ℕ). IsUtf8 ((240 + (x - 240)) ∷ (128 + (y - 128)) ∷ (128 + (z - 128)) ∷ t ∷ [])) f parts)))

-- four bytes from a place on
four-from : (bytes : List ℕ) (at : ℕ) → at + 4 ≤ length bytes → take 4 (drop at bytes) ≡ slice_index bytes at
    ∷ slice_index bytes (at + 1) ∷ slice_index bytes (at + 2) ∷ slice_index bytes (at + 3) ∷ []
four-from bytes at within =
    let one = drop-cons bytes at 0 (omega arith) in
    let two = drop-cons bytes (suc at) 0 (omega arith) in
    let three = drop-cons bytes (suc (suc at)) 0 (omega arith) in
    let four = drop-cons bytes (suc (suc (suc at))) 0 (omega arith) in
    let at_1 : at + 1 ≡ suc at = omega arith in
    let at_2 : at + 2 ≡ suc (suc at) = omega arith in
    let at_3 : at + 3 ≡ suc (suc (suc at)) = omega arith in
    rw (at_1, at_2, at_3, one, two, three, four) refl

-- a character more, read from four bytes
pub text-wide : (bytes : List ℕ) (from at width : ℕ) → from ≤ at → at + 4 ≤ length bytes → width ≤ 4
    → IsUtf8 (take (at - from) (drop from bytes))
    → IsUtf8 (take width (slice_index bytes at ∷ slice_index bytes (at + 1) ∷ slice_index bytes (at + 2) ∷ slice_index bytes (at + 3) ∷ []))
    → IsUtf8 (take (at + width - from) (drop from bytes))
text-wide bytes from at width low within short before more =
    let here : drop (at - from) (drop from bytes) ≡ drop at bytes =
    drop-drop (at - from) from bytes ∙ ap (λ (n : ℕ). drop n bytes) (let k : from + (at - from) ≡ at = omega arith in k) in
    let four : take width (take 4 (drop at bytes)) ≡ take width (drop at bytes) = take-take width 4 (drop at bytes) short in
    let own : IsUtf8 (take width (drop (at - from) (drop from bytes))) =
    subst IsUtf8 (ap (take width) (sym (four-from bytes at within)) ∙ four ∙ ap (take width) (sym here)) more in
    let sum : at - from + width ≡ at + width - from = omega arith in
    subst (λ (n : ℕ). IsUtf8 (take n (drop from bytes))) sum (text-more (drop from bytes) (at - from) width before own)

-- text up to a place, and from there up to another
pub text-to : (bytes : List ℕ) (at next : ℕ) → at ≤ next → IsUtf8 (take at bytes) → IsUtf8 (take (next - at) (drop at bytes))
    → IsUtf8 (take next bytes)
text-to bytes at next low before more =
    let sum : at + (next - at) ≡ next = omega arith in
    subst (λ (n : ℕ). IsUtf8 (take n bytes)) sum (text-more bytes at (next - at) before more)

-- a run of ASCII after text
pub text-ascii : (bytes : List ℕ) (at count : ℕ) → at + count ≤ length bytes
    → ((k : ℕ) → at ≤ k → k < at + count → slice_index bytes k < 128) → IsUtf8 (take at bytes) → IsUtf8 (take (at + count) bytes)
text-ascii bytes at count within low before = text-more bytes at count before (ascii-text bytes at count within low)

-- what follows a text that is known begins with more of it
pub record Known (bytes : List ℕ) (known : ℕ) : Type 0 where
  pub within : known ≤ length bytes
  pub text : IsUtf8 (take known bytes)

pub known-more : (bytes : List ℕ) (known count : ℕ) → known ≤ length bytes → IsUtf8 (take known bytes)
    → count ≤ length (take (length bytes - known) (drop known bytes))
    → IsUtf8 (take count (take (length bytes - known) (drop known bytes))) → Known bytes (known + count)
known-more bytes known count within front fits more = record {
  within = omega (arith, ap length (take_rest bytes known), length-drop known bytes);
  text = text-more bytes known count front (subst (λ (xs : List ℕ). IsUtf8 (take count xs)) (take_rest bytes known) more);
}
