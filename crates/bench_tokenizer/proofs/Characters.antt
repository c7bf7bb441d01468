-- A text has as many characters as bytes with which one begins.
use Rattle.std.proofs.Common.{◌≡◌, ◌∙◌, ℕ, ◌+◌, ◌/◌, ◌<◌, ◌≤◌, Bool, true, false, List, [], ◌∷◌, ◌++◌, length, get_or, drop}
use Rattle.std.proofs.Common.{refl, sym, ap, subst, arith}
use Rattle.std.specs.Prelude.{encode_utf8_all}
use Rattle.std.specs.Str.{IsUtf8, chars}
use Rattle.std.proofs.lemmas.Bool.Decides.{nat_tests}
use Rattle.std.proofs.lemmas.List.{drop_more}
use Rattle.std.proofs.Math.ListN.{drop_of_length-le}
use Rattle.std.proofs.lemmas.Str.{encodes-chars}
use lib.Utf8.{encode, next}
use lib.Dec.{T, ltb, ltb→lt}
use Rattle.html_tokens.specs.Notes.{one_if}
use Rattle.bench_tokenizer.specs.FirstBytes.{is_first}

-- with how many bytes of a text a character begins
abbrev pub firsts : List ℕ → ℕ
firsts [] = 0
firsts (b ∷ bs) = one_if (is_first b) + firsts bs

low-first : (b : ℕ) → b < 128 → is_first b ≡ true
low-first b h = grind (arith, nat_tests, h)

high-first : (b : ℕ) → 192 ≤ b → is_first b ≡ true
high-first b h = grind (arith, nat_tests, h)

next-none : (n : ℕ) → is_first (next n) ≡ false
next-none n = grind (arith, nat_tests)

two : (a b : ℕ) (bs : List ℕ) → is_first a ≡ true → is_first b ≡ false → firsts (a ∷ b ∷ bs) ≡ 1 + firsts bs
two a b bs f g = let x = ap one_if f in let y = ap one_if g in omega (arith, x, y)

three : (a b c : ℕ) (bs : List ℕ) → is_first a ≡ true → is_first b ≡ false → is_first c ≡ false → firsts (a ∷ b ∷ c ∷ bs) ≡ 1 + firsts bs
three a b c bs f g h = let x = ap one_if f in let y = ap one_if g in let z = ap one_if h in omega (arith, x, y, z)

four : (a b c d : ℕ) (bs : List ℕ) → is_first a ≡ true → is_first b ≡ false → is_first c ≡ false
    → is_first d ≡ false → firsts (a ∷ b ∷ c ∷ d ∷ bs) ≡ 1 + firsts bs
four a b c d bs f g h i = let x = ap one_if f in let y = ap one_if g in let z = ap one_if h in let w =
    ap one_if i in omega (arith, x, y, z, w)

-- a character has one first byte
first-one : (c : ℕ) (bs : List ℕ) → firsts (encode c ++ bs) ≡ 1 + firsts bs
unfolding encode
first-one c bs = by (ltb c 128) (ltb c 2048) (ltb c 65536) refl refl refl where
  by : (x y z : Bool) → ltb c 128 ≡ x → ltb c 2048 ≡ y → ltb c 65536 ≡ z → firsts (encode c ++ bs) ≡ 1 + firsts bs
  by true y z e f g = rw e (ap (λ b. one_if b + firsts bs) (low-first c (ltb→lt c 128 (subst T (sym e) tt))))
  by false true z e f g = rw (e, f) (two (192 + c / 64) (next c) bs (high-first (192 + c / 64) (omega arith)) (next-none c))
  by false false true e f g =
      rw (e, f, g) (three (224 + c / 4096) (next (c / 64)) (next c) bs (high-first (224 + c / 4096) (omega arith))
      (next-none (c / 64)) (next-none c))
  by false false false e f g = rw (e, f, g) (four (240 + c / 262144) (next (c / 4096)) (next (c / 64)) (next c) bs
      (high-first (240 + c / 262144) (omega arith)) (next-none (c / 4096)) (next-none (c / 64)) (next-none c))

firsts-encodes : (cs : List ℕ) → firsts (encode_utf8_all cs) ≡ length cs
firsts-encodes [] = refl
firsts-encodes (c ∷ cs) = first-one c (encode_utf8_all cs) ∙ (ap (λ n. 1 + n) (firsts-encodes cs) ∙ omega arith)

pub firsts-chars : (bs : List ℕ) → IsUtf8 bs → firsts bs ≡ length (chars bs)
firsts-chars bs u = ap firsts (sym (encodes-chars bs u)) ∙ firsts-encodes (chars bs)

-- what was counted before a byte, with that byte
pub counted-on : (bs : List ℕ) (at count more : ℕ) → at < length bs → firsts bs ≡ count + firsts (drop at bs)
    → more ≡ one_if (is_first (get_or bs at 0))
    → firsts bs ≡ (count + more) + firsts (drop (at + 1) bs)
counted-on bs at count more h e one =
    let step : firsts (drop at bs) ≡ one_if (is_first (get_or bs at 0)) + firsts (drop (at + 1) bs) = ap firsts (drop_more bs at 0 h) in
    omega (arith, e, step, one)

one_if-small : (b : Bool) → one_if b ≤ 1
one_if-small true = omega arith
one_if-small false = omega arith

-- no more was counted than there are bytes
pub counted-few : (at count more : ℕ) (b : Bool) → count ≤ at → more ≡ one_if b → count + more ≤ at + 1
counted-few at count more b h one = let small = one_if-small b in omega (arith, h, one, small)

-- at the end all was counted
pub all-counted : (bs : List ℕ) (at count : ℕ) → length bs ≤ at → firsts bs ≡ count + firsts (drop at bs) → count ≡ firsts bs
all-counted bs at count h e = let none : firsts (drop at bs) ≡ 0 = ap firsts (drop_of_length-le bs h) in omega (arith, e, none)
