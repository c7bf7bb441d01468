-- Texts that are cut after characters of ASCII.
use Rattle.std.proofs.Common.{◌≡◌, ◌∙◌, ℕ, zero, suc, ◌<◌, Bool, true, false, List, [], ◌∷◌, ◌++◌, length, get_or, refl, sym, ap, arith}
use Rattle.std.specs.Prelude.{encode_utf8_all, ◌==◌, not}
use Rattle.std.specs.Char.{is_ascii_alphabetic}
use Rattle.std.specs.Str.{IsAscii, IsCharBoundary, IsUtf8, chars}
use Rattle.std.proofs.lemmas.Bool.Decides.{nat_tests}
use Rattle.std.proofs.lemmas.Str.{chars-append, chars-IsAscii, encodes-chars, IsCharBoundary-after_ascii, IsUtf8-append, IsUtf8-from_ascii}
use Rattle.std.proofs.lemmas.Str.Ascii.{IsAscii-cons}
use Rattle.html_tokens.specs.declared.tags.TagKind.{TagKind}
use Rattle.html_tokens.specs.declared.tags.TagKind.TheVariants.{StartTag, EndTag}
use Rattle.html_tokenizer.specs.Fronts.{BeginsWithLetter, IsFilled, mark}

-- an ASCII byte is a character
pub ascii-one : (b : ℕ) → b < 128 → IsAscii (b ∷ [])
ascii-one b low = IsAscii-cons b [] low (λ k. omega arith)

pub utf8-cons : (b : ℕ) (bs : List ℕ) → b < 128 → IsUtf8 bs → IsUtf8 (b ∷ bs)
utf8-cons b bs low u = IsUtf8-append (b ∷ []) bs (IsUtf8-from_ascii (b ∷ []) (ascii-one b low)) u

pub chars-cons : (b : ℕ) (bs : List ℕ) → b < 128 → chars (b ∷ bs) ≡ b ∷ chars bs
chars-cons b bs low =
    chars-append (b ∷ []) bs (IsUtf8-from_ascii (b ∷ []) (ascii-one b low))
    ∙ ap (λ cs. cs ++ chars bs) (chars-IsAscii (b ∷ []) (ascii-one b low))

-- a text may be cut after an ASCII character at its front
pub cut-behind : (bs : List ℕ) (b : ℕ) → IsUtf8 bs → 0 < length bs → get_or bs 0 0 ≡ b → b < 128 → IsCharBoundary bs 1
cut-behind bs b u some is low = IsCharBoundary-after_ascii bs 0 u some (rw is low)

-- what has bytes has characters
filled-by : (cs bs : List ℕ) → encode_utf8_all cs ≡ bs → 0 < length bs → IsFilled cs
filled-by [] bs e l = let none : 0 < 0 = rw (← e) at l in absurd (omega (arith, none))
filled-by (c ∷ cs) bs e l = record { first = c; more = cs; split = refl }

pub filled-chars : (bs : List ℕ) → IsUtf8 bs → 0 < length bs → IsFilled (chars bs)
filled-chars bs u l = filled-by (chars bs) bs (encodes-chars bs u) l

pub some-of : (n : ℕ) → (n == 0) ≡ false → 0 < n
some-of zero e = absurd cc
some-of (suc n) e = omega arith

pub filled-if : (bs : List ℕ) (empty : Bool) → IsUtf8 bs → empty ≡ (length bs == 0) → not empty ≡ true → IsFilled (chars bs)
filled-if bs true u e h = absurd cc
filled-if bs false u e h = filled-chars bs u (some-of (length bs) (sym e))

letter-low : (b : ℕ) → is_ascii_alphabetic b ≡ true → b < 128
letter-low b e = grind (arith, nat_tests, e)

-- what has a letter at its front
pub letter-chars : (bs : List ℕ) → 0 < length bs → is_ascii_alphabetic (get_or bs 0 0) ≡ true → BeginsWithLetter (chars bs)
letter-chars [] some e = absurd (omega (arith, some))
letter-chars (b ∷ bs) some e = record { first = b; more = chars bs; split = chars-cons b bs (letter-low b e); letter = e }

-- the same of what stands before a tag's name, and the name
pub mark-utf8 : (kind : TagKind) (name : List ℕ) → IsUtf8 name → IsUtf8 (mark kind ++ name)
mark-utf8 StartTag name u = utf8-cons 60 name (omega arith) u
mark-utf8 EndTag name u = utf8-cons 60 (47 ∷ name) (omega arith) (utf8-cons 47 name (omega arith) u)

pub mark-chars : (kind : TagKind) (name : List ℕ) → chars (mark kind ++ name) ≡ mark kind ++ chars name
mark-chars StartTag name = chars-cons 60 name (omega arith)
mark-chars EndTag name = chars-cons 60 (47 ∷ name) (omega arith) ∙ ap (λ cs. 60 ∷ cs) (chars-cons 47 name (omega arith))

pub cut-behind-if : (bs cs : List ℕ) (b : ℕ) (empty : Bool) → IsUtf8 cs → bs ≡ cs → empty ≡ (length bs == 0)
    → empty ≡ false → get_or bs 0 0 ≡ b → b < 128 → IsCharBoundary cs 1
cut-behind-if bs cs b empty u e f g is low = cut-behind cs b u (some-of (length cs) (rw e at (sym f ∙ g))) (rw e at is) low

pub letter-if : (bs cs : List ℕ) (empty : Bool) → bs ≡ cs → empty ≡ (length bs == 0) → empty ≡ false
    → is_ascii_alphabetic (get_or bs 0 0) ≡ true → BeginsWithLetter (chars cs)
letter-if bs cs true e f g letter = absurd cc
letter-if bs cs false e f g letter = let some : (length bs == 0) ≡ false = sym f in
    letter-chars cs (some-of (length cs) (rw e at some)) (rw e at letter)
