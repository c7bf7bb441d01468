-- Texts without a character, and with one more.
use Rattle.std.proofs.Common.{◌≡◌, ◌==◌, ◌∙◌, ℕ, List, [], ◌∷◌, ◌++◌, length, ap, sym, arith, refl}
use Rattle.std.specs.Char.{IsScalar}
use Rattle.std.specs.Str.{IsUtf8, chars}
use Rattle.std.proofs.lemmas.List.{append-nil}
use Rattle.std.proofs.lemmas.Bool.Decides.{nat_tests}
use Rattle.std.proofs.lemmas.Str.{IsUtf8-encode, chars-append, chars-nil, chars_past_char, length-le-encodes}
use lib.Utf8.{encode, encodes}

pub chars-push : (bs : List ℕ) (c : ℕ) → IsUtf8 bs → IsScalar c → chars (bs ++ encode c) ≡ chars bs ++ c ∷ []
chars-push bs c u s =
    chars-append bs (encode c) u
    ∙ ap (λ cs. chars bs ++ cs) (chars_past_char (encode c) [] c (IsUtf8-encode c s) (sym (append-nil _)) ∙ ap (λ cs. c ∷ cs) chars-nil)

-- a text with no character has no byte, and the other way round
pub same_emptiness : (cs bs : List ℕ) → encodes cs ≡ bs → (length bs == 0) ≡ (length cs == 0)
same_emptiness [] bs e = rw (← e) refl
same_emptiness (c ∷ cs) [] e = absurd (grind (arith, length-le-encodes (c ∷ cs)))
same_emptiness (c ∷ cs) (b ∷ bs) e = grind (arith, nat_tests)
