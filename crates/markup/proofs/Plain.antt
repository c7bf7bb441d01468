-- Equal texts have equal bytes.
use Rattle.std.proofs.Common.{◌≡◌, ◌∙◌, ℕ, zero, suc, true, List, [], ◌∷◌, sym, ap, arith}
use Rattle.std.specs.Str.{IsAscii, IsUtf8, bytes_eq, chars}
use Rattle.std.proofs.lemmas.Bool.{and_parts, ltb-true}
use Rattle.std.proofs.lemmas.Bool.Decides.{Decides-like, same_from_decides}
use Rattle.std.proofs.lemmas.Slice.Eq.{bytes_eq-Decides}
use Rattle.std.proofs.lemmas.Str.{chars-IsAscii, encodes-chars}
use lib.Utf8.{encodes}
use Rattle.markup.specs.Plain.{is_plain}

-- a text that passes the test is ASCII
pub IsAscii-plain : (bs : List ℕ) → is_plain bs ≡ true → IsAscii bs
IsAscii-plain [] h i = omega arith
IsAscii-plain (b ∷ bs) h zero = ltb-true b 128 (and_parts _ _ h).0
IsAscii-plain (b ∷ bs) h (suc i) = IsAscii-plain bs (and_parts _ _ h).1 i

pub bytes_eq-chars : (bs cs : List ℕ) → IsUtf8 bs → IsUtf8 cs → bytes_eq bs cs ≡ bytes_eq (chars bs) (chars cs)
bytes_eq-chars bs cs u v =
    same_from_decides {P = chars bs ≡ chars cs} (bytes_eq bs cs) (bytes_eq (chars bs) (chars cs))
    (Decides-like {P = bs ≡ cs} {Q = chars bs ≡ chars cs} (bytes_eq bs cs) (ap chars)
    (λ e. sym (encodes-chars bs u) ∙ (ap encodes e ∙ encodes-chars cs v)) (bytes_eq-Decides bs cs))
    (bytes_eq-Decides (chars bs) (chars cs))

pub chars-plain : (bs : List ℕ) → is_plain bs ≡ true → chars bs ≡ bs
chars-plain bs h = chars-IsAscii bs (IsAscii-plain bs h)
