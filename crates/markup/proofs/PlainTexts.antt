-- A text among texts of ASCII alone.
use Rattle.std.proofs.Common.{◌≡◌, ◌∙◌, ℕ, zero, suc, ◌<◌, true, List, [], ◌∷◌, length, get_or, refl, ap, ap₂, arith}
use Rattle.std.specs.Prelude.{◌||◌}
use Rattle.std.specs.List.{list_all, list_any}
use Rattle.std.specs.Str.{IsUtf8, bytes_eq, chars}
use Rattle.std.proofs.lemmas.Bool.{and_parts}
use Rattle.std.proofs.lemmas.Str.{IsUtf8-from_ascii}
use Rattle.markup.specs.Plain.{is_plain}
use Rattle.markup.proofs.Plain.{IsAscii-plain, bytes_eq-chars, chars-plain}

pub plain-at : (texts : List (List ℕ)) → list_all is_plain texts ≡ true → (k : ℕ) → k < length texts → is_plain (get_or texts k []) ≡ true
plain-at [] h k l = refl
plain-at (t ∷ texts) h zero l = (and_parts _ _ h).0
plain-at (t ∷ texts) h (suc k) l = plain-at texts (and_parts _ _ h).1 k (omega arith)

one_plain : (bs text : List ℕ) → IsUtf8 bs → is_plain text ≡ true → bytes_eq bs text ≡ bytes_eq (chars bs) text
one_plain bs text u h = bytes_eq-chars bs text u (IsUtf8-from_ascii text (IsAscii-plain text h))
    ∙ ap (bytes_eq (chars bs)) (chars-plain text h)

-- bytes are among such texts where their characters are
pub among_plain : (bs : List ℕ) → IsUtf8 bs → (texts : List (List ℕ)) → list_all is_plain texts ≡ true
    → list_any (bytes_eq bs) texts ≡ list_any (bytes_eq (chars bs)) texts
among_plain bs u [] h = refl
among_plain bs u (t ∷ texts) h =
    let parts = and_parts _ _ h in
    ap₂ (λ x y. x || y) (one_plain bs t u parts.0) (among_plain bs u texts parts.1)
