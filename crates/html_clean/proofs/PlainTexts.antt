-- Texts without U+0000 and U+000D.
use Rattle.std.proofs.Common.{◌≡◌, ℕ, Bool, true, false, ◌&&◌, List, [], ◌∷◌, refl, ap}
use Rattle.std.specs.List.{list_all}
use Rattle.std.proofs.lemmas.Bool.{and_parts}
use Rattle.html_clean.specs.Policies.{is_plain_character}
use Rattle.html_plain.specs.Grammar as grammar
use Rattle.html_round_trip.specs.Slices.Forms.{is_no_text}
use lib.Utf8.{scalar, scalars}

and-true : (b : Bool) → (b && true) ≡ b
and-true true = refl
and-true false = refl

-- of the characters of a text, those are plain that may stand in a plain document
all-plain : (cs : List ℕ) → scalars cs ≡ true → list_all grammar.is_plain_character cs ≡ list_all is_plain_character cs
all-plain [] h = refl
all-plain (c ∷ cs) h =
    let p = and_parts (scalar c) (scalars cs) h in
    rw (p.0, and-true (is_plain_character c)) (ap (λ b. is_plain_character c && b) (all-plain cs p.1))

-- of a text with a character
pub plain-some : (cs : List ℕ) → scalars cs ≡ true → is_no_text cs ≡ false → grammar.is_plain_text cs ≡ list_all is_plain_character cs
plain-some [] whole some = absurd cc
plain-some (c ∷ cs) whole some = all-plain (c ∷ cs) whole

pub plain-none : (cs : List ℕ) → is_no_text cs ≡ true → true ≡ list_all is_plain_character cs
plain-none [] none = refl
plain-none (c ∷ cs) none = absurd cc
