use Rattle.std.proofs.Common.{◌≡◌, ◌==◌, ◌∙◌, ℕ, List, [], ◌∷◌, length, arith, refl}
use lib.Utf8.{encodes}
use Rattle.std.proofs.lemmas.Bool.Decides.{nat_tests}
use Rattle.std.proofs.lemmas.Str.{encodes-chars, length-le-encodes}
use Rattle.html_plain.proofs.texts.is_empty.Goals as goal

-- a text with no character has no byte, and the other way round
same_emptiness : (cs bs : List ℕ) → encodes cs ≡ bs → (length bs == 0) ≡ (length cs == 0)
same_emptiness [] bs e = rw (← e) refl
same_emptiness (c ∷ cs) [] e = absurd (grind (arith, length-le-encodes (c ∷ cs)))
same_emptiness (c ∷ cs) (b ∷ bs) e = grind (arith, nat_tests)

pub returns : goal.returns
returns c = c.is_empty.ensures ∙ same_emptiness _ _ (encodes-chars c.args.text.now c.utf8.text)
