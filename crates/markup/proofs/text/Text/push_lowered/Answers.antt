use Rattle.std.proofs.Common.{◌≡◌, ℕ, false, List, [], ◌∷◌, map, refl, arith, rules}
use Rattle.std.specs.Char.{is_ascii_uppercase, to_ascii_lowercase}
use Rattle.std.specs.List.{list_any}
use Rattle.std.specs.Str.{chars}
use Rattle.std.proofs.lemmas.Bool.{or_parts}
use Rattle.std.proofs.lemmas.Bool.Decides.{nat_tests}
use Rattle.markup.proofs.text.Text.push_lowered.Goals as goal

lowered-same : (c : ℕ) → is_ascii_uppercase c ≡ false → to_ascii_lowercase c ≡ c
lowered-same c h = grind (arith, nat_tests)

-- a text without upper-case ASCII letters is its own lowered text
lowered-none : (cs : List ℕ) → list_any is_ascii_uppercase cs ≡ false → map to_ascii_lowercase cs ≡ cs
lowered-none [] h = refl
lowered-none (c ∷ cs) h =
    let parts = or_parts (is_ascii_uppercase c) (list_any is_ascii_uppercase cs) h in
    rw (lowered-same c parts.0, lowered-none cs parts.1)

pub returns-then-not-has_upper-clause-ok : goal.returns-then-not-has_upper-clause-ok
returns-then-not-has_upper-clause-ok c =
    let none : list_any is_ascii_uppercase (chars c.args.more.now) ≡ false = cc in
    rw (lowered-none _ none) c.push_str.ensures.ok

pub returns-clause-ok : goal.returns-clause-ok
returns-clause-ok c = search rules
