use Rattle.std.proofs.Common.{◌<◌, ℕ, zero, suc, [], ◌∷◌, arith, rules}
use Rattle.std.specs.Str.{IsAscii}
use Rattle.std.proofs.lemmas.List.{take_more_set}
use Rattle.std.proofs.lemmas.Str.{IsUtf8-append, IsUtf8-from_ascii, IsUtf8-had}
use Rattle.markup.proofs.short_text.ShortText.push_ascii.Goals as goal

one_ascii : (byte : ℕ) → byte < 128 → IsAscii (byte ∷ [])
one_ascii byte h zero = h
one_ascii byte h (suc i) = omega arith

pub invariant_of-self : goal.invariant_of-self
invariant_of-self c = (
  search rules,
  ∣ rw (take_more_set c.self.inside.cells c.self.inside.len c.args.character (search rules))
      (IsUtf8-append _ _ (IsUtf8-had _ c.self.invariant.1) (IsUtf8-from_ascii _ (one_ascii c.args.character c.requires.ascii))) ∣₁,
)

pub returns-clause-utf8 : goal.returns-clause-utf8
returns-clause-utf8 c = rw (← c.self.view_is) (IsUtf8-had _ c.self.invariant.1)
