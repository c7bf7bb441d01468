use Rattle.std.proofs.Common.{◌≡◌, Bor, List, ℕ, map, take}
use Rattle.std.specs.Str.{chars}
use Rattle.html_clean.proofs.ready.texts_of.Given as goal

abbrev pub invariant-loop-text : goal.invariant-loop-text
invariant-loop-text l = l.texts.items ≡ map (λ (text : Bor (List ℕ)). chars text.now) (take l.text-index l.list)
