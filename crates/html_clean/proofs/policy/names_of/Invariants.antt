use Rattle.std.proofs.Common.{◌≡◌, Bor, List, ℕ, map, take}
use Rattle.std.specs.Str.{chars}
use Rattle.html_clean.proofs.policy.names_of.Given as goal

abbrev pub invariant-loop-name : goal.invariant-loop-name
invariant-loop-name l = l.names.items ≡ map (λ (text : Bor (List ℕ)). chars text.now) (take l.name-index l.list)
