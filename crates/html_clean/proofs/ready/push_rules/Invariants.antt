use Rattle.std.proofs.Common.{◌≡◌, ◌++◌, Bor, List, ℕ, map, take}
use Rattle.std.specs.Str.{chars}
use Rattle.html_clean.specs.Ready.{rule_names}
use Rattle.html_clean.proofs.ready.push_rules.Given as goal

abbrev pub invariant-loop-name : goal.invariant-loop-name
invariant-loop-name l = map rule_names l.rules.items ≡ map rule_names l.fn.rules.items
    ++ map (λ (row : Bor (List ℕ) × Bor (List (Bor (List ℕ)))).
    (chars row.0.now, map (λ (name : Bor (List ℕ)). chars name.now) row.1.now)) (take l.name-index l.list)
