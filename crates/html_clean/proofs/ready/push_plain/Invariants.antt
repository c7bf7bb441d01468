use Rattle.std.proofs.Common.{◌≡◌, ◌++◌, Bor, List, [], ℕ, map, take}
use Rattle.std.specs.Str.{chars}
use Rattle.html_clean.specs.Ready.{rule_names}
use Rattle.html_clean.proofs.ready.push_plain.Given as goal

abbrev pub invariant-loop-name : goal.invariant-loop-name
invariant-loop-name l = map rule_names l.rules.items ≡ map rule_names l.fn.rules.items
    ++ map (λ (name : Bor (List ℕ)). (chars name.now, [])) (take l.name-index l.list)
