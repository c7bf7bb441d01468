use Rattle.std.proofs.Common.{◌≡◌, ◌++◌, Bor, List, ℕ, map, take}
use Rattle.std.specs.Str.{chars}
use Rattle.html_clean.specs.Ready.{addition_parts}
use Rattle.html_clean.proofs.ready.push_additions.Given as goal

abbrev pub invariant-loop-element : goal.invariant-loop-element
invariant-loop-element l = record {
  made : map addition_parts l.policy.added.items ≡ map addition_parts l.fn.policy.added.items
      ++ map (λ (row : Bor (List ℕ) × Bor (List ℕ) × Bor (List ℕ)).
      (chars row.0.now, (chars row.1.now, chars row.2.now))) (take l.element-index l.list);
  same : l.policy ≡ record l.fn.policy { added = l.policy.added };
}
