use Rattle.std.proofs.Common.{◌≡◌, ◌+◌, Bor, List, ℕ, drop, map}
use Rattle.std.specs.Str.{chars}
use Rattle.html_policy_text.specs.PolicyText.{read_lines}
use Rattle.html_policy_text.specs.Rules.{rules_of}
use Rattle.html_policy_text.proofs.reading.apply_lines.Given as goal

abbrev pub invariant-loop-i : goal.invariant-loop-i
invariant-loop-i l =
    read_lines (l.i + 1) (rules_of l.policy) (map (λ (line : Bor (List ℕ)). chars line.now) (drop l.i l.lines))
    ≡ read_lines 1 (rules_of l.fn.policy) (map (λ (line : Bor (List ℕ)). chars line.now) l.lines)
