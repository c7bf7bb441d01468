use Rattle.std.proofs.Common.{◌≡◌, ◌+◌, Bor, List, ℕ, drop, map}
use Rattle.std.specs.Str.{chars}
use Rattle.html_policy_text.specs.Bounded.{bounded_of, read_bounded}
use Rattle.html_policy_text.proofs.bounded.apply_lines.Given as goal

abbrev pub invariant-loop-i : goal.invariant-loop-i
invariant-loop-i l =
    read_bounded (l.i + 1) (bounded_of l.bounded) (map (λ (line : Bor (List ℕ)). chars line.now) (drop l.i l.lines))
    ≡ read_bounded 1 (bounded_of l.fn.bounded) (map (λ (line : Bor (List ℕ)). chars line.now) l.lines)
