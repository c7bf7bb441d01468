use Rattle.std.proofs.Common.{◌≡◌, drop}
use Rattle.html_clean.specs.Checks.{unsafe_in_limits}
use Rattle.html_clean.proofs.checked.unsafe_in_limits.Given as goal

abbrev pub invariant-loop-rule : goal.invariant-loop-rule
invariant-loop-rule l = unsafe_in_limits (drop l.rule-index l.rules) ≡ unsafe_in_limits l.rules
