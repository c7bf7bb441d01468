use Rattle.std.proofs.Common.{◌≡◌, drop}
use Rattle.html_clean.specs.Checks.{unsafe_element}
use Rattle.html_clean.proofs.checked.unsafe_element.Given as goal

abbrev pub invariant-loop-rule : goal.invariant-loop-rule
invariant-loop-rule l = unsafe_element (drop l.rule-index l.rules) ≡ unsafe_element l.rules
