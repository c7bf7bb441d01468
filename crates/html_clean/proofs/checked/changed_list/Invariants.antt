use Rattle.std.proofs.Common.{◌≡◌, drop}
use Rattle.html_clean.specs.Checks.{changed_list}
use Rattle.html_clean.proofs.checked.changed_list.Given as goal

abbrev pub invariant-loop-rule : goal.invariant-loop-rule
invariant-loop-rule l = changed_list (drop l.rule-index l.rules) ≡ changed_list l.rules
