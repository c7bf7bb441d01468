use Rattle.std.proofs.Common.{◌≡◌, drop}
use Rattle.html_clean.specs.Values.{meets_all}
use Rattle.html_clean.proofs.values.meets_all.Given as goal

abbrev pub invariant-loop-rule : goal.invariant-loop-rule
invariant-loop-rule l =
    meets_all (drop l.rule-index l.rules) l.element l.name l.value ≡ meets_all l.rules l.element l.name l.value
