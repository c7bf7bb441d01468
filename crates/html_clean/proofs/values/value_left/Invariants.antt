use Rattle.std.proofs.Common.{◌≡◌, drop}
use Rattle.html_clean.specs.Values.{value_left}
use Rattle.html_clean.proofs.values.value_left.Given as goal

abbrev pub invariant-loop-rule : goal.invariant-loop-rule
invariant-loop-rule l =
    value_left (drop l.rule-index l.rules) l.element l.name l.left ≡ value_left l.rules l.element l.name l.fn.value
