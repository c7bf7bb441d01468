use Rattle.std.proofs.Common.{◌≡◌, drop}
use Rattle.html_clean.specs.Checks.{page_element}
use Rattle.html_clean.proofs.checked.page_element.Given as goal

abbrev pub invariant-loop-rule : goal.invariant-loop-rule
invariant-loop-rule l = page_element (drop l.rule-index l.rules) ≡ page_element l.rules
