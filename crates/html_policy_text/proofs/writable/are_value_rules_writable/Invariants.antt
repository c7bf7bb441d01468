use Rattle.std.proofs.Common.{◌≡◌, drop, map}
use Rattle.std.specs.List.{list_all}
use Rattle.html_clean.specs.Limits.{limit_parts}
use Rattle.html_policy_text.specs.Written.{is_value_rule_writable}
use Rattle.html_policy_text.proofs.writable.are_value_rules_writable.Given as goal

abbrev pub invariant-loop-rule : goal.invariant-loop-rule
invariant-loop-rule l =
    list_all is_value_rule_writable (map limit_parts (drop l.rule-index l.rules))
    ≡ list_all is_value_rule_writable (map limit_parts l.rules)
