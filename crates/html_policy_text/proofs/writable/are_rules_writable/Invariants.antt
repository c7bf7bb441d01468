use Rattle.std.proofs.Common.{◌≡◌, drop, map}
use Rattle.std.specs.List.{list_all}
use Rattle.html_clean.specs.Ready.{rule_names}
use Rattle.html_policy_text.specs.Written.{is_rule_writable}
use Rattle.html_policy_text.proofs.writable.are_rules_writable.Given as goal

abbrev pub invariant-loop-rule : goal.invariant-loop-rule
invariant-loop-rule l =
    list_all is_rule_writable (map rule_names (drop l.rule-index l.rules))
    ≡ list_all is_rule_writable (map rule_names l.rules)
