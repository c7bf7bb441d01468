use Rattle.std.proofs.Common.{◌≡◌, ◌++◌, drop, map}
use Rattle.html_clean.specs.Ready.{rule_names}
use Rattle.html_policy_text.specs.Written.{rule_text, texts_of}
use Rattle.html_policy_text.proofs.writing.write_rules.Given as goal

abbrev pub invariant-loop-rule : goal.invariant-loop-rule
invariant-loop-rule l =
    l.text ++ texts_of rule_text (map rule_names (drop l.rule-index l.rules)) ≡ l.fn.text ++ texts_of rule_text (map rule_names l.rules)
