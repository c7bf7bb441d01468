use Rattle.std.proofs.Common.{◌≡◌, ◌++◌, drop, map}
use Rattle.html_clean.specs.Limits.{limit_parts}
use Rattle.html_policy_text.specs.Written.{limit_text, texts_of}
use Rattle.html_policy_text.proofs.writing.write_limits.Given as goal

abbrev pub invariant-loop-rule : goal.invariant-loop-rule
invariant-loop-rule l =
    l.text ++ texts_of limit_text (map limit_parts (drop l.rule-index l.rules)) ≡ l.fn.text ++ texts_of limit_text (map limit_parts l.rules)
