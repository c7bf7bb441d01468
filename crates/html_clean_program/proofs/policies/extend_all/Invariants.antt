use Rattle.std.proofs.Common.{◌≡◌, drop, map}
use Rattle.html_policy_text.specs.Rules.{rules_of}
use Rattle.html_clean_program.specs.Policies.{with_extras}
use Rattle.html_clean_program.specs.Words.{extra_of}
use Rattle.html_clean_program.proofs.policies.extend_all.Given as goal

abbrev pub invariant-loop-extra : goal.invariant-loop-extra
invariant-loop-extra l =
    with_extras (map extra_of (drop l.extra-index l.extras)) (rules_of l.policy)
    ≡ with_extras (map extra_of l.extras) (rules_of l.fn.policy)
