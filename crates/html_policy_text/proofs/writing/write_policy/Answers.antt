use Rattle.std.proofs.Common.{◌∙◌, ap, sym}
use Rattle.html_policy_text.specs.PolicyText.{policy_rules}
use Rattle.html_policy_text.specs.Rules.{rules_of}
use Rattle.html_policy_text.proofs.PoliciesBack.{written-read}
use Rattle.html_policy_text.proofs.writing.write_policy.Goals as goal

pub returns-in-Ok-write_lines-clause-read : goal.returns-in-Ok-write_lines-clause-read
returns-in-Ok-write_lines-clause-read c =
    ap policy_rules c.in-Ok-write_lines.ensures.ok
    ∙ written-read (rules_of c.args.policy.now) (sym c.in-Ok.ensures.ok ∙ c.if-not-writable.false)
