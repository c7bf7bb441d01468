use Rattle.std.proofs.Common.{◌≡◌, ℕ, Ok, Result, refl}
use Rattle.std.specs.Str.{chars}
use Rattle.html_policy_text.specs.ReadyRules.{rules_of_ready}
use Rattle.html_policy_text.specs.Rules.{Rules, rules_of}
use Rattle.html_policy_text.specs.declared.ready.Ready.TheVariants.{Mail}
use Rattle.html_policy_text.specs.declared.rules.Problem.{Problem}
use Rattle.html_policy_text.proofs.ready.mail.Goals as goal

-- what was read are the rules
read-are : (read rules : Rules) (made : Result Rules (ℕ × Problem)) → made ≡ Ok read → made ≡ Ok rules → read ≡ rules
read-are read rules made h k = cc

pub returns-in-Ok-clause-ok : goal.returns-in-Ok-clause-ok
unfolding chars
returns-in-Ok-clause-ok c = read-are (rules_of c.in-Ok.policy) (rules_of_ready Mail) _ c.in-Ok.ensures.ok refl
