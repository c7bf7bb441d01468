-- The ready policies have the rules that are said of them.
use Rattle.std.proofs.Common.{◌≡◌, Result, Ok, Err, map}
use Rattle.std.specs.Prelude.{IfOk}
use Rattle.html_clean.specs.Limits.{limit_parts}
use Rattle.html_clean.specs.Ready.{IsTextAlone, IsTextAndLinks, IsUserContent, addition_parts, rule_names}
use Rattle.html_clean.specs.declared.policy.Policy.{Policy}
use Rattle.html_policy_text.specs.ReadyRules.{rules_of_ready}
use Rattle.html_policy_text.specs.Rules.{Rules, rules_of}
use Rattle.html_policy_text.specs.declared.ready.Ready.TheVariants.{TextAlone, TextAndLinks, UserContent}

pub text-alone : (policy : Policy) → IsTextAlone policy → rules_of policy ≡ rules_of_ready TextAlone
text-alone policy is = λ i. record {
  kept = map rule_names (is.kept i);
  dropped = is.dropped i;
  everywhere = is.everywhere i;
  beginnings = is.beginnings i;
  limits = map limit_parts (is.values i);
  added = map addition_parts (is.added i);
  urls = is.urls i;
  schemes = is.schemes i;
  relative = is.relative i;
  hosts = is.hosts i;
}

pub text-and-links : (policy : Policy) → IsTextAndLinks policy → rules_of policy ≡ rules_of_ready TextAndLinks
text-and-links policy is = λ i. record {
  kept = is.kept i;
  dropped = is.dropped i;
  everywhere = is.everywhere i;
  beginnings = is.beginnings i;
  limits = map limit_parts (is.values i);
  added = map addition_parts (is.added i);
  urls = is.urls i;
  schemes = is.schemes i;
  relative = is.relative i;
  hosts = is.hosts i;
}

pub user-content : (policy : Policy) → IsUserContent policy → rules_of policy ≡ rules_of_ready UserContent
user-content policy is =
    λ i. record {
      kept = is.kept i;
      dropped = is.dropped i;
      everywhere = is.everywhere i;
      beginnings = is.beginnings i;
      limits = is.values i;
      added = is.added i;
      urls = is.urls i;
      schemes = is.schemes i;
      relative = is.relative i;
      hosts = is.hosts i;
    }

-- what is so of a policy that is made
pub made : {E : Type 0} (r : Result Policy E) (Is : Policy → Type 0) (rules : Rules) → IfOk r Is
    → ((policy : Policy) → Is policy → rules_of policy ≡ rules) → IfOk r (λ policy. rules_of policy ≡ rules)
made (Ok policy) Is rules is so = so policy is
made (Err fault) Is rules is so = tt
