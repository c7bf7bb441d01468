use Rattle.std.proofs.Common.{ap, sym}
use Rattle.std.specs.Str.{chars}
use Rattle.html_clean.specs.Limits.Limit.{Prefixed}
use Rattle.html_clean.specs.declared.policy.IdForm.{IdForm}
use Rattle.html_policy_text.specs.Written.{limit_keyword}
use Rattle.html_policy_text.proofs.writing.prefix_keyword.Goals as goal

pub returns-in-Name : goal.returns-in-Name
unfolding chars
returns-in-Name c = λ prefix. sym (ap (λ (form : IdForm). limit_keyword (Prefixed form prefix)) c.in-Name.is)

pub returns-in-Names : goal.returns-in-Names
unfolding chars
returns-in-Names c = λ prefix. sym (ap (λ (form : IdForm). limit_keyword (Prefixed form prefix)) c.in-Names.is)

pub returns-in-Link : goal.returns-in-Link
unfolding chars
returns-in-Link c = λ prefix. sym (ap (λ (form : IdForm). limit_keyword (Prefixed form prefix)) c.in-Link.is)
