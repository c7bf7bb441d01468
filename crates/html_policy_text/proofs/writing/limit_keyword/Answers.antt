use Rattle.std.proofs.Common.{◌∙◌, ap, sym}
use Rattle.std.specs.Str.{chars}
use Rattle.html_clean.specs.declared.policy.Allowed.{Allowed}
use Rattle.html_clean.specs.Limits.{limit_of}
use Rattle.html_policy_text.specs.Written.{limit_keyword}
use Rattle.html_policy_text.proofs.writing.limit_keyword.Goals as goal

pub returns-in-OneOf : goal.returns-in-OneOf
unfolding chars
returns-in-OneOf c = sym (ap (λ (a : Allowed). limit_keyword (limit_of a)) c.in-OneOf.is)

pub returns-in-Words : goal.returns-in-Words
unfolding chars
returns-in-Words c = sym (ap (λ (a : Allowed). limit_keyword (limit_of a)) c.in-Words.is)

pub returns-in-Number : goal.returns-in-Number
unfolding chars
returns-in-Number c = sym (ap (λ (a : Allowed). limit_keyword (limit_of a)) c.in-Number.is)

pub returns-in-Schemes : goal.returns-in-Schemes
unfolding chars
returns-in-Schemes c = sym (ap (λ (a : Allowed). limit_keyword (limit_of a)) c.in-Schemes.is)

pub returns-in-Proxied : goal.returns-in-Proxied
unfolding chars
returns-in-Proxied c = sym (ap (λ (a : Allowed). limit_keyword (limit_of a)) c.in-Proxied.is)

pub returns-in-Absolute : goal.returns-in-Absolute
unfolding chars
returns-in-Absolute c = sym (ap (λ (a : Allowed). limit_keyword (limit_of a)) c.in-Absolute.is)

pub returns-in-Prefixed : goal.returns-in-Prefixed
returns-in-Prefixed c =
    c.prefix_keyword.ensures c.in-Prefixed.prefix ∙ sym (ap (λ (a : Allowed). limit_keyword (limit_of a)) c.in-Prefixed.is)
