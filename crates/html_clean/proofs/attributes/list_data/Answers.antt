use Rattle.std.proofs.Common.{◌∙◌, ℕ, List, ap}
use Rattle.std.specs.List.{list_all}
use Rattle.std.specs.Str.{chars}
use Rattle.html_clean.specs.Values.{meets_scheme}
use Rattle.html_clean.specs.declared.policy.ValueRule.{ValueRule}
use Rattle.html_clean.proofs.attributes.list_data.Goals as goal

pub returns-clause-ok : goal.returns-clause-ok
unfolding chars
returns-clause-ok c =
    let element = c.args.element.now in
    let name = c.args.name.now in
    c.meets_schemes.ensures
    ∙ (ap (λ (rules : List ValueRule). list_all (meets_scheme element name c.in_ok-data.data) rules) c.deref.ensures.value
    ∙ ap (λ (scheme : List ℕ). list_all (meets_scheme element name scheme) c.args.policy.now.values.items) c.in_ok-data.ensures.ok)
