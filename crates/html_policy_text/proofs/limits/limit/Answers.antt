use Rattle.std.proofs.Common.{◌≡◌, ◌∙◌, [], ◌∷◌, ◌++◌, Ok, ap, map, refl, sym}
use Rattle.std.specs.Str.{chars}
use Rattle.html_clean.specs.Ready.{value_rule_parts}
use Rattle.html_clean.specs.Limits.{limit_of}
use Rattle.html_policy_text.specs.Rules.{limited as with_one, rules_of, target_of, with_limit}
use Rattle.html_policy_text.proofs.Steps.{answered, limited}
use Rattle.html_policy_text.proofs.limits.limit.Goals as goal

pub returns : goal.returns
returns c =
    let old = c.args.policy.now in
    let element = c.in-Some.element.now in
    let attribute = c.in-Some-split_first.attribute.now in
    let list = c.in-Some-split_first.list.now in
    let allowed = c.in_ok-allowed.allowed in
    let whole : c.args.words.now ≡ element ∷ (attribute ∷ list) = c.in-Some.ensures.cases.0
    ∙ ap (λ after. element ∷ after) c.in-Some-split_first.ensures.cases.0 in
    answered c.limit.result c.or_memory.result (rules_of c.limit.new.self) (with_limit c.args.kind (rules_of old) c.args.words.now)
    c.or_memory.ensures c.limit.ensures.ok (λ ok. ap (with_limit c.args.kind (rules_of old)) whole
    ∙ (ap (with_one (rules_of old) (target_of element) attribute) c.in_ok-allowed.ensures.ok
    ∙ ap Ok (sym (limited old c.limit.new.self (target_of element) attribute allowed (limit_of allowed)
    (ok ∙ (ap (λ target. map value_rule_parts old.values.items ++ (target, (chars c.as_str.result.now, allowed)) ∷ []) c.target_of.ensures
    ∙ ap (λ name. map value_rule_parts old.values.items ++ (target_of element, (name, allowed)) ∷ []) c.as_str.ensures))
    c.limit.ensures.same refl))))
