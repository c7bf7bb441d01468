-- Rules, one by one.
use Rattle.std.proofs.Common.{◌≡◌, ◌∙◌, ℕ, List, [], ◌∷◌, ◌++◌, append-nil, map, Option, Result, Ok, Err, ap, subst, sym}
use Rattle.std.specs.Prelude.{OnOk}
use Rattle.html_clean.specs.Limits.{Limit, LimitParts, limit_of, limit_parts}
use Rattle.html_clean.specs.Ready.{value_rule_parts}
use Rattle.html_clean.specs.declared.policy.Allowed.{Allowed}
use Rattle.html_clean.specs.declared.policy.Policy.{Policy}
use Rattle.html_clean.proofs.UserContent.{limit-more}
use Rattle.markup.specs.declared.fault.ParseFault.{ParseFault}
use Rattle.html_policy_text.specs.PolicyText.{IsApplied, IsRefused, or_memory}
use Rattle.html_policy_text.specs.Rules.{Rules, limited as with_one, rules_of}
use Rattle.html_policy_text.specs.declared.rules.Problem.{Problem}
use Rattle.html_policy_text.specs.declared.rules.RuleFault.{RuleFault}
use Rattle.html_policy_text.specs.declared.rules.RuleFault.TheVariants as rule

-- a policy with a limit more
pub limited : (old new : Policy) (target : Option (List ℕ)) (attribute : List ℕ) (allowed : Allowed) (limit : Limit)
    → map value_rule_parts new.values.items ≡ map value_rule_parts old.values.items ++ (target, (attribute, allowed)) ∷ []
    → new ≡ record old { values = new.values } → limit_of allowed ≡ limit
    → rules_of new ≡ record (rules_of old) { limits = (rules_of old).limits ++ (target, (attribute, limit)) ∷ [] }
limited old new target attribute allowed limit ok same is =
    let base = map limit_parts old.values.items in
    ap rules_of same
    ∙ ap (λ (limits : List LimitParts). record (rules_of old) { limits = limits })
    (limit-more base [] old.values.items new.values.items target attribute allowed limit ok is (sym (append-nil base)))

-- a rule for values is refused as what it says of them is
pub limit-refused : (fault : RuleFault) (rules : Rules) (target : Option (List ℕ)) (attribute : List ℕ) (made : Result Limit Problem)
    → IsRefused fault made → IsRefused fault (with_one rules target attribute made)
limit-refused rule.Memory rules target attribute made h = tt
limit-refused (rule.Problem problem) rules target attribute made h = ap (with_one rules target attribute) h

-- the answer of a rule, by that of the call that it makes
pub answered : {A : Type 0} (r : Result (Unit {0}) ParseFault) (o : Result (Unit {0}) RuleFault) (rules : Rules)
    (expected : Result Rules Problem) → o ≡ or_memory r → OnOk r A → (A → expected ≡ Ok rules) → IsApplied o rules expected
answered (Ok x) o rules expected e h f = subst (λ o. IsApplied o rules expected) (sym e) (f h)
answered (Err fault) o rules expected e h f = subst (λ o. IsApplied o rules expected) (sym e) tt
