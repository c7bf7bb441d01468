-- What the values of attributes of user content may be.
use Rattle.std.proofs.Common.{◌≡◌, ◌∙◌, ℕ, List, [], ◌∷◌, ◌++◌, Option, ap, append_assoc, map, refl, sym}
use Rattle.std.proofs.lemmas.List.{map-append}
use Rattle.html_clean.specs.Limits.{Limit, LimitParts, limit_of, limit_parts}
use Rattle.html_clean.specs.Ready.{value_rule_parts}
use Rattle.html_clean.specs.declared.policy.Allowed.{Allowed}
use Rattle.html_clean.specs.declared.policy.ValueRule.{ValueRule}

-- a rule, by its parts
abbrev pub shown : Option (List ℕ) × (List ℕ × Allowed) → LimitParts
shown parts = (parts.0, (parts.1.0, limit_of parts.1.1))

pub limits-shown : (rules : List ValueRule) → map limit_parts rules ≡ map shown (map value_rule_parts rules)
limits-shown [] = refl
limits-shown (rule ∷ rules) = ap (λ rest. limit_parts rule ∷ rest) (limits-shown rules)

-- a limit more, behind some
pub limit-more : (base front : List LimitParts) (old new : List ValueRule) (target : Option (List ℕ)) (attribute : List ℕ)
    (allowed : Allowed) (limit : Limit) → map value_rule_parts new ≡ map value_rule_parts old ++ (target, (attribute, allowed)) ∷ []
    → limit_of allowed ≡ limit → map limit_parts old ≡ base ++ front
    → map limit_parts new ≡ base ++ (front ++ (target, (attribute, limit)) ∷ [])
limit-more base front old new target attribute allowed limit is allows was =
    limits-shown new
    ∙ (ap (map shown) is
    ∙ (map-append shown (map value_rule_parts old) ((target, (attribute, allowed)) ∷ [])
    ∙ (ap (λ (list : List LimitParts). list ++ (target, (attribute, limit_of allowed)) ∷ []) (sym (limits-shown old) ∙ was)
    ∙ (ap (λ (limit : Limit). (base ++ front) ++ (target, (attribute, limit)) ∷ []) allows
    ∙ append_assoc base front ((target, (attribute, limit)) ∷ [])))))
