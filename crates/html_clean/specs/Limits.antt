-- What rules for values say, as lists.
use Rattle.std.specs.Prelude.{ℕ, List, Option}
use Rattle.html_clean.specs.declared.policy.Allowed.{Allowed}
use Rattle.html_clean.specs.declared.policy.Allowed.TheVariants as allowed
use Rattle.html_clean.specs.declared.policy.IdForm.{IdForm}
use Rattle.html_clean.specs.declared.policy.ValueRule.{ValueRule}

-- what a value may be: one of some texts, words that are listed or begin so, a number, a URL of some schemes, names with a prefix, a URL
-- through a proxy, or one that is absolute
pub data Limit : Type 0 where
  Texts : List (List ℕ) → Limit
  Parts : List (List ℕ) → List (List ℕ) → Limit
  Numbers : ℕ → ℕ → Limit
  Schemes : List (List ℕ) → Limit
  Prefixed : IdForm → List ℕ → Limit
  Proxied : List ℕ → Limit
  Absolute : List ℕ → Limit

abbrev pub limit_of : Allowed → Limit
limit_of (allowed.OneOf texts) = Texts texts.items
limit_of (allowed.Words words beginnings) = Parts words.items beginnings.items
limit_of (allowed.Number least most) = Numbers least most
limit_of (allowed.Schemes schemes) = Schemes schemes.items
limit_of (allowed.Prefixed form prefix) = Prefixed form prefix
limit_of (allowed.Proxied prefix) = Proxied prefix
limit_of (allowed.Absolute base) = Absolute base

-- the element that a rule is for, if it is for one, the attribute, and what its value may be
abbrev pub LimitParts : Type 0
LimitParts = Option (List ℕ) × (List ℕ × Limit)

abbrev pub limit_parts : ValueRule → LimitParts
limit_parts rule = (rule.element, (rule.attribute, limit_of rule.allowed))
