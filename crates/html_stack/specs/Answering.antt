-- What a sink answers, as the rules have it.
use Rattle.std.specs.Prelude.{ℕ, Bool, List}
use Rattle.markup.specs.Forest.{Forest}
use Rattle.markup.specs.declared.attributes.Attribute.{Attribute}
use Rattle.html_rules.specs.State.{Answers}

abbrev pub answers_of : (Forest → ℕ → Bool) → (Forest → ℕ → Bool) → (Forest → ℕ → ℕ → List Attribute → Bool) → Answers
answers_of integration_point allows_shadow_roots attaches_shadow = record {
  integration_point = integration_point;
  allows_shadow_roots = allows_shadow_roots;
  attaches_shadow = attaches_shadow;
}
