-- Attributes with other values: what is made of a start tag does not depend on them, but for two attributes that rules look at.
use Rattle.std.specs.Prelude.{◌≡◌, ℕ, Bool, true, List, [], ◌∷◌, map, IfSome}
use Rattle.std.specs.List.{list_all, list_any}
use Rattle.markup.specs.declared.attributes.Attribute.{Attribute}
use Rattle.markup.specs.declared.names.QualName.{QualName}
use Rattle.html_rules.specs.Tokens.{is_shadow_mode, is_type_hidden}
use Rattle.html_faithful.specs.Forms.{is_kept, told_attribute}
use Rattle.html_faithful.specs.Holes.{AreTagsAlike}
use Rattle.html_faithful.specs.Spots.{Spot}
use Rattle.html_faithful.specs.Walk.{start_tag, started}

-- attributes with these values in place of their own, as far as these go
abbrev pub with_values : List (List ℕ) → List Attribute → List Attribute
with_values [] attributes = attributes
with_values (value ∷ values) [] = []
with_values (value ∷ values) (attribute ∷ rest) = record attribute { value = value } ∷ with_values values rest

-- what rules ask of values: whether `type` is `hidden` (HTML Standard, section 13.2.6.4.9), and whether `shadowrootmode` asks for a shadow
-- root (section 13.2.6.4.4)
pub record IsAskedSame (name : QualName) (a b : List Attribute) : Type 0 where
  pub hidden : is_type_hidden (start_tag name a) ≡ is_type_hidden (start_tag name b)
  pub shadow : list_any is_shadow_mode (map told_attribute a) ≡ list_any is_shadow_mode (map told_attribute b)

-- Where a start tag is taken, so it is with other values, which have no U+0000 and no U+000D.
abbrev pub AreValuesAlike : Type 0
AreValuesAlike = (name : QualName) (template : Bool) (p : Spot) (attributes : List Attribute) (values : List (List ℕ))
    → list_all is_kept values ≡ true → IsAskedSame name attributes (with_values values attributes)
    → IfSome (started name attributes template p) (λ made. AreTagsAlike name template p attributes (with_values values attributes))
