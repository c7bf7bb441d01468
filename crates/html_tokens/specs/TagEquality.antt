-- Tags that differ at most in the order of their attributes, and the value of an attribute.
use Rattle.std.specs.Prelude.{◌≡◌, ℕ, List, find, IsPermutation, Option}
use Rattle.std.specs.Option.{option_map}
use Rattle.std.specs.Str.{bytes_eq}
use Rattle.markup.specs.declared.attributes.Attribute.{Attribute}
use Rattle.html_tokens.specs.declared.tags.Tag.{Tag}

-- one kind, one name, and the same attributes in some order
pub record IsEquivModuloAttrOrder (a b : Tag) : Type 0 where
  pub kind : a.kind ≡ b.kind
  pub name : a.name ≡ b.name
  pub attrs : IsPermutation a.attrs b.attrs

-- the value of the first attribute with this local name
abbrev pub value_of : List ℕ → List Attribute → Option (List ℕ)
value_of name attrs = option_map (λ a. a.value) (find (λ a. bytes_eq a.name.local name) attrs)

-- the relation is an equivalence
pub record IsTagEquivalence : Type 0 where
  pub reflexive : (a : Tag) → IsEquivModuloAttrOrder a a
  pub symmetric : (a b : Tag) → IsEquivModuloAttrOrder a b → IsEquivModuloAttrOrder b a
  pub transitive : (a b c : Tag) → IsEquivModuloAttrOrder a b → IsEquivModuloAttrOrder b c → IsEquivModuloAttrOrder a c
