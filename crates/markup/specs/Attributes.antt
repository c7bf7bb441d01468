-- Lists of attributes.
use Rattle.std.specs.Prelude.{◌&&◌, not, ℕ, Bool, true, List, [], ◌∷◌, nat_eq, Option, count_by}
use Rattle.std.specs.List.{list_all, list_any, position_from}
use Rattle.std.specs.Str.{bytes_eq}
use Rattle.markup.specs.Equality.{attribute_eq}
use Rattle.markup.specs.declared.attributes.Attribute.{Attribute}

-- whether one of the attributes has that local name, in any namespace
abbrev pub has_local_name : List ℕ → List Attribute → Bool
has_local_name name attributes = list_any (λ attribute. bytes_eq name attribute.name.local) attributes

-- where the first attribute with that local name is
abbrev pub place_of : List ℕ → List Attribute → Option ℕ
place_of name attributes = position_from (λ attribute. bytes_eq name attribute.name.local) 0 attributes

-- whether no local name comes twice
abbrev pub are_distinct : List Attribute → Bool
are_distinct [] = true
are_distinct (attribute ∷ rest) = not (has_local_name attribute.name.local rest) && are_distinct rest

-- how often an attribute is among some
abbrev pub count_of : Attribute → List Attribute → ℕ
count_of attribute attributes = count_by (attribute_eq attribute) attributes

-- whether each attribute of the first list is as often in the second
abbrev pub have_same_counts : List Attribute → List Attribute → Bool
have_same_counts first second = list_all (λ attribute. nat_eq (count_of attribute first) (count_of attribute second)) first
