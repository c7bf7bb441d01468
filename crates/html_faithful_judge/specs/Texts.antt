-- Names and attributes as they are emitted, and texts.
use Rattle.std.specs.Prelude.{ℕ, Bool, false, ◌&&◌, not, nat_eq, List, [], ◌∷◌, map, Option, Some, None}
use Rattle.std.specs.Char.{is_ascii_lowercase}
use Rattle.std.specs.List.{list_all}
use Rattle.markup.specs.declared.attributes.Attribute.{Attribute}
use Rattle.html_rules.specs.Choice.{choose}
use Rattle.html_faithful.specs.Forms.{are_told, is_attribute_name, is_kept, told_attribute}

-- whether a name begins with a lower-case letter
abbrev pub begins_lower : List ℕ → Bool
begins_lower [] = false
begins_lower (c ∷ cs) = is_ascii_lowercase c

-- whether an attribute that is emitted has the name and the value with which it is written
abbrev pub is_kept_attribute : Attribute → Bool
is_kept_attribute a = is_attribute_name a.name.local && is_kept a.value

-- the attributes that are emitted, where they have the names and the values with which they are written
abbrev pub emitted_attributes : List Attribute → Option (List Attribute)
emitted_attributes attributes = choose (are_told (map told_attribute attributes)) (λ _. Some (map told_attribute attributes)) (λ _. None)

-- a text without a character
abbrev pub lacks : ℕ → List ℕ → Bool
lacks a text = list_all (λ c. not (nat_eq c a)) text
