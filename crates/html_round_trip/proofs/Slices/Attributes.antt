-- Attributes as tags have them, and what is written of them.
use Rattle.std.proofs.Common.{◌≡◌, ◌∙◌, ℕ, true, List, [], ◌∷◌, ◌++◌, Option, Some, None, refl, ap}
use Rattle.std.specs.Prelude.{◌&&◌, is_none}
use Rattle.std.proofs.lemmas.Bool.{and_parts}
use Rattle.markup.specs.Escape.{escape_value, written_attribute}
use Rattle.markup.specs.Namespaces.{known_namespace, name_of}
use Rattle.markup.specs.declared.attributes.Attribute.{Attribute}
use Rattle.html_tokens.specs.Tags.{attribute}
use Rattle.html_round_trip.specs.Slices.Forms.{is_no_text}

no-prefix : (o : Option (List ℕ)) → is_none o ≡ true → o ≡ None
no-prefix None h = refl
no-prefix (Some x) h = absurd cc

no-text : (t : List ℕ) → is_no_text t ≡ true → t ≡ []
no-text [] h = refl
no-text (c ∷ t) h = absurd cc

-- an attribute of its parts
abbrev made : Option (List ℕ) → List ℕ → List ℕ → List ℕ → Attribute
made prefix ns local value = record { name = record { prefix = prefix; ns = ns; local = local }; value = value }

made-read : (prefix : Option (List ℕ)) (ns local value : List ℕ) → prefix ≡ None → ns ≡ []
    → made prefix ns local value ≡ attribute local value
made-read prefix ns local value h k = rw (h, k) refl

-- an attribute without prefix and namespace is one as tags have them
pub as-read : (a : Attribute) → (is_none a.name.prefix && is_no_text a.name.ns) ≡ true → a ≡ attribute a.name.local a.value
as-read a h =
    let p = and_parts (is_none a.name.prefix) (is_no_text a.name.ns) h in
    made-read a.name.prefix a.name.ns a.name.local a.value (no-prefix a.name.prefix p.0) (no-text a.name.ns p.1)

-- a name and a value in double quotes, after a space
abbrev pub quoted : List ℕ → List ℕ → List ℕ
quoted name value = 32 ∷ (name ++ 61 ∷ 34 ∷ (escape_value value ++ 34 ∷ []))

tag-written : (name value : List ℕ) → written_attribute (attribute name value) ≡ quoted name value
unfolding known_namespace name_of
tag-written name value = refl

-- such an attribute is written without a prefix
pub as-written : (a : Attribute) → (is_none a.name.prefix && is_no_text a.name.ns) ≡ true
    → written_attribute a ≡ quoted a.name.local a.value
as-written a h = ap written_attribute (as-read a h) ∙ tag-written a.name.local a.value
