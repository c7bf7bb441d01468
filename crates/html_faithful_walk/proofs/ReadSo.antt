-- Attributes that are read with the names and the values that they have.
use Rattle.std.proofs.Common.{◌≡◌, ◌∙◌, ◌<◌, ℕ, true, List, [], ◌∷◌, ◌++◌, length, map, refl, ap, ap₂, sym, arith}
use Rattle.std.specs.Prelude.{◌&&◌, Option, Some, None, is_none}
use Rattle.std.specs.List.{list_all}
use Rattle.std.specs.Str.{bytes_eq}
use Rattle.std.proofs.lemmas.Bool.{and_parts}
use Rattle.std.proofs.lemmas.Slice.Eq.{bytes_eq-Decides}
use Rattle.markup.specs.Attributes.{are_distinct}
use Rattle.markup.specs.Escape.{attribute_prefix}
use Rattle.markup.specs.Namespaces.{known_namespace, name_of}
use Rattle.markup.specs.declared.attributes.Attribute.{Attribute}
use Rattle.markup.specs.declared.names.QualName.{QualName}
use Rattle.html_faithful.specs.Forms.{are_told, is_attribute_name, is_kept, lowered, told_attribute}
use Rattle.html_faithful_judge.proofs.LoweredNames.{name-lower}
use Rattle.html_faithful_walk.specs.Common.{are_read_so, is_read_so}

pub no-prefix : (local : List ℕ) → attribute_prefix (record { prefix = None; ns = []; local = local }) ≡ []
unfolding known_namespace name_of
no-prefix local = refl

none-is : {A : Type 0} (o : Option A) → is_none o ≡ true → o ≡ None
none-is None h = refl
none-is (Some x) h = absurd cc

-- an attribute is emitted as it is
pub told-so : (a : Attribute) → is_read_so a ≡ true → told_attribute a ≡ a
told-so a h =
    let parts = and_parts (is_none a.name.prefix && bytes_eq a.name.ns []) (is_attribute_name a.name.local && is_kept a.value) h in
    let place = and_parts (is_none a.name.prefix) (bytes_eq a.name.ns []) parts.0 in
    let named = and_parts (is_attribute_name a.name.local) (is_kept a.value) parts.1 in
    let prefix : a.name.prefix ≡ None = none-is a.name.prefix place.0 in
    let ns : a.name.ns ≡ [] = (bytes_eq-Decides a.name.ns []).0 place.1 in
    let is : a.name ≡ record { prefix = None; ns = []; local = a.name.local } =
    ap₂ (λ prefix ns. record { prefix = prefix; ns = ns; local = a.name.local }) prefix ns in
    ap (λ (name : QualName). told_attribute (record a { name = name })) is
    ∙ (ap (λ (local : List ℕ). record { name = record { prefix = None; ns = []; local = local }; value = a.value })
    (ap lowered (ap (λ front. front ++ a.name.local) (no-prefix a.name.local)) ∙ name-lower a.name.local named.0)
    ∙ ap (λ (name : QualName). record a { name = name }) (sym is))

pub all-told : (attributes : List Attribute) → list_all is_read_so attributes ≡ true → map told_attribute attributes ≡ attributes
all-told [] h = refl
all-told (a ∷ rest) h =
    let parts = and_parts (is_read_so a) (list_all is_read_so rest) h in
    ap₂ (λ a rest. a ∷ rest) (told-so a parts.0) (all-told rest parts.1)

all-kept : (attributes : List Attribute) → list_all is_read_so attributes ≡ true
    → list_all (λ a. is_attribute_name a.name.local && is_kept a.value) attributes ≡ true
all-kept [] h = refl
all-kept (a ∷ rest) h =
    let parts = and_parts (is_read_so a) (list_all is_read_so rest) h in
    ap₂ (λ b c. b && c)
    (and_parts (is_none a.name.prefix && bytes_eq a.name.ns []) (is_attribute_name a.name.local && is_kept a.value) parts.0).1
    (all-kept rest parts.1)

-- so are all
pub told : (attributes : List Attribute) → are_read_so attributes ≡ true → map told_attribute attributes ≡ attributes
told attributes h = all-told attributes (and_parts (list_all is_read_so attributes) (are_distinct attributes) h).0

pub are-told : (attributes : List Attribute) → are_read_so attributes ≡ true → are_told attributes ≡ true
are-told attributes h =
    let parts = and_parts (list_all is_read_so attributes) (are_distinct attributes) h in
    ap₂ (λ b c. b && c) (all-kept attributes parts.0) parts.1

-- no name comes twice where fewer than two attributes are
few-distinct : (attributes : List Attribute) → length attributes < 2 → are_distinct attributes ≡ true
few-distinct [] few = refl
few-distinct (a ∷ []) few = refl
few-distinct (a ∷ b ∷ rest) few = absurd (omega (arith, few))

pub few-read : (attributes : List Attribute) → length attributes < 2 → list_all is_read_so attributes ≡ true
    → are_read_so attributes ≡ true
few-read attributes few h = ap₂ (λ b c. b && c) h (few-distinct attributes few)
