-- Names of what a policy keeps in foreign content.
use Rattle.std.proofs.Common.{◌≡◌, ◌∙◌, ℕ, Bool, true, false, ◌||◌, List, [], ◌∷◌, map, Result, Ok, Err, ap, arith, refl, subst, sym, true≢false}
use Rattle.std.proofs.lemmas.Bool.{and_parts}
use Rattle.std.proofs.lemmas.Bool.Decides.{nat_tests}
use Rattle.std.proofs.lemmas.Slice.Eq.{bytes_eq-Decides}
use Rattle.std.specs.Char.{to_ascii_lowercase}
use Rattle.std.specs.List.{list_all}
use Rattle.std.specs.Prelude.{not, IfOk}
use Rattle.std.specs.Str.{bytes_eq}
use Rattle.markup.specs.Forest.{NodeData, data_of}
use Rattle.markup.specs.Forest.NodeData.{Document, Contents, Doctype, Text, Comment, ProcessingInstruction, Element as ElementNode}
use Rattle.markup.specs.Trees.{Trees}
use Rattle.markup.specs.declared.attributes.Attribute.{Attribute}
use Rattle.markup.specs.declared.names.QualName.{QualName}
use Rattle.html_tokens.specs.Clean.{is_clean_in_name}
use Rattle.html_rules.specs.Choice.{choose}
use Rattle.html_rules.specs.Names.{Html, MathMl, Namespace, Other, Svg, element_name_of}
use Rattle.html_rules.specs.Renames.{ForeignName, adjust_attributes, adjust_foreign_attribute, adjust_tag_name}
use Rattle.html_rules.specs.Renames.{foreign_attribute_names, foreign_named, mathml_attribute_names, rename_attribute, renamed}
use Rattle.html_rules.specs.Renames.{svg_attribute_names, svg_tag_names}
use Rattle.html_rules.specs.State.{Entry, Element, Marker, Open, State}
use Rattle.html_rules.specs.Step.{step}
use Rattle.html_rules_laws.specs.Usable.{Usable}
use Rattle.html_round_trip.specs.Slices.Forms.{is_attribute_name}
use Rattle.html_clean.proofs.Lawful.{attributes-sound, is_sound}
use Rattle.html_clean.specs.Cleaned.{are_lawful_attributes, cleaned, pieces_of}
use Rattle.html_clean.specs.Names.{is_safe_attribute, is_safe_name, safe_names}
use Rattle.html_clean.specs.Pieces.{telling}
use Rattle.html_clean.specs.Policies.{is_kept_name, is_plain_character, is_ruled, is_safe_attribute_name}
use Rattle.html_clean.specs.declared.policy.Policy.{Policy}
use Rattle.html_origins.specs.Allowed.{AreEntriesAllowed, AreOpenAllowed, IsAllowed, IsStateAllowed}
use Rattle.html_origins.specs.KeptTokens.{KeptOrigin, with_kept_origin}
use Rattle.html_origins.proofs.Rows.{among-all}
use Rattle.html_clean_tree.specs.Elements.{CleanedOrigin, is_bare, is_kept_element, lowered_attribute, with_cleaned_origin}
use Rattle.html_clean_tree.proofs.Pieces.{pieces-origins}

-- CHARACTERS AND NAMES IN LOWER CASE

lower-same : (c : ℕ) → is_clean_in_name c ≡ true → to_ascii_lowercase c ≡ c
lower-same c h = grind (arith, nat_tests)

lower-all : (cs : List ℕ) → list_all is_clean_in_name cs ≡ true → map to_ascii_lowercase cs ≡ cs
lower-all [] h = refl
lower-all (c ∷ cs) h =
    let parts = and_parts (is_clean_in_name c) (list_all is_clean_in_name cs) h in
    rw (lower-same c parts.0, lower-all cs parts.1)

name-lower : (name : List ℕ) → is_attribute_name name ≡ true → map to_ascii_lowercase name ≡ name
name-lower [] h = refl
name-lower (c ∷ cs) h = lower-all (c ∷ cs) h

safe-lower : (name : List ℕ) → is_safe_attribute name ≡ true → map to_ascii_lowercase name ≡ name
unfolding is_safe_attribute
safe-lower name h = name-lower name (and_parts (is_attribute_name name) _ h).0

-- a name that is given letters in upper case is itself in lower case
renamed-lower : (names : List (List ℕ)) (name : List ℕ) → map to_ascii_lowercase name ≡ name
    → map to_ascii_lowercase (renamed names name) ≡ name
renamed-lower [] name h = h
renamed-lower (x ∷ xs) name h = by (bytes_eq name (map to_ascii_lowercase x)) refl (renamed-lower xs name h) where
  by : (b : Bool) → bytes_eq name (map to_ascii_lowercase x) ≡ b → map to_ascii_lowercase (renamed xs name) ≡ name
      → map to_ascii_lowercase (choose b (λ _. x) (λ _. renamed xs name)) ≡ name
  by true e rest = sym ((bytes_eq-Decides name (map to_ascii_lowercase x)).0 e)
  by false e rest = rest

-- ATTRIBUTES

-- no name with a namespace of its own is safe
abbrev is_unsafe_written : ForeignName → Bool
is_unsafe_written x = not (is_safe_attribute (map to_ascii_lowercase x.written))

none-foreign : list_all is_unsafe_written foreign_attribute_names ≡ true
unfolding foreign_attribute_names is_safe_attribute
none-foreign = refl

foreign-same : (xs : List ForeignName) (name : QualName) → list_all is_unsafe_written xs ≡ true
    → is_safe_attribute (map to_ascii_lowercase name.local) ≡ true → foreign_named xs name ≡ name
foreign-same [] name h safe = refl
foreign-same (x ∷ xs) name h safe =
    let parts = and_parts (is_unsafe_written x) (list_all is_unsafe_written xs) h in
    by (bytes_eq name.local x.written) refl parts.0 (foreign-same xs name parts.1 safe)
  where
    clash : (b : Bool) → not b ≡ true → b ≡ true → true ≡ false
    clash true h e = sym h
    clash false h e = sym e

    by : (b : Bool) → bytes_eq name.local x.written ≡ b → is_unsafe_written x ≡ true → foreign_named xs name ≡ name
        → choose b (λ _. x.name) (λ _. foreign_named xs name) ≡ name
    by true e unsafe rest = absurd (true≢false (clash _ unsafe
        (subst (λ n. is_safe_attribute (map to_ascii_lowercase n) ≡ true) ((bytes_eq-Decides name.local x.written).0 e) safe)))
    by false e unsafe rest = rest

sound-safe : (a : Attribute) → is_sound a ≡ true → is_safe_attribute a.name.local ≡ true
sound-safe a h =
    let named = (and_parts (is_safe_attribute_name a.name) (list_all is_plain_character a.value) h).0 in
    (and_parts (is_safe_attribute a.name.local) _ named).0

-- an attribute whose name is renamed in foreign content is itself in lower case
one-lower : (names : List (List ℕ)) (a : Attribute) → is_safe_attribute a.name.local ≡ true
    → lowered_attribute (adjust_foreign_attribute (rename_attribute names a)) ≡ a
one-lower names a safe =
    let same = renamed-lower names a.name.local (safe-lower a.name.local safe) in
    let made : QualName = record a.name { local = renamed names a.name.local } in
    let stays = foreign-same foreign_attribute_names made none-foreign (rw same safe) in
    ap (λ (name : QualName). lowered_attribute (record a { name = name })) stays
    ∙ ap (λ local. record a { name = record a.name { local = local } }) same

renamed-none : (name : List ℕ) → renamed [] name ≡ name
renamed-none name = refl

lower-list : (names : List (List ℕ)) (attributes : List Attribute) → list_all is_sound attributes ≡ true
    → map lowered_attribute (map adjust_foreign_attribute (map (rename_attribute names) attributes)) ≡ attributes
lower-list names [] h = refl
lower-list names (a ∷ rest) h =
    let parts = and_parts (is_sound a) (list_all is_sound rest) h in
    rw (one-lower names a (sound-safe a parts.0), lower-list names rest parts.1)

same-list : (attributes : List Attribute) → map (rename_attribute []) attributes ≡ attributes
same-list [] = refl
same-list (a ∷ rest) = ap (λ xs. a ∷ xs) (same-list rest)

own-list : (attributes : List Attribute) → list_all is_sound attributes ≡ true
    → map lowered_attribute (map adjust_foreign_attribute attributes) ≡ attributes
own-list attributes h = subst (λ xs. map lowered_attribute (map adjust_foreign_attribute xs) ≡ attributes) (same-list attributes)
    (lower-list [] attributes h)

sound-lower : (namespace : Namespace) (attributes : List Attribute) → list_all is_sound attributes ≡ true
    → map lowered_attribute (adjust_attributes namespace attributes) ≡ attributes
unfolding adjust_attributes
sound-lower Html attributes h = own-list attributes h
sound-lower MathMl attributes h = lower-list mathml_attribute_names attributes h
sound-lower Svg attributes h = lower-list svg_attribute_names attributes h
sound-lower (Other uri) attributes h = own-list attributes h

pub attributes-lower : (policy : Policy) (element : List ℕ) (namespace : Namespace) (attributes : List Attribute)
    → are_lawful_attributes policy element attributes ≡ true → map lowered_attribute (adjust_attributes namespace attributes) ≡ attributes
attributes-lower policy element namespace attributes h = sound-lower namespace attributes (attributes-sound policy element attributes h)

-- ELEMENTS

-- the names that may be kept are those of no SVG element with letters in upper case
safe-svg : list_all (λ name. bytes_eq (renamed svg_tag_names name) name) safe_names ≡ true
unfolding svg_tag_names
safe-svg = refl

kept-name : (policy : Policy) (name : List ℕ) → is_kept_name policy name ≡ true → is_safe_name name ≡ true
kept-name policy name h = (and_parts (is_safe_name name) (is_ruled policy.kept.items name) h).0

tag-same : (namespace : Namespace) (name : List ℕ) → is_safe_name name ≡ true → adjust_tag_name namespace name ≡ name
unfolding is_safe_name
tag-same Svg name h = (bytes_eq-Decides (renamed svg_tag_names name) name).0
    (among-all (λ name. bytes_eq (renamed svg_tag_names name) name) name safe_names safe-svg h)
tag-same Html name h = refl
tag-same MathMl name h = refl
tag-same (Other uri) name h = refl

module _ (policy : Policy) (s : State) where
  all-lower : (namespace : Namespace) (name : List ℕ) (attributes : List Attribute)
      → (is_bare attributes || are_lawful_attributes policy name attributes) ≡ true
      → map lowered_attribute (adjust_attributes namespace attributes) ≡ attributes
  all-lower namespace name [] h = sound-lower namespace [] refl
  all-lower namespace name (a ∷ rest) h = attributes-lower policy name namespace (a ∷ rest) h

  foreign-kept : (namespace : Namespace) (name : List ℕ) (attributes : List Attribute) → is_kept_element policy name attributes ≡ true
      → is_kept_element policy name (map lowered_attribute (adjust_attributes namespace attributes)) ≡ true
  foreign-kept namespace name attributes h =
      let parts = and_parts (is_kept_name policy name) (is_bare attributes || are_lawful_attributes policy name attributes) h in
      rw (all-lower namespace name attributes parts.1) h

  origin : (n : ℕ) (name : QualName) (attributes : List Attribute) → KeptOrigin (is_kept_element policy) s n name attributes
      → CleanedOrigin policy s n name attributes
  origin _ _ _ (KeptOrigin.Old n t i e) = CleanedOrigin.Old n t i e
  origin _ _ _ (KeptOrigin.Listed n new tag listed) = CleanedOrigin.Listed n new tag listed
  origin _ _ _ (KeptOrigin.Own n new local own kept) = CleanedOrigin.Kept n new local own kept
  origin _ _ _ (KeptOrigin.Foreign n new namespace local own kept space) =
      let parts = and_parts (is_kept_name policy local) _ kept in
      subst (λ x. CleanedOrigin policy s n (element_name_of namespace x) (adjust_attributes namespace own))
      (sym (tag-same namespace local (kept-name policy local parts.0)))
      (CleanedOrigin.Foreign n new namespace space local (adjust_attributes namespace own) (foreign-kept namespace local own kept))
  origin _ _ _ (KeptOrigin.Implied n new local among) = CleanedOrigin.Implied n new local among
  origin _ _ _ (KeptOrigin.WithAdded n tag own others among kept was) =
      CleanedOrigin.WithAdded n tag own others among kept (origin n _ own was)

  allowed : (n : ℕ) (about : NodeData) → IsAllowed (with_kept_origin (is_kept_element policy) s) n about
      → IsAllowed (with_cleaned_origin policy s) n about
  allowed n (ElementNode name attributes template integration_point) h = origin n name attributes h
  allowed n Document h = tt
  allowed n Contents h = tt
  allowed n (Doctype name public_id system_id) h = tt
  allowed n (Text text) h = tt
  allowed n (Comment text) h = tt
  allowed n (ProcessingInstruction target text) h = tt

  listed : (es : List Entry) → AreEntriesAllowed (with_kept_origin (is_kept_element policy) s) es
      → AreEntriesAllowed (with_cleaned_origin policy s) es
  listed [] h = tt
  listed (Marker ∷ es) h = listed es h
  listed (Element n tag ∷ es) h = (λ m new. origin m _ tag.attrs (h.0 m new), listed es h.1)

  opened : (xs : List Open) → AreOpenAllowed (with_kept_origin (is_kept_element policy) s) xs
      → AreOpenAllowed (with_cleaned_origin policy s) xs
  opened [] h = tt
  opened (x ∷ xs) h = (h.0, opened xs h.1)

  state : (q : State) → IsStateAllowed (with_kept_origin (is_kept_element policy) s) q → IsStateAllowed (with_cleaned_origin policy s) q
  state q is = record {
    elements = record { each = λ n. allowed n (data_of q.forest n) (is.elements.each n); count = is.elements.count };
    listed = listed q.active_formatting is.listed;
    opened = opened q.open_elems is.opened;
    context = is.context;
  }

pub elements-cleaned : (policy : Policy) (trees : Trees) (breaks : ℕ) (s : State) → Usable s
    → IfOk (telling step breaks s (pieces_of (cleaned policy trees))) (λ after. IsStateAllowed (with_cleaned_origin policy s) after)
elements-cleaned policy trees breaks s usable = by (telling step breaks s (pieces_of (cleaned policy trees)))
    (pieces-origins policy trees breaks s usable) where
      by : {E : Type 0} (r : Result State E) → IfOk r (λ after. IsStateAllowed (with_kept_origin (is_kept_element policy) s) after)
          → IfOk r (λ after. IsStateAllowed (with_cleaned_origin policy s) after)
      by (Ok q) h = state policy s q h
      by (Err e) h = tt
