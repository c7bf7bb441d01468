-- Attributes of SVG that are read in lower case, and get their names back.
use Rattle.std.proofs.Common.{◌≡◌, ◌∙◌, ℕ, Bool, true, false, List, [], ◌∷◌, ◌++◌, map, Option, Some, None, refl, ap, ap₂, sym}
use Rattle.std.specs.Prelude.{◌&&◌, ◌||◌, codes, not, is_none}
use Rattle.std.specs.List.{list_all}
use Rattle.std.specs.Str.{bytes_eq}
use Rattle.std.proofs.lemmas.Bool.{and_parts}
use Rattle.std.proofs.lemmas.Slice.Eq.{bytes_eq-Decides}
use Rattle.markup.specs.Attributes.{are_distinct, has_local_name}
use Rattle.markup.specs.Namespaces.{known_namespace, name_of}
use Rattle.markup.specs.Trees.{is_among}
use Rattle.markup.specs.declared.attributes.Attribute.{Attribute}
use Rattle.markup.specs.declared.names.QualName.{QualName}
use Rattle.html_rules.specs.Names.{Svg}
use Rattle.html_rules.specs.Renames.{adjust_attributes, adjust_foreign_attribute, foreign_attribute_names, rename_attribute, renamed}
use Rattle.html_rules.specs.Renames.{foreign_named, svg_attribute_names, xmlns_namespace}
use Rattle.html_faithful.specs.Forms.{are_told, is_attribute_name, is_kept, lowered, told_attribute}
use Rattle.html_faithful_walk.specs.Common.{is_bare}
use Rattle.html_faithful_walk.specs.Kinds.{is_told_back}
use Rattle.html_faithful_walk.specs.Svg.{are_svg_read, is_empty, is_svg_read, is_xmlns}
use Rattle.html_faithful_walk.proofs.CommonTags.{is-not, none-is}
use Rattle.html_faithful_walk.proofs.ReadSo.{no-prefix}
use Rattle.html_faithful_walk.proofs.SvgNames.{foreign-other}

abbrev bare : List ℕ → QualName
bare local = record { prefix = None; ns = []; local = local }

-- the name that an attribute gets which is read with a name
abbrev svg_back : List ℕ → QualName
svg_back told = foreign_named foreign_attribute_names (bare (renamed svg_attribute_names told))

abbrev with_name : List ℕ → Attribute → Attribute
with_name local a = record { name = bare local; value = a.value }

-- what is so of an attribute that gets its name back
record Back (a : Attribute) : Type 0 where
  lower : List ℕ
  told : told_attribute a ≡ with_name lower a
  tag : is_attribute_name lower ≡ true
  back : svg_back lower ≡ a.name
  kept : is_kept a.value ≡ true

bare-back : (a : Attribute) → (is_bare a.name && is_told_back a.name.local) ≡ true → is_kept a.value ≡ true → Back a
bare-back a h k =
    let own = and_parts (is_bare a.name) (is_told_back a.name.local) h in
    let place = and_parts (is_none a.name.prefix) (bytes_eq a.name.ns []) own.0 in
    let told = and_parts (is_attribute_name (lowered a.name.local))
    (bytes_eq (renamed svg_attribute_names (lowered a.name.local)) a.name.local
    && not (is_among a.name.local (map (λ x. x.written) foreign_attribute_names))) own.1 in
    let names = and_parts (bytes_eq (renamed svg_attribute_names (lowered a.name.local)) a.name.local)
    (not (is_among a.name.local (map (λ x. x.written) foreign_attribute_names))) told.1 in
    let name : a.name ≡ bare a.name.local =
    ap₂ (λ prefix ns. record { prefix = prefix; ns = ns; local = a.name.local }) (none-is a.name.prefix place.0)
    ((bytes_eq-Decides a.name.ns []).0 place.1) in
    record {
      lower = lowered a.name.local;
      told = ap (λ (name : QualName). told_attribute (record a { name = name })) name
          ∙ ap (λ (front : List ℕ). with_name (lowered (front ++ a.name.local)) a) (no-prefix a.name.local);
      tag = told.0;
      back = ap (λ (local : List ℕ). foreign_named foreign_attribute_names (bare local))
          ((bytes_eq-Decides (renamed svg_attribute_names (lowered a.name.local)) a.name.local).0 names.0)
          ∙ (foreign-other foreign_attribute_names (bare a.name.local)
          (is-not (is_among a.name.local (map (λ x. x.written) foreign_attribute_names)) names.1)
          ∙ sym name);
      kept = k;
    }

-- `xmlns`
abbrev xmlns : QualName
xmlns = record { prefix = Some []; ns = xmlns_namespace; local = codes "xmlns" }

xmlns-told : (value : List ℕ)
    → told_attribute (record { name = xmlns; value = value }) ≡ record { name = bare (codes "xmlns"); value = value }
unfolding xmlns_namespace known_namespace name_of
xmlns-told value = refl

xmlns-back : svg_back (codes "xmlns") ≡ xmlns
unfolding xmlns_namespace svg_attribute_names foreign_attribute_names
xmlns-back = refl

empty-is : (o : Option (List ℕ)) → is_empty o ≡ true → o ≡ Some []
empty-is None h = absurd cc
empty-is (Some []) h = refl
empty-is (Some (c ∷ cs)) h = absurd cc

xmlns-is : (name : QualName) → is_xmlns name ≡ true → name ≡ xmlns
xmlns-is name h =
    let parts = and_parts (is_empty name.prefix) (bytes_eq name.ns xmlns_namespace && bytes_eq name.local (codes "xmlns")) h in
    let own = and_parts (bytes_eq name.ns xmlns_namespace) (bytes_eq name.local (codes "xmlns")) parts.1 in
    ap₂ (λ prefix ns. record { prefix = prefix; ns = ns; local = name.local }) (empty-is name.prefix parts.0)
    ((bytes_eq-Decides name.ns xmlns_namespace).0 own.0)
    ∙ ap (λ (local : List ℕ). record { prefix = Some []; ns = xmlns_namespace; local = local })
    ((bytes_eq-Decides name.local (codes "xmlns")).0 own.1)

xmlns-so : (a : Attribute) → is_xmlns a.name ≡ true → is_kept a.value ≡ true → Back a
xmlns-so a h k =
    let name : a.name ≡ xmlns = xmlns-is a.name h in
    record {
      lower = codes "xmlns";
      told = ap (λ (name : QualName). told_attribute (record a { name = name })) name ∙ xmlns-told a.value;
      tag = refl;
      back = xmlns-back ∙ sym name;
      kept = k;
    }

back-by : (a : Attribute) (b : Bool) → (is_bare a.name && is_told_back a.name.local) ≡ b → (b || is_xmlns a.name) ≡ true
    → is_kept a.value ≡ true → Back a
back-by a true e h k = bare-back a e k
back-by a false e h k = xmlns-so a h k

back-so : (a : Attribute) → is_svg_read a ≡ true → Back a
back-so a h =
    let parts = and_parts ((is_bare a.name && is_told_back a.name.local) || is_xmlns a.name) (is_kept a.value) h in
    back-by a (is_bare a.name && is_told_back a.name.local) refl parts.0 parts.1

-- it gets its name back
back-one : (a : Attribute) → Back a → adjust_foreign_attribute (rename_attribute svg_attribute_names (told_attribute a)) ≡ a
back-one a is =
    ap (λ (b : Attribute). adjust_foreign_attribute (rename_attribute svg_attribute_names b)) is.told
    ∙ ap (λ (name : QualName). record a { name = name }) is.back

data AllBack : List Attribute → Type 0 where
  End : AllBack []
  One : {a : Attribute} {rest : List Attribute} → Back a → AllBack rest → AllBack (a ∷ rest)

all-back : (attributes : List Attribute) → list_all is_svg_read attributes ≡ true → AllBack attributes
all-back [] h = End
all-back (a ∷ rest) h =
    let both = and_parts (is_svg_read a) (list_all is_svg_read rest) h in
    One (back-so a both.0) (all-back rest both.1)

adjusted-all : (attributes : List Attribute) → AllBack attributes
    → map adjust_foreign_attribute (map (rename_attribute svg_attribute_names) (map told_attribute attributes)) ≡ attributes
adjusted-all [] End = refl
adjusted-all (a ∷ rest) (One is all) = ap₂ (λ (x : Attribute) (xs : List Attribute). x ∷ xs) (back-one a is) (adjusted-all rest all)

abbrev is_told_one : Attribute → Bool
is_told_one a = is_attribute_name a.name.local && is_kept a.value

told-one : (a : Attribute) → Back a → is_told_one (told_attribute a) ≡ true
told-one a is = ap is_told_one is.told ∙ ap₂ (λ b c. b && c) is.tag is.kept

told-all : (attributes : List Attribute) → AllBack attributes → list_all is_told_one (map told_attribute attributes) ≡ true
told-all [] End = refl
told-all (a ∷ rest) (One is all) = ap₂ (λ b c. b && c) (told-one a is) (told-all rest all)

-- no name comes twice in lower case either
apart-one : (a b : Attribute) → Back a → Back b → bytes_eq a.name.local b.name.local ≡ false
    → bytes_eq (told_attribute a).name.local (told_attribute b).name.local ≡ false
apart-one a b is its h = by (bytes_eq (told_attribute a).name.local (told_attribute b).name.local) refl
  where
    by : (c : Bool) → bytes_eq (told_attribute a).name.local (told_attribute b).name.local ≡ c → c ≡ false
    by false e = refl
    by true e =
        let same : (told_attribute a).name.local ≡ (told_attribute b).name.local =
        (bytes_eq-Decides (told_attribute a).name.local (told_attribute b).name.local).0 e in
        let lower : is.lower ≡ its.lower =
        sym (ap (λ (x : Attribute). x.name.local) is.told) ∙ (same ∙ ap (λ (x : Attribute). x.name.local) its.told) in
        let equal : a.name.local ≡ b.name.local =
        ap (λ (name : QualName). name.local) (sym is.back ∙ (ap svg_back lower ∙ its.back)) in
        sym ((bytes_eq-Decides a.name.local b.name.local).1 equal) ∙ h

or-parts : (a b : Bool) → (a || b) ≡ false → (a ≡ false) × (b ≡ false)
or-parts false false h = (refl, refl)
or-parts true b h = absurd cc
or-parts a true h = absurd cc

apart-all : (a : Attribute) (rest : List Attribute) → Back a → AllBack rest → has_local_name a.name.local rest ≡ false
    → has_local_name (told_attribute a).name.local (map told_attribute rest) ≡ false
apart-all a [] is End h = refl
apart-all a (b ∷ rest) is (One its all) h =
    let parts = or-parts (bytes_eq a.name.local b.name.local) (has_local_name a.name.local rest) h in
    rw (apart-one a b is its parts.0) (apart-all a rest is all parts.1)

distinct-all : (attributes : List Attribute) → AllBack attributes → are_distinct attributes ≡ true
    → are_distinct (map told_attribute attributes) ≡ true
distinct-all [] End h = refl
distinct-all (a ∷ rest) (One is all) h =
    let parts = and_parts (not (has_local_name a.name.local rest)) (are_distinct rest) h in
    rw (apart-all a rest is all (is-not (has_local_name a.name.local rest) parts.0)) (distinct-all rest all parts.1)

pub svg-adjusted : (attributes : List Attribute) → are_svg_read attributes ≡ true
    → adjust_attributes Svg (map told_attribute attributes) ≡ attributes
unfolding adjust_attributes
svg-adjusted attributes h =
    adjusted-all attributes (all-back attributes (and_parts (list_all is_svg_read attributes) (are_distinct attributes) h).0)

pub svg-told : (attributes : List Attribute) → are_svg_read attributes ≡ true → are_told (map told_attribute attributes) ≡ true
svg-told attributes h =
    let parts = and_parts (list_all is_svg_read attributes) (are_distinct attributes) h in
    let all = all-back attributes parts.0 in
    ap₂ (λ b c. b && c) (told-all attributes all) (distinct-all attributes all parts.1)
