-- Attributes at which no rule looks.
use Rattle.std.proofs.Common.{◌≡◌, ◌∙◌, ℕ, Bool, true, false, List, [], ◌∷◌, map, Option, Some, None, refl, ap, ap₂, sym}
use Rattle.std.specs.Prelude.{◌&&◌, ◌||◌, not, codes, option_map}
use Rattle.std.specs.List.{find, list_all, list_any}
use Rattle.std.specs.Str.{bytes_eq}
use Rattle.std.proofs.lemmas.Bool.{and_parts}
use Rattle.std.proofs.lemmas.Slice.Eq.{bytes_eq-Decides}
use Rattle.markup.specs.Attributes.{are_distinct}
use Rattle.markup.specs.Trees.{is_among}
use Rattle.markup.specs.declared.attributes.Attribute.{Attribute}
use Rattle.markup.specs.declared.names.QualName.{QualName}
use Rattle.html_rules.specs.ForeignContent.{is_font_attribute}
use Rattle.html_rules.specs.Names.{Html, MathMl, Namespace, Other, Svg, equals_any_case}
use Rattle.html_rules.specs.Renames.{adjust_attributes, adjust_foreign_attribute, foreign_attribute_names}
use Rattle.html_rules.specs.Renames.{mathml_attribute_names, rename_attribute, renamed, svg_attribute_names}
use Rattle.html_rules.specs.Tokens.{is_hidden_value, is_shadow_mode}
use Rattle.html_faithful.specs.Forms.{is_attribute_name}
use Rattle.html_faithful.specs.Harmless.{Made}
use Rattle.html_faithful.specs.Spots.{Spot}
use Rattle.html_faithful.specs.Walk.{started}
use Rattle.html_faithful.proofs.Bare.{AreBare, bared, started-bare}
use Rattle.html_faithful_walk.specs.Common.{are_free, are_read_so, before_kids, is_free, is_plain_type, is_read_so}
use Rattle.html_faithful_walk.specs.Kinds.{asked_names, is_free_name, keeps_name}
use Rattle.html_faithful_walk.proofs.CommonTags.{is-not}
use Rattle.html_faithful_walk.proofs.ReadSo.{are-told, told}
use Rattle.html_faithful_walk.proofs.SvgNames.{foreign-other}

-- ONE ATTRIBUTE

-- what is so of a name
record Apart (name : List ℕ) : Type 0 where
  svg : renamed svg_attribute_names name ≡ name
  mathml : renamed mathml_attribute_names name ≡ name
  foreign : is_among name (map (λ x. x.written) foreign_attribute_names) ≡ false
  font : ((bytes_eq name (codes "color") || bytes_eq name (codes "face")) || bytes_eq name (codes "size")) ≡ false
  shadow : bytes_eq name (codes "shadowrootmode") ≡ false

type-apart : Apart (codes "type")
unfolding svg_attribute_names foreign_attribute_names
type-apart = record { svg = refl; mathml = refl; foreign = refl; font = refl; shadow = refl }

-- none of five
record Neither (a b c d e : Bool) : Type 0 where
  first : a ≡ false
  second : b ≡ false
  third : c ≡ false
  fourth : d ≡ false
  fifth : e ≡ false

neither : (a b c d e : Bool) → not (a || (b || (c || (d || (e || false))))) ≡ true → Neither a b c d e
neither false false false false false h = record { first = refl; second = refl; third = refl; fourth = refl; fifth = refl }
neither true b c d e h = absurd cc
neither false true c d e h = absurd cc
neither false false true d e h = absurd cc
neither false false false true e h = absurd cc
neither false false false false true h = absurd cc

module _ (name : List ℕ) (h : is_free_name name ≡ true) where
  parts : (is_attribute_name name ≡ true)
      × (((keeps_name name && bytes_eq (renamed mathml_attribute_names name) name) && not (is_among name asked_names)) ≡ true)
  parts = and_parts (is_attribute_name name)
      ((keeps_name name && bytes_eq (renamed mathml_attribute_names name) name) && not (is_among name asked_names)) h

  keeps : ((keeps_name name && bytes_eq (renamed mathml_attribute_names name) name) ≡ true) × (not (is_among name asked_names) ≡ true)
  keeps = and_parts (keeps_name name && bytes_eq (renamed mathml_attribute_names name) name) (not (is_among name asked_names)) parts.1

  own : (keeps_name name ≡ true) × (bytes_eq (renamed mathml_attribute_names name) name ≡ true)
  own = and_parts (keeps_name name) (bytes_eq (renamed mathml_attribute_names name) name) keeps.0

  kept : (bytes_eq (renamed svg_attribute_names name) name ≡ true)
      × (not (is_among name (map (λ x. x.written) foreign_attribute_names)) ≡ true)
  kept = and_parts (bytes_eq (renamed svg_attribute_names name) name) (not (is_among name (map (λ x. x.written) foreign_attribute_names)))
      own.0

  asked : Neither (bytes_eq name (codes "color")) (bytes_eq name (codes "face")) (bytes_eq name (codes "shadowrootmode"))
      (bytes_eq name (codes "size")) (bytes_eq name (codes "type"))
  asked = neither (bytes_eq name (codes "color")) (bytes_eq name (codes "face")) (bytes_eq name (codes "shadowrootmode"))
      (bytes_eq name (codes "size")) (bytes_eq name (codes "type")) keeps.1

  name-apart : Apart name
  name-apart = record {
    svg = (bytes_eq-Decides (renamed svg_attribute_names name) name).0 kept.0;
    mathml = (bytes_eq-Decides (renamed mathml_attribute_names name) name).0 own.1;
    foreign = is-not (is_among name (map (λ x. x.written) foreign_attribute_names)) kept.1;
    font = rw (asked.first, asked.second, asked.fourth) refl;
    shadow = asked.third;
  }

-- what is so of an attribute
record Free (a : Attribute) : Type 0 where
  apart : Apart a.name.local
  hidden : bytes_eq a.name.local (codes "type") ≡ true → equals_any_case a.value (codes "hidden") ≡ false

free-by : (a : Attribute) (b : Bool) → is_free_name a.name.local ≡ b → (b || is_plain_type a) ≡ true → Free a
free-by a true e h = record {
  apart = name-apart a.name.local e;
  hidden = λ is. by (bytes_eq a.name.local (codes "type")) is (asked a.name.local e).fifth;
}
  where
    by : (t : Bool) → t ≡ true → t ≡ false → equals_any_case a.value (codes "hidden") ≡ false
    by true is not = absurd cc
    by false is not = absurd cc
free-by a false e h =
    let both = and_parts (bytes_eq a.name.local (codes "type")) (not (equals_any_case a.value (codes "hidden"))) h in
    let is : a.name.local ≡ codes "type" = (bytes_eq-Decides a.name.local (codes "type")).0 both.0 in
    record {
      apart = rw is type-apart;
      hidden = λ _. is-not (equals_any_case a.value (codes "hidden")) both.1;
    }

free-so : (a : Attribute) → is_free a ≡ true → Free a
free-so a h = free-by a (is_free_name a.name.local) refl (and_parts (is_read_so a) (is_free_name a.name.local || is_plain_type a) h).1

-- it stays as it is in foreign content
foreign-kept : (a : Attribute) → Free a → adjust_foreign_attribute a ≡ a
foreign-kept a free = ap (λ (name : QualName). record a { name = name }) (foreign-other foreign_attribute_names a.name free.apart.foreign)

svg-kept : (a : Attribute) → Free a → adjust_foreign_attribute (rename_attribute svg_attribute_names a) ≡ a
svg-kept a free =
    ap (λ (local : List ℕ). adjust_foreign_attribute (record a { name = record a.name { local = local } })) free.apart.svg
    ∙ foreign-kept a free

mathml-kept : (a : Attribute) → Free a → adjust_foreign_attribute (rename_attribute mathml_attribute_names a) ≡ a
mathml-kept a free =
    ap (λ (local : List ℕ). adjust_foreign_attribute (record a { name = record a.name { local = local } })) free.apart.mathml
    ∙ foreign-kept a free

-- ALL OF THEM

data AllFree : List Attribute → Type 0 where
  End : AllFree []
  One : {a : Attribute} {rest : List Attribute} → Free a → AllFree rest → AllFree (a ∷ rest)

all-free : (attributes : List Attribute) → list_all is_free attributes ≡ true → AllFree attributes
all-free [] h = End
all-free (a ∷ rest) h =
    let both = and_parts (is_free a) (list_all is_free rest) h in
    One (free-so a both.0) (all-free rest both.1)

foreign-all : (attributes : List Attribute) → AllFree attributes → map adjust_foreign_attribute attributes ≡ attributes
foreign-all [] End = refl
foreign-all (a ∷ rest) (One free all) = ap₂ (λ (x : Attribute) (xs : List Attribute). x ∷ xs) (foreign-kept a free) (foreign-all rest all)

svg-all : (attributes : List Attribute) → AllFree attributes
    → map adjust_foreign_attribute (map (rename_attribute svg_attribute_names) attributes) ≡ attributes
svg-all [] End = refl
svg-all (a ∷ rest) (One free all) = ap₂ (λ (x : Attribute) (xs : List Attribute). x ∷ xs) (svg-kept a free) (svg-all rest all)

mathml-all : (attributes : List Attribute) → AllFree attributes
    → map adjust_foreign_attribute (map (rename_attribute mathml_attribute_names) attributes) ≡ attributes
mathml-all [] End = refl
mathml-all (a ∷ rest) (One free all) = ap₂ (λ (x : Attribute) (xs : List Attribute). x ∷ xs) (mathml-kept a free) (mathml-all rest all)

adjusted-all : (attributes : List Attribute) → AllFree attributes → (namespace : Namespace)
    → adjust_attributes namespace attributes ≡ attributes
unfolding adjust_attributes
adjusted-all attributes all Html = foreign-all attributes all
adjusted-all attributes all MathMl = mathml-all attributes all
adjusted-all attributes all Svg = svg-all attributes all
adjusted-all attributes all (Other uri) = foreign-all attributes all

font-all : (attributes : List Attribute) → AllFree attributes → list_any is_font_attribute attributes ≡ false
font-all [] End = refl
font-all (a ∷ rest) (One free all) = rw free.apart.font (font-all rest all)

shadow-all : (attributes : List Attribute) → AllFree attributes → list_any is_shadow_mode attributes ≡ false
shadow-all [] End = refl
shadow-all (a ∷ rest) (One free all) = rw free.apart.shadow (shadow-all rest all)

abbrev is_hidden_in : List Attribute → Bool
is_hidden_in attributes = is_hidden_value (option_map (λ a. a.value) (find (λ a. bytes_eq a.name.local (codes "type")) attributes))

hidden-by : (a : Attribute) (rest : List Attribute) (b : Bool) → bytes_eq a.name.local (codes "type") ≡ b → Free a
    → is_hidden_in rest ≡ false → is_hidden_in (a ∷ rest) ≡ false
hidden-by a rest true e free others = rw e (free.hidden e)
hidden-by a rest false e free others = rw e others

hidden-all : (attributes : List Attribute) → AllFree attributes
    → is_hidden_in attributes ≡ false
hidden-all [] End = refl
hidden-all (a ∷ rest) (One free all) = hidden-by a rest (bytes_eq a.name.local (codes "type")) refl free (hidden-all rest all)

all-read : (attributes : List Attribute) → list_all is_free attributes ≡ true → list_all is_read_so attributes ≡ true
all-read [] h = refl
all-read (a ∷ rest) h =
    let both = and_parts (is_free a) (list_all is_free rest) h in
    ap₂ (λ b c. b && c) (and_parts (is_read_so a) (is_free_name a.name.local || is_plain_type a) both.0).0 (all-read rest both.1)

are-bare : (attributes : List Attribute) → are_free attributes ≡ true → AreBare attributes
are-bare attributes h =
    let both = and_parts (list_all is_free attributes) (are_distinct attributes) h in
    let read : are_read_so attributes ≡ true = ap₂ (λ b c. b && c) (all-read attributes both.0) both.1 in
    let all = all-free attributes both.0 in
    record {
      told = told attributes read;
      are = are-told attributes read;
      adjusted = adjusted-all attributes all;
      hidden = λ name. hidden-all attributes all;
      font = font-all attributes all;
      shadow = shadow-all attributes all;
    }

-- START TAGS

kids-bared : (o : Option Made) → option_map before_kids o ≡ option_map before_kids (bared o)
kids-bared None = refl
kids-bared (Some made) = refl

-- a start tag is taken as it would be without them
pub free-started : (name : QualName) (attributes : List Attribute) (template : Bool) (p : Spot) → are_free attributes ≡ true
    → option_map before_kids (started name attributes template p) ≡ option_map before_kids (started name [] template p)
free-started name attributes template p h =
    kids-bared (started name attributes template p)
    ∙ (ap (option_map before_kids) (started-bare name template p attributes (are-bare attributes h))
    ∙ sym (kids-bared (started name [] template p)))
