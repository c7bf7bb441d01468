-- What is made of a start tag does not depend on the values of its attributes.
use Rattle.std.proofs.Common.{◌≡◌, ◌∙◌, ℕ, Bool, true, false, not, List, [], ◌∷◌, map, Option, Some, None, refl, sym, ap, ap₂}
use Rattle.std.proofs.Common.{true≢false}
use Rattle.std.specs.Prelude.{◌&&◌, ◌||◌, is_none, cond, IfSome}
use Rattle.std.specs.List.{list_all, list_any}
use Rattle.std.specs.Str.{bytes_eq}
use Rattle.std.specs.Cmp.Lexicographic.{pointwise}
use Rattle.std.proofs.lemmas.Bool.{and_parts}
use Rattle.markup.specs.Attributes.{are_distinct}
use Rattle.markup.specs.Equality.{attribute_eq, attribute_lists_by_value}
use Rattle.markup.specs.declared.attributes.Attribute.{Attribute}
use Rattle.markup.specs.declared.names.QualName.{QualName}
use Rattle.html_rules.specs.Choice.{choose}
use Rattle.html_rules.specs.ForeignContent.{is_font_attribute}
use Rattle.html_rules.specs.Names.{Html, MathMl, Namespace, Other, Svg, element_name_of}
use Rattle.html_rules.specs.Renames.{adjust_attributes, adjust_foreign_attribute, adjust_own_attributes, mathml_attribute_names}
use Rattle.html_rules.specs.Renames.{rename_attribute, svg_attribute_names}
use Rattle.html_rules.specs.Rules.{fits}
use Rattle.html_rules.specs.Tokens.{is_shadow_mode, is_type_hidden}
use Rattle.html_faithful.specs.Checks.{closes_so, is_form_kept, is_kept_so, opens_so}
use Rattle.html_faithful.specs.Forms.{are_told, is_attribute_name, is_kept, is_tag_name, lowered, told_attribute}
use Rattle.html_faithful.specs.Harmless.{Change, Made, Put, and_then, by_rows, changes, closes_if, concludes, does, ends_current}
use Rattle.html_faithful.specs.Harmless.{is_fresh, is_opened}
use Rattle.html_faithful.specs.Harmless.{asks_pointers, at_mode, implies, is_unchanged, is_untouched, made_of, may_go_on, nothing_yet}
use Rattle.html_faithful.specs.Harmless.{opens, opens_foreign, provided, puts}
use Rattle.html_faithful.specs.Harmless as put
use Rattle.html_faithful.specs.Spots.{Spot}
use Rattle.html_faithful.specs.Holes.{AreTagsAlike}
use Rattle.html_faithful.specs.Values.{IsAskedSame, with_values}
use Rattle.html_faithful.specs.Walk.{is_known, is_made, is_template, is_void, is_written_tag, same_name, start_tag, started}
use Rattle.html_faithful.proofs.Dressing.{made-same, made_with, option_with, put_with, same-opened, start_of}

-- ATTRIBUTES WITH OTHER VALUES

named-same : (values : List (List ℕ)) (f : Attribute → Attribute)
    → ((x : Attribute) (value : List ℕ) → f (record x { value = value }) ≡ record (f x) { value = value }) → (xs : List Attribute)
    → with_values values (map f xs) ≡ map f (with_values values xs)
named-same [] f h xs = refl
named-same (v ∷ vs) f h [] = refl
named-same (v ∷ vs) f h (x ∷ xs) = ap₂ (λ (y : Attribute) (ys : List Attribute). y ∷ ys) (sym (h x v)) (named-same vs f h xs)

own-same : (values : List (List ℕ)) (namespace : Namespace) (xs : List Attribute)
    → with_values values (adjust_own_attributes namespace xs) ≡ adjust_own_attributes namespace (with_values values xs)
own-same values Html xs = refl
own-same values MathMl xs = named-same values (rename_attribute mathml_attribute_names) (λ x v. refl) xs
own-same values Svg xs = named-same values (rename_attribute svg_attribute_names) (λ x v. refl) xs
own-same values (Other uri) xs = refl

pub adjusted-same : (values : List (List ℕ)) (namespace : Namespace) (xs : List Attribute)
    → with_values values (adjust_attributes namespace xs) ≡ adjust_attributes namespace (with_values values xs)
unfolding adjust_attributes
adjusted-same values namespace xs =
    named-same values adjust_foreign_attribute (λ x v. refl) (adjust_own_attributes namespace xs)
    ∙ ap (map adjust_foreign_attribute) (own-same values namespace xs)

any-same : (values : List (List ℕ)) (test : Attribute → Bool)
    → ((x : Attribute) (value : List ℕ) → test (record x { value = value }) ≡ test x) → (xs : List Attribute)
    → list_any test (with_values values xs) ≡ list_any test xs
any-same [] test h xs = refl
any-same (v ∷ vs) test h [] = refl
any-same (v ∷ vs) test h (x ∷ xs) = ap₂ (λ (a b : Bool). a || b) (h x v) (any-same vs test h xs)

-- THE START TAG OF AN ELEMENT

some-not : {A : Type 0} {B : Type 0} {x : A} → None ≡ Some x → B
some-not e = absurd (true≢false (ap is_none e))

chosen : {A : Type 0} (b : Bool) (x : Option A) (y : A) → choose b (λ _. x) (λ _. None) ≡ Some y → (b ≡ true) × (x ≡ Some y)
chosen true x y e = (refl, e)
chosen false x y e = some-not e

-- what came first, where something came in the end
pub record Came {A B : Type 0} (o : Option A) (f : A → Option B) (y : B) : Type 0 where
  pub value : A
  pub is : o ≡ Some value
  pub then : f value ≡ Some y

came : {A B : Type 0} (o : Option A) (f : A → Option B) (y : B) → and_then o f ≡ Some y → Came o f y
came None f y e = some-not e
came (Some x) f y e = record { value = x; is = refl; then = e }

some-is : {x y : Made} → Some x ≡ Some y → x ≡ y
some-is {x} e = ap (λ (o : Option Made). elim o as (λ _. Made) [ None ↦ x | Some z ↦ z ]) e

and-so : (a b : Bool) → a ≡ true → b ≡ true → (a && b) ≡ true
and-so true b h k = k
and-so false b h k = absurd (true≢false (sym h))

distinct-same : (values : List (List ℕ)) (xs : List Attribute) → are_distinct (with_values values xs) ≡ are_distinct xs
distinct-same [] xs = refl
distinct-same (v ∷ vs) [] = refl
distinct-same (v ∷ vs) (x ∷ xs) =
    ap₂ (λ a b. not a && b) (any-same vs (λ y. bytes_eq x.name.local y.name.local) (λ y w. refl) xs) (distinct-same vs xs)

abbrev is_told_one : Attribute → Bool
is_told_one a = is_attribute_name a.name.local && is_kept a.value

each-told : (values : List (List ℕ)) (xs : List Attribute) → list_all is_kept values ≡ true → list_all is_told_one xs ≡ true
    → list_all is_told_one (with_values values xs) ≡ true
each-told [] xs kept told = told
each-told (v ∷ vs) [] kept told = refl
each-told (v ∷ vs) (x ∷ xs) kept told =
    let k = and_parts (is_kept v) (list_all is_kept vs) kept in
    let t = and_parts (is_told_one x) (list_all is_told_one xs) told in
    and-so _ _ (and-so _ _ (and_parts (is_attribute_name x.name.local) (is_kept x.value) t.0).0 k.0) (each-told vs xs k.1 t.1)

told-with : (values : List (List ℕ)) (xs : List Attribute) → list_all is_kept values ≡ true → are_told xs ≡ true
    → are_told (with_values values xs) ≡ true
told-with values xs kept told =
    let t = and_parts (list_all is_told_one xs) (are_distinct xs) told in
    and-so _ _ (each-told values xs kept t.0) (distinct-same values xs ∙ t.1)

-- what was put has the values
put-made : (values : List (List ℕ)) (name : QualName) (attributes : List Attribute) (opened : Bool) (what : Option Put)
    → is_made name attributes opened what ≡ true
    → is_made name (with_values values attributes) opened (put_with (with_values values) what) ≡ true
put-made values name attributes opened None h = absurd (true≢false (sym h))
put-made values name attributes opened (Some (put.Element namespace local found o)) h =
    let named = same_name (element_name_of namespace local) name in
    let ends = cond opened o (not o) in
    let p = and_parts (named && pointwise attribute_eq found attributes && ends) (is_known namespace) h in
    let q = and_parts (named && pointwise attribute_eq found attributes) ends p.0 in
    let r = and_parts named (pointwise attribute_eq found attributes) q.0 in
    and-so _ _ (and-so _ _ (and-so _ _ r.0 ((attribute_lists_by_value (with_values values found) (with_values values attributes)).1
    (ap (with_values values) ((attribute_lists_by_value found attributes).0 r.1)))) q.1) p.1
put-made values name attributes opened (Some put.TextHere) h = absurd (true≢false (sym h))
put-made values name attributes opened (Some put.CommentHere) h = absurd (true≢false (sym h))
put-made values name attributes opened (Some put.InRoot) h = absurd (true≢false (sym h))
put-made values name attributes opened (Some put.InDocument) h = absurd (true≢false (sym h))

kept-same : (values : List (List ℕ)) (name : List ℕ) (p : Spot) (made : Made) → is_kept_so name p (made_with (with_values values) made)
    ≡ is_kept_so name p made
kept-same values name p made =
    ap (λ b. cond made.closed (closes_so p.path made.change made.form)
    (cond b (opens_so name made.spot.path made.change made.form) (is_unchanged made.change && is_form_kept made.form)))
    (same-opened (with_values values) made.put)

module _ (name : QualName) (template : Bool) (p : Spot) (attributes : List Attribute) (values : List (List ℕ))
    (kept : list_all is_kept values ≡ true) (asked : IsAskedSame name attributes (with_values values attributes)) where
  abbrev told : List Attribute
  told = map told_attribute attributes

  abbrev others : List Attribute
  others = with_values values attributes

  told-others : with_values values told ≡ map told_attribute others
  told-others = named-same values told_attribute (λ x v. refl) attributes

  tag-others : start_of (lowered name.local) (with_values values told) ≡ start_tag name others
  tag-others = ap (start_of (lowered name.local)) told-others

  made-others : option_with (with_values values) (made_of (start_tag name attributes) p) ≡ made_of (start_tag name others) p
  made-others =
      made-same (with_values values) (lowered name.local) told (adjusted-same values) (asked.hidden ∙ ap is_type_hidden (sym tag-others))
      (sym (any-same values is_font_attribute (λ x v. refl) told)) (asked.shadow ∙ ap (list_any is_shadow_mode) (sym told-others)) p
      ∙ ap (λ t. made_of t p) tag-others

  abbrev fits_made : List Attribute → Made → Bool
  fits_made xs made = is_made name xs (not (is_void name)) made.put && not made.closed && is_kept_so (lowered name.local) p made

  fits-others : (made : Made) → fits_made attributes made ≡ true → fits_made others (made_with (with_values values) made) ≡ true
  fits-others made h =
      let is = is_made name attributes (not (is_void name)) made.put in
      let q = and_parts (is && not made.closed) (is_kept_so (lowered name.local) p made) h in
      let r = and_parts is (not made.closed) q.0 in
      and-so _ _ (and-so _ _ (put-made values name attributes (not (is_void name)) made.put r.0) r.1)
      (kept-same values (lowered name.local) p made ∙ q.1)

  written-others : is_written_tag name attributes template ≡ true → is_written_tag name others template ≡ true
  written-others h =
      let tag = is_tag_name (lowered name.local) in
      let kind = cond template (is_template name) (not (is_template name)) in
      let q = and_parts (tag && are_told told) kind h in
      let r = and_parts tag (are_told told) q.0 in
      and-so _ _ (and-so _ _ r.0 (ap are_told (sym told-others) ∙ told-with values told kept r.1)) q.1

  abbrev checked : List Attribute → Made → Option Made
  checked xs made = choose (fits_made xs made) (λ _. Some made) (λ _. None)

  start-others : (made : Made) → is_written_tag name others template ≡ true → made_of (start_tag name others) p ≡ Some made
      → fits_made others made ≡ true → started name others template p ≡ Some made
  start-others made written is fits = rw (written, is, fits) refl

  values-alike : (o : Option Made) → started name attributes template p ≡ o
      → IfSome o (λ made. AreTagsAlike name template p attributes others)
  values-alike None e = tt
  values-alike (Some made) e =
      let c = chosen (is_written_tag name attributes template)
      (and_then (made_of (start_tag name attributes) p) (checked attributes)) made e in
      let from = came (made_of (start_tag name attributes) p) (checked attributes) made c.1 in
      let fit = chosen (fits_made attributes from.value) (Some from.value) made from.then in
      let same = some-is fit.1 in
      record {
        first = from.value;
        second = made_with (with_values values) from.value;
        first_made = e ∙ sym fit.1;
        second_made = start-others (made_with (with_values values) from.value) (written-others c.0)
            (sym made-others ∙ ap (option_with (with_values values)) from.is) (fits-others from.value fit.0);
        spot = refl;
        raw = refl;
        drops = refl;
      }

pub tags-alike : (name : QualName) (template : Bool) (p : Spot) (attributes : List Attribute) (values : List (List ℕ))
    → list_all is_kept values ≡ true → IsAskedSame name attributes (with_values values attributes)
    → IfSome (started name attributes template p) (λ made. AreTagsAlike name template p attributes (with_values values attributes))
tags-alike name template p attributes values kept asked =
    values-alike name template p attributes values kept asked (started name attributes template p) refl
