-- A start tag is taken as it would be without its attributes, if rules ask nothing of these and they stay as they are.
use Rattle.std.proofs.Common.{◌≡◌, ◌∙◌, ℕ, Bool, true, false, not, List, [], map, Option, Some, None, refl, sym, ap, ap₂}
use Rattle.std.specs.Prelude.{◌&&◌, cond}
use Rattle.std.specs.List.{list_any}
use Rattle.std.specs.Cmp.Lexicographic.{pointwise}
use Rattle.markup.specs.Equality.{attribute_eq, attribute_lists_by_value}
use Rattle.markup.specs.declared.attributes.Attribute.{Attribute}
use Rattle.markup.specs.declared.names.QualName.{QualName}
use Rattle.html_rules.specs.Choice.{choose}
use Rattle.html_rules.specs.ForeignContent.{is_font_attribute}
use Rattle.html_rules.specs.Names.{Html, MathMl, Namespace, Other, Svg}
use Rattle.html_rules.specs.Renames.{adjust_attributes}
use Rattle.html_rules.specs.Tokens.{is_shadow_mode, is_type_hidden}
use Rattle.html_faithful.specs.Checks.{closes_so, is_form_kept, is_kept_so, opens_so}
use Rattle.html_faithful.specs.Forms.{are_told, lowered, told_attribute}
use Rattle.html_faithful.specs.Harmless.{Made, Put, and_then, is_unchanged, made_of}
use Rattle.html_faithful.specs.Harmless as put
use Rattle.html_faithful.specs.Spots.{Spot}
use Rattle.html_faithful.specs.Walk.{is_made, is_void, is_written_tag, started}
use Rattle.html_faithful.proofs.Dressing.{made-same, made_with, option_with, put_with, same-opened, start_of}

-- such attributes
pub record AreBare (attributes : List Attribute) : Type 0 where
  pub told : map told_attribute attributes ≡ attributes
  pub are : are_told attributes ≡ true
  pub adjusted : (namespace : Namespace) → adjust_attributes namespace attributes ≡ attributes
  pub hidden : (name : List ℕ) → is_type_hidden (start_of name attributes) ≡ false
  pub font : list_any is_font_attribute attributes ≡ false
  pub shadow : list_any is_shadow_mode attributes ≡ false

abbrev pub none : List Attribute → List Attribute
none attributes = []

-- what was made, without attributes
abbrev pub bared : Option Made → Option Made
bared o = option_with none o

adjusted-none : (namespace : Namespace) → [] ≡ adjust_attributes namespace []
unfolding adjust_attributes
adjusted-none Html = refl
adjusted-none MathMl = refl
adjusted-none Svg = refl
adjusted-none (Other uri) = refl

checked-same : (a b : Bool) (x y : Made) → a ≡ b → made_with none x ≡ made_with none y
    → bared (choose a (λ _. Some x) (λ _. None)) ≡ bared (choose b (λ _. Some y) (λ _. None))
checked-same true true x y e h = ap (λ (m : Made). Some m) h
checked-same false false x y e h = refl
checked-same true false x y e h = absurd cc
checked-same false true x y e h = absurd cc

module _ (name : QualName) (template : Bool) (p : Spot) (attributes : List Attribute) (bare : AreBare attributes) where
  abbrev dress : List Attribute → List Attribute
  dress xs = attributes

  -- a tag without attributes puts none
  made-none : bared (made_of (start_of (lowered name.local) []) p) ≡ made_of (start_of (lowered name.local) []) p
  made-none = made-same none (lowered name.local) [] (λ namespace xs. adjusted-none namespace) refl refl refl p

  made-dressed : option_with dress (made_of (start_of (lowered name.local) []) p) ≡ made_of (start_of (lowered name.local) attributes) p
  made-dressed = made-same dress (lowered name.local) [] (λ namespace xs. sym (bare.adjusted namespace))
      (sym (bare.hidden (lowered name.local))) (sym bare.font) (sym bare.shadow) p

  abbrev fits : List Attribute → Made → Bool
  fits xs made = (is_made name xs (not (is_void name)) made.put && not made.closed) && is_kept_so (lowered name.local) p made

  abbrev checked : List Attribute → Made → Option Made
  checked xs made = choose (fits xs made) (λ _. Some made) (λ _. None)

  same-attributes : (xs : List Attribute) → pointwise attribute_eq xs xs ≡ true
  same-attributes xs = (attribute_lists_by_value xs xs).1 refl

  put-fits : (opened : Bool) (what : Option Put)
      → is_made name attributes opened (put_with dress what) ≡ is_made name [] opened (put_with none what)
  put-fits opened None = refl
  put-fits opened (Some (put.Element namespace local found o)) = rw (same-attributes attributes) refl
  put-fits opened (Some put.TextHere) = refl
  put-fits opened (Some put.CommentHere) = refl
  put-fits opened (Some put.InRoot) = refl
  put-fits opened (Some put.InDocument) = refl

  put-bared : (what : Option Put) → put_with none (put_with dress what) ≡ put_with none what
  put-bared None = refl
  put-bared (Some (put.Element namespace local found o)) = refl
  put-bared (Some put.TextHere) = refl
  put-bared (Some put.CommentHere) = refl
  put-bared (Some put.InRoot) = refl
  put-bared (Some put.InDocument) = refl

  kept-fits : (made : Made) → is_kept_so (lowered name.local) p (made_with dress made) ≡ is_kept_so (lowered name.local) p made
  kept-fits made =
      ap (λ b. cond made.closed (closes_so p.path made.change made.form)
      (cond b (opens_so (lowered name.local) made.spot.path made.change made.form) (is_unchanged made.change && is_form_kept made.form)))
      (same-opened dress made.put)

  fits-same : (made : Made) → made_with none made ≡ made → fits attributes (made_with dress made) ≡ fits [] made
  fits-same made e =
      ap₂ (λ a b. (a && not made.closed) && b)
      (put-fits (not (is_void name)) made.put ∙ ap (λ (m : Made). is_made name [] (not (is_void name)) m.put) e) (kept-fits made)

  bared-same : (made : Made) → made_with none (made_with dress made) ≡ made_with none made
  bared-same made = ap (λ (what : Option Put). record made { put = what }) (put-bared made.put)

  some-is : {x y : Made} → Some x ≡ Some y → x ≡ y
  some-is {x} e = ap (λ (o : Option Made). elim o as (λ _. Made) [ None ↦ x | Some z ↦ z ]) e

  made-by : (o : Option Made) → bared o ≡ o → bared (and_then (option_with dress o) (checked attributes)) ≡ bared (and_then o (checked []))
  made-by None e = refl
  made-by (Some made) e =
      checked-same (fits attributes (made_with dress made)) (fits [] made) (made_with dress made) made (fits-same made (some-is e))
      (bared-same made)

  written-same : is_written_tag name attributes template ≡ is_written_tag name [] template
  written-same = rw (bare.told, bare.are) refl

  abbrev started_so : Bool → Option Made → Option Made
  started_so b o = bared (choose b (λ _. o) (λ _. None))

  pub started-bare : bared (started name attributes template p) ≡ bared (started name [] template p)
  started-bare =
      ap₂ (λ b o. started_so b (and_then o (checked attributes))) written-same
      (ap (λ xs. made_of (start_of (lowered name.local) xs) p) bare.told ∙ sym made-dressed)
      ∙ by (is_written_tag name [] template)
    where
      by : (b : Bool) → started_so b (and_then (option_with dress (made_of (start_of (lowered name.local) []) p)) (checked attributes))
          ≡ started_so b (and_then (made_of (start_of (lowered name.local) []) p) (checked []))
      by true = made-by (made_of (start_of (lowered name.local) []) p) made-none
      by false = refl
