-- A template that passes the check is faithful with whatever is put into its holes.
use Rattle.std.proofs.Common.{◌≡◌, ◌∙◌, ℕ, Bool, true, false, not, List, [], ◌∷◌, ◌++◌, map, Option, Some, None, refl, sym, ap, ap₂}
use Rattle.std.proofs.Common.{subst, true≢false}
use Rattle.std.specs.Prelude.{◌&&◌, ◌||◌, cond, codes, is_none, nat_eq, IfSome}
use Rattle.std.specs.List.{list_all, list_any}
use Rattle.std.specs.Str.{bytes_eq}
use Rattle.std.proofs.lemmas.Bool.{and_parts}
use Rattle.markup.specs.Trees as trees
use Rattle.markup.specs.Trees.{Trees}
use Rattle.markup.specs.declared.attributes.Attribute.{Attribute}
use Rattle.markup.specs.declared.names.QualName.{QualName}
use Rattle.markup.specs.declared.quirks.QuirksMode.TheVariants.{NoQuirks}
use Rattle.html_plain.specs.Frames.{text_before}
use Rattle.html_plain.specs.Grammar.{is_plain}
use Rattle.html_plain.specs.declared.place.PlainPlace.{PlainPlace}
use Rattle.html_plain.specs.declared.place.PlainPlace.TheVariants.{InFlow, InLine}
use Rattle.html_rules.specs.Choice.{choose}
use Rattle.html_rules.specs.Conditions.{is_nonempty}
use Rattle.html_rules.specs.ForeignContent.{is_html_element}
use Rattle.html_rules.specs.State.{current_is}
use Rattle.html_rules.specs.Tokens.{is_hidden_value, is_shadow_mode}
use Rattle.html_tokens.specs.TagEquality.{value_of}
use Rattle.html_tokens.specs.declared.states.RawKind.{RawKind}
use Rattle.html_tokens.specs.declared.states.RawKind.TheVariants.{Rcdata}
use Rattle.html_rules.specs.declared.rules.Rules.TheVariants.{Html5ever}
use Rattle.html_faithful.specs.Forms.{is_comment_text, is_kept, is_raw_text, lowered, told_attribute}
use Rattle.html_faithful.specs.Harmless.{Made, and_then}
use Rattle.html_faithful.specs.Holes.{AreTagsAlike, Here, Hole, Raw, begins_with_text, is_flow_mode, is_text_mode, joined}
use Rattle.html_faithful.specs.Holes.{text_value}
use Rattle.html_faithful.specs.Spots.{Spot}
use Rattle.html_faithful.specs.Walk.{Parent, are_none, below, finished, fits_inside, is_current, is_raw_inside, is_rcdata, is_text, is_faithful_by}
use Rattle.html_faithful.specs.Walk.{is_void, is_written_so, may_stay, started}
use Rattle.html_faithful.specs.Walk.{OfDocument, comment_put, first_spot, is_at_end, is_faithful, text_put, walk}
use Rattle.html_faithful.specs.Values.{IsAskedSame, with_values}
use Rattle.html_faithful.proofs.Holes.{holes-filled}
use Rattle.html_faithful.proofs.TextHoles.{texts-alike}
use Rattle.html_faithful.proofs.Values.{tags-alike}
use Rattle.html_faithful_plain.specs.PlainHoles.{holds_plain, is_flow, is_in_current, is_line}
use Rattle.html_faithful_plain.specs.Template.{ArePlainValues, Comment, Element, Fixed, Hole as PartHole, Nothing, Part, Plain, Slot}
use Rattle.html_faithful_plain.specs.Template.{Template, Text}
use Rattle.html_faithful_plain.specs.Template.{Values, are_fixed, are_kept, attribute_with, checked, filled, fits_kind, fits_raw}
use Rattle.html_faithful_plain.specs.Template.{is_asked, is_nothing, is_slot, is_template, page_with, no_values, takes_text, text_with}
use Rattle.html_faithful_plain.proofs.PlainHoles.{plain-alike}
use Rattle.html_faithful_plain.proofs.Walks.{comment-walked, text-walked}

no : {A : Type 0} → false ≡ true → A
no h = absurd (true≢false (sym h))

not-so : (b : Bool) → not b ≡ true → b ≡ false
not-so true h = no h
not-so false h = refl

and-so : (a b : Bool) → a ≡ true → b ≡ true → (a && b) ≡ true
and-so true b h k = k
and-so false b h k = no h

-- WHAT CAME FIRST

none-not : {A B : Type 0} {x : A} → None ≡ Some x → B
none-not e = absurd (true≢false (ap is_none e))

chosen : {A : Type 0} (b : Bool) (x : Option A) (y : A) → choose b (λ _. x) (λ _. None) ≡ Some y → (b ≡ true) × (x ≡ Some y)
chosen true x y e = (refl, e)
chosen false x y e = none-not e

record Came {A B : Type 0} (o : Option A) (f : A → Option B) (y : B) : Type 0 where
  value : A
  is : o ≡ Some value
  then : f value ≡ Some y

came : {A B : Type 0} (o : Option A) (f : A → Option B) (y : B) → and_then o f ≡ Some y → Came o f y
came None f y e = none-not e
came (Some x) f y e = record { value = x; is = refl; then = e }

-- TEXTS

kept-both : (a b : List ℕ) → is_kept a ≡ true → is_kept b ≡ true → is_kept (a ++ b) ≡ true
kept-both [] b h k = k
kept-both (c ∷ cs) b h k =
    let p = and_parts (not (nat_eq c 0) && not (nat_eq c 13)) (is_kept cs) h in
    and-so _ _ p.0 (kept-both cs b p.1 k)

module _ (values : Values) (kept : (n : ℕ) → is_kept (values.text n) ≡ true) where
  text-kept : (parts : List Part) → are_kept parts ≡ true → is_kept (text_with values parts) ≡ true
  text-kept [] h = refl
  text-kept (Fixed text ∷ parts) h =
      let p = and_parts (is_kept text) (are_kept parts) h in
      kept-both text (text_with values parts) p.0 (text-kept parts p.1)
  text-kept (PartHole n ∷ parts) h = kept-both (values.text n) (text_with values parts) (kept n) (text-kept parts h)

-- a text without holes has no values
fixed-same : (values : Values) (parts : List Part) → are_fixed parts ≡ true → text_with values parts ≡ text_with no_values parts
fixed-same values [] h = refl
fixed-same values (Fixed text ∷ parts) h = ap (λ t. text ++ t) (fixed-same values parts h)
fixed-same values (PartHole n ∷ parts) h = no h

before-joined : (text : List ℕ) (behind : Trees) → text_before text behind ≡ joined (text_value text) behind
before-joined [] behind = refl
before-joined (c ∷ cs) behind = refl

-- behind a hole no text comes
module _ (values : Values) (scripting : Bool) (parent : Parent) where
  after-hole : (rest : Template) (p q : Spot) → checked scripting parent true false rest p ≡ Some q
      → (begins_with_text (filled values rest) ≡ false) × (checked scripting parent false false rest p ≡ Some q)
  unfolding checked
  after-hole Nothing p q e = (refl, e)
  after-hole (Text parts rest) p q e = by (are_fixed parts) e where
    by : (b : Bool) → choose b (λ _. None) (λ _. None) ≡ Some q
        → (begins_with_text (filled values (Text parts rest)) ≡ false) × (checked scripting parent false false (Text parts rest) p ≡ Some q)
    by true e = none-not e
    by false e = none-not e
  after-hole (Comment text rest) p q e = (refl, e)
  after-hole (Plain place n rest) p q e = none-not e
  after-hole (Element name slots template kids rest) p q e = (refl, e)

-- A HOLE FOR TEXT

-- a hole at a spot where any text is only put, in escapable raw text or not
abbrev hole_there : Parent → Spot → Option Raw → Hole
hole_there parent p raw = record { parent = parent; spot = p; after_text = false; drops = false; raw = raw; behind = trees.Nothing }

abbrev hole_before : Parent → Spot → Trees → Hole
hole_before parent p behind = record { parent = parent; spot = p; after_text = false; drops = false; raw = None; behind = behind }

either-so : (a b : Bool) → (a || b) ≡ true → a ≡ false → b ≡ true
either-so true b h e = no (sym e ∙ refl)
either-so false b h e = h

module _ (scripting : Bool) (parent : Parent) (p : Spot) (text : List ℕ) (kept : is_kept text ≡ true) where
  abbrev Stays : Type 0
  Stays = walk scripting parent false false (text_value text) p ≡ Some p

  abbrev flows : Bool
  flows = is_flow_mode p.mode && not p.frameset_ok

  stays-by : (flow : Bool) → flows ≡ flow → current_is is_html_element p.path ≡ true → is_current parent p ≡ true
      → (flows || is_text_mode p.mode) ≡ true → Stays
  unfolding walk
  stays-by true f own cur h =
      sym (texts-alike scripting (hole_there parent p None) (rw (own, cur, f) refl) [] text refl kept refl).walked
  stays-by false f own cur h =
      sym (texts-alike scripting (hole_there parent p (Some (record { kind = Rcdata; name = [] })))
      (rw (own, cur, either-so flows (is_text_mode p.mode) h f) refl) [] text refl kept refl).walked

  text-stays : takes_text parent p ≡ true → Stays
  text-stays h =
      let own = current_is is_html_element p.path in
      let cur = is_current parent p in
      let a = and_parts (own && cur) (flows || is_text_mode p.mode) h in
      let b = and_parts own cur a.0 in
      stays-by flows refl b.0 b.1 a.1

-- so what follows walks as if nothing stood before it
text-before : (scripting : Bool) (parent : Parent) (p : Spot) (text : List ℕ) (behind : Trees)
    → walk scripting parent false false (text_value text) p ≡ Some p → begins_with_text behind ≡ false
    → walk scripting parent false false (text_before text behind) p ≡ walk scripting parent false false behind p
unfolding walk
text-before scripting parent p text behind h apart =
    ap (λ t. walk scripting parent false false t p) (before-joined text behind)
    ∙ holes-filled scripting (hole_before parent p behind) (text_value text) trees.Nothing (record {
      walked = h;
      raw = refl;
      ends = λ e. no (sym apart ∙ e);
      drops = λ e. no (sym apart ∙ e);
    }) parent false false None (Here behind) p refl

-- ATTRIBUTES

module _ (values : Values) (kept : (n : ℕ) → is_kept (values.text n) ≡ true) where
  abbrev attributes_with : Values → List Slot → List Attribute
  attributes_with v slots = map (attribute_with v) slots

  abbrev texts : List Slot → List (List ℕ)
  texts slots = map (λ slot. text_with values slot.value) slots

  slots-same : (slots : List Slot) → with_values (texts slots) (attributes_with no_values slots) ≡ attributes_with values slots
  slots-same [] = refl
  slots-same (slot ∷ slots) = ap (λ (xs : List Attribute). attribute_with values slot ∷ xs) (slots-same slots)

  slots-kept : (slots : List Slot) → list_all is_slot slots ≡ true → list_all is_kept (texts slots) ≡ true
  slots-kept [] h = refl
  slots-kept (slot ∷ slots) h =
      let p = and_parts (is_slot slot) (list_all is_slot slots) h in
      let q = and_parts (are_kept slot.value) (are_fixed slot.value || not (is_asked slot)) p.0 in
      and-so _ _ (text-kept values kept slot.value q.0) (slots-kept slots p.1)

  -- an attribute whose value rules look at has its own
  or-first : (a b : Bool) → (a || b) ≡ true → b ≡ false → a ≡ true
  or-first true b h e = refl
  or-first false b h e = no (sym e ∙ h)

  asked-same : (slot : Slot) → is_slot slot ≡ true → is_asked slot ≡ true → text_with values slot.value ≡ text_with no_values slot.value
  asked-same slot h asked =
      let q = and_parts (are_kept slot.value) (are_fixed slot.value || not (is_asked slot)) h in
      fixed-same values slot.value (or-first (are_fixed slot.value) (not (is_asked slot)) q.1 (ap not asked))

  abbrev told : Values → List Slot → List Attribute
  told v slots = map told_attribute (attributes_with v slots)

  abbrev name_of : Slot → List ℕ
  name_of slot = (told_attribute (attribute_with no_values slot)).name.local

  or-left : (a b : Bool) → a ≡ true → (a || b) ≡ true
  or-left a b e = ap (λ a. a || b) e

  or-right : (a b : Bool) → b ≡ true → (a || b) ≡ true
  or-right true b e = refl
  or-right false b e = e

  shadow-one : (slot : Slot) → is_slot slot ≡ true
      → is_shadow_mode (told_attribute (attribute_with no_values slot)) ≡ is_shadow_mode (told_attribute (attribute_with values slot))
  shadow-one slot h = by (bytes_eq (name_of slot) (codes "shadowrootmode")) refl where
    by : (b : Bool) → bytes_eq (name_of slot) (codes "shadowrootmode") ≡ b
        → is_shadow_mode (told_attribute (attribute_with no_values slot)) ≡ is_shadow_mode (told_attribute (attribute_with values slot))
    by true e =
        ap (λ (v : List ℕ). bytes_eq (name_of slot) (codes "shadowrootmode") && (bytes_eq v (codes "open") || bytes_eq v (codes "closed")))
        (sym (asked-same slot h (or-right (bytes_eq (name_of slot) (codes "type")) (bytes_eq (name_of slot) (codes "shadowrootmode")) e)))
    by false e = rw e refl

  shadow-same : (slots : List Slot) → list_all is_slot slots ≡ true
      → list_any is_shadow_mode (told no_values slots) ≡ list_any is_shadow_mode (told values slots)
  shadow-same [] h = refl
  shadow-same (slot ∷ slots) h =
      let p = and_parts (is_slot slot) (list_all is_slot slots) h in
      ap₂ (λ a b. a || b) (shadow-one slot p.0) (shadow-same slots p.1)

  type-by : (slot : Slot) (slots : List Slot) (b : Bool) → bytes_eq (name_of slot) (codes "type") ≡ b → is_slot slot ≡ true
      → value_of (codes "type") (told no_values slots) ≡ value_of (codes "type") (told values slots)
      → value_of (codes "type") (told no_values (slot ∷ slots)) ≡ value_of (codes "type") (told values (slot ∷ slots))
  type-by slot slots true e h rest =
      rw e (ap (λ (v : List ℕ). Some v)
      (sym (asked-same slot h (or-left (bytes_eq (name_of slot) (codes "type")) (bytes_eq (name_of slot) (codes "shadowrootmode")) e))))
  type-by slot slots false e h rest = rw e rest

  type-same : (slots : List Slot) → list_all is_slot slots ≡ true
      → value_of (codes "type") (told no_values slots) ≡ value_of (codes "type") (told values slots)
  type-same [] h = refl
  type-same (slot ∷ slots) h =
      let p = and_parts (is_slot slot) (list_all is_slot slots) h in
      type-by slot slots (bytes_eq (name_of slot) (codes "type")) refl p.0 (type-same slots p.1)

  slots-asked : (name : QualName) (slots : List Slot) → list_all is_slot slots ≡ true
      → IsAskedSame name (attributes_with no_values slots) (attributes_with values slots)
  slots-asked name slots h = record { hidden = ap is_hidden_value (type-same slots h); shadow = shadow-same slots h }

  slots-alike : (name : QualName) (template : Bool) (p : Spot) (slots : List Slot) → list_all is_slot slots ≡ true
      → IfSome (started name (attributes_with no_values slots) template p)
      (λ made. AreTagsAlike name template p (attributes_with no_values slots) (attributes_with values slots))
  slots-alike name template p slots h =
      let same = slots-same slots in
      subst (λ xs. IfSome (started name (attributes_with no_values slots) template p)
      (λ made. AreTagsAlike name template p (attributes_with no_values slots) xs)) same
      (tags-alike name template p (attributes_with no_values slots) (texts slots) (slots-kept slots h)
      (subst (λ xs. IsAskedSame name (attributes_with no_values slots) xs) (sym same) (slots-asked name slots h)))

-- TREES

nothing-there : (t : Template) → is_nothing t ≡ true → t ≡ Nothing
nothing-there Nothing h = refl
nothing-there (Text parts rest) h = no h
nothing-there (Comment text rest) h = no h
nothing-there (Plain place n rest) h = no h
nothing-there (Element name slots template kids rest) h = no h

rcdata-fits : (kind : RawKind) (name a b : List ℕ) → is_rcdata kind ≡ true → is_raw_text kind name a ≡ is_raw_text kind name b
rcdata-fits Rcdata name a b h = refl
rcdata-fits kind name a b h = no h

raw-before : (kind : RawKind) (name text : List ℕ) → is_raw_text kind name text ≡ true
    → is_raw_inside kind name (text_before text trees.Nothing) ≡ true
raw-before kind name [] h = h
raw-before kind name (c ∷ cs) h = h

module _ (values : Values) where
  text-fits : (kind : RawKind) (name : List ℕ) (parts : List Part) (b : Bool) → are_fixed parts ≡ b
      → cond b (is_raw_text kind name (text_with no_values parts)) (is_rcdata kind && is_raw_text kind name []) ≡ true
      → is_raw_text kind name (text_with values parts) ≡ true
  text-fits kind name parts true e h = ap (is_raw_text kind name) (fixed-same values parts e) ∙ h
  text-fits kind name parts false e h =
      let p = and_parts (is_rcdata kind) (is_raw_text kind name []) h in
      rcdata-fits kind name (text_with values parts) [] p.0 ∙ p.1

  kind-fits : (kind : RawKind) (name : List ℕ) (kids : Template) → fits_kind kind name kids ≡ true
      → is_raw_inside kind name (filled values kids) ≡ true
  kind-fits kind name Nothing h = h
  kind-fits kind name (Text parts Nothing) h =
      raw-before kind name (text_with values parts) (text-fits kind name parts (are_fixed parts) refl h)
  kind-fits kind name (Text parts (Text other rest)) h = no h
  kind-fits kind name (Text parts (Comment other rest)) h = no h
  kind-fits kind name (Text parts (Plain place n rest)) h = no h
  kind-fits kind name (Text parts (Element other slots template kids rest)) h = no h
  kind-fits kind name (Comment text rest) h = no h
  kind-fits kind name (Plain place n rest) h = no h
  kind-fits kind name (Element other slots template kids rest) h = no h

  raw-fits : (name : QualName) (kids : Template) (raw : Option RawKind) → fits_raw name kids raw ≡ true
      → elim raw as (λ _. Bool) [
        | None ↦ true
        | Some kind ↦ bytes_eq (lowered name.local) name.local && is_raw_inside kind name.local (filled values kids)
      ] ≡ true
  raw-fits name kids None h = refl
  raw-fits name kids (Some kind) h =
      let p = and_parts (bytes_eq (lowered name.local) name.local) (fits_kind kind name.local kids) h in
      and-so _ _ p.0 (kind-fits kind name.local kids p.1)

-- what is left of an element once its start tag was taken, by what was made of it
module _ (scripting : Bool) (parent : Parent) (name : QualName) (kids rest : Template) where
  abbrev stood : Spot → Option RawKind → Bool → Option Spot
  stood spot raw drops = choose (is_void name)
      (λ _. choose (is_nothing kids && not drops && is_none raw) (λ _. Some spot) (λ _. None))
      (λ _. choose (fits_raw name kids raw)
      (λ _. and_then (checked scripting (below parent) false drops kids spot) (λ p. finished name p)) (λ _. None))

  abbrev done : Spot → Option RawKind → Bool → Option Spot
  done spot raw drops = choose (is_written_so scripting name raw)
      (λ _. and_then (stood spot raw drops) (λ p. checked scripting parent false false rest p)) (λ _. None)

abbrev IsFilled : Bool → Values → Template → Type 0
IsFilled scripting values t = (parent : Parent) (after_text drops : Bool) (p q : Spot)
    → checked scripting parent after_text drops t p ≡ Some q → walk scripting parent after_text drops (filled values t) p ≡ Some q

-- AN ELEMENT

some-made : {x y : Made} → Some x ≡ Some y → x ≡ y
some-made {x} e = ap (λ (o : Option Made). elim o as (λ _. Made) [ None ↦ x | Some z ↦ z ]) e

some-spot : {x y : Spot} → Some x ≡ Some y → x ≡ y
some-spot {x} e = ap (λ (o : Option Spot). elim o as (λ _. Spot) [ None ↦ x | Some z ↦ z ]) e

module _ (scripting : Bool) (values : Values) (parent : Parent) (after_text drops : Bool) (name : QualName) (attributes : List Attribute)
    (template : Bool) (kids rest : Template) (p : Spot) (made : Made) (stays : (is_current parent p && may_stay parent name) ≡ true)
    (start : started name attributes template p ≡ Some made) (written : is_written_so scripting name made.raw ≡ true) where
  abbrev whole : Option Spot
  whole = walk scripting parent after_text drops (trees.Element name attributes template (filled values kids) (filled values rest)) p

  void-filled : is_void name ≡ true → (are_none (filled values kids) && not made.drops_line_feed && is_none made.raw) ≡ true
      → whole ≡ walk scripting parent false false (filled values rest) made.spot
  unfolding walk
  void-filled void ends = rw (stays, start, written, void, ends) refl

  full-filled : (k r : Spot) → is_void name ≡ false → fits_inside name (filled values kids) made.raw ≡ true
      → walk scripting (below parent) false made.drops_line_feed (filled values kids) made.spot ≡ Some k → finished name k ≡ Some r
      → whole ≡ walk scripting parent false false (filled values rest) r
  unfolding walk
  full-filled k r full fits inner end = rw (stays, start, written, full, fits, inner, end) refl

  -- what the check found is so with values
  module _ (kids_so : IsFilled scripting values kids) (rest_so : IsFilled scripting values rest) (z : Spot) where
    void-done : is_void name ≡ true → (r : Spot)
        → choose (is_nothing kids && not made.drops_line_feed && is_none made.raw) (λ _. Some made.spot) (λ _. None) ≡ Some r
        → checked scripting parent false false rest r ≡ Some z → whole ≡ Some z
    void-done void r e then =
        let c = chosen (is_nothing kids && not made.drops_line_feed && is_none made.raw) (Some made.spot) r e in
        let q = and_parts (is_nothing kids && not made.drops_line_feed) (is_none made.raw) c.0 in
        let none = (and_parts (is_nothing kids) (not made.drops_line_feed) q.0).0 in
        let empty : are_none (filled values kids) ≡ true = ap (λ t. are_none (filled values t)) (nothing-there kids none) in
        void-filled void (ap (λ b. b && not made.drops_line_feed && is_none made.raw) (empty ∙ sym none) ∙ c.0)
        ∙ (ap (walk scripting parent false false (filled values rest)) (some-spot c.1) ∙ rest_so parent false false r z then)

    full-done : is_void name ≡ false → (r : Spot)
        → choose (fits_raw name kids made.raw)
        (λ _. and_then (checked scripting (below parent) false made.drops_line_feed kids made.spot) (λ p. finished name p)) (λ _. None)
        ≡ Some r
        → checked scripting parent false false rest r ≡ Some z → whole ≡ Some z
    full-done full r e then =
        let o = checked scripting (below parent) false made.drops_line_feed kids made.spot in
        let c = chosen (fits_raw name kids made.raw) (and_then o (λ p. finished name p)) r e in
        let k = came o (λ p. finished name p) r c.1 in
        full-filled k.value r full (raw-fits values name kids made.raw c.0)
        (kids_so (below parent) false made.drops_line_feed made.spot k.value k.is) k.then
        ∙ rest_so parent false false r z then

    stood-done : (void : Bool) → is_void name ≡ void → (r : Spot)
        → stood scripting parent name kids rest made.spot made.raw made.drops_line_feed ≡ Some r
        → checked scripting parent false false rest r ≡ Some z → whole ≡ Some z
    stood-done true v r e then =
        void-done v r (sym (ap (λ b. choose b (λ _. choose (is_nothing kids && not made.drops_line_feed && is_none made.raw)
        (λ _. Some made.spot) (λ _. None))
        (λ _. choose (fits_raw name kids made.raw)
        (λ _. and_then (checked scripting (below parent) false made.drops_line_feed kids made.spot) (λ p. finished name p))
        (λ _. None))) v) ∙ e)
        then
    stood-done false v r e then =
        full-done v r (sym (ap (λ b. choose b (λ _. choose (is_nothing kids && not made.drops_line_feed && is_none made.raw)
        (λ _. Some made.spot) (λ _. None))
        (λ _. choose (fits_raw name kids made.raw)
        (λ _. and_then (checked scripting (below parent) false made.drops_line_feed kids made.spot) (λ p. finished name p))
        (λ _. None))) v) ∙ e)
        then

-- by the start tag with nothing in its holes
element-filled : (scripting : Bool) (values : Values) (parent : Parent) (after_text drops : Bool) (name : QualName)
    (bare attributes : List Attribute) (template : Bool) (kids rest : Template) (p : Spot) (made : Made) (z : Spot)
    → (is_current parent p && may_stay parent name) ≡ true → started name bare template p ≡ Some made
    → AreTagsAlike name template p bare attributes
    → done scripting parent name kids rest made.spot made.raw made.drops_line_feed ≡ Some z
    → IsFilled scripting values kids → IsFilled scripting values rest
    → walk scripting parent after_text drops (trees.Element name attributes template (filled values kids) (filled values rest)) p ≡ Some z
element-filled scripting values parent after_text drops name bare attributes template kids rest p made z stays start alike e inner more =
    let first : made ≡ alike.first = some-made (sym start ∙ alike.first_made) in
    let m = alike.second in
    let moved : done scripting parent name kids rest m.spot m.raw m.drops_line_feed ≡ Some z =
    sym ((λ i. done scripting parent name kids rest (first i).spot (first i).raw (first i).drops_line_feed)
    ∙ (λ i. done scripting parent name kids rest (alike.spot i) (alike.raw i) (alike.drops i))) ∙ e in
    let w = chosen (is_written_so scripting name m.raw) (and_then (stood scripting parent name kids rest m.spot m.raw m.drops_line_feed)
    (λ p. checked scripting parent false false rest p)) z moved in
    let c = came (stood scripting parent name kids rest m.spot m.raw m.drops_line_feed)
    (λ p. checked scripting parent false false rest p) z w.1 in
    stood-done scripting values parent after_text drops name attributes template kids rest p m stays alike.second_made w.0 inner more z
    (is_void name) refl c.value c.is c.then

-- THE WHOLE

nonempty-before : (text : List ℕ) (behind : Trees) → is_nonempty text ≡ true → text_before text behind ≡ trees.Text text behind
nonempty-before [] behind h = no h
nonempty-before (c ∷ cs) behind h = refl

text-nonempty : (after_text drops : Bool) (text : List ℕ) → is_text after_text drops text ≡ true → is_nonempty text ≡ true
text-nonempty true drops text h = no h
text-nonempty false drops [] h = no h
text-nonempty false drops (c ∷ cs) h = refl

nothing-plain : (place : PlainPlace) → (is_flow place || is_line place) ≡ true → is_plain place false trees.Nothing ≡ true
unfolding is_plain
nothing-plain InFlow h = refl
nothing-plain (InLine in_link) h = refl
nothing-plain place h = no h

of-some : {A : Type 0} (o : Option A) (x : A) (P : A → Type 0) → IfSome o P → o ≡ Some x → P x
of-some None x P h e = none-not e
of-some {A = A} (Some y) x P h e = subst P (ap (λ (o : Option A). elim o as (λ _. A) [ None ↦ y | Some z ↦ z ]) e) h

module _ (scripting : Bool) (values : Values) (kept : (n : ℕ) → is_kept (values.text n) ≡ true) where
  -- a text without holes
  fixed-filled : (parts : List Part) (rest : Template) (parent : Parent) (after_text drops : Bool) (p q : Spot) → are_fixed parts ≡ true
      → IsFilled scripting values rest
      → choose (is_text after_text drops (text_with no_values parts) && is_current parent p)
      (λ _. and_then (text_put (text_with no_values parts) p) (λ p. checked scripting parent true false rest p)) (λ _. None) ≡ Some q
      → walk scripting parent after_text drops (filled values (Text parts rest)) p ≡ Some q
  fixed-filled parts rest parent after_text drops p q f rest_so e =
      let text = text_with no_values parts in
      let go = λ (p : Spot). checked scripting parent true false rest p in
      let c = chosen (is_text after_text drops text && is_current parent p) (and_then (text_put text p) go) q e in
      let is = (and_parts (is_text after_text drops text) (is_current parent p) c.0).0 in
      let r = came (text_put text p) go q c.1 in
      ap (λ t. walk scripting parent after_text drops (text_before t (filled values rest)) p) (fixed-same values parts f)
      ∙ (ap (λ t. walk scripting parent after_text drops t p)
      (nonempty-before text (filled values rest) (text-nonempty after_text drops text is))
      ∙ (text-walked scripting parent after_text drops text (filled values rest) p r.value c.0 r.is
      ∙ rest_so parent true false r.value q r.then))

  -- what is behind a hole, in which something was put that leads to the same spot
  abbrev Free : Parent → Bool → Bool → Spot → Trees → Trees → Type 0
  Free parent after_text drops p whole behind =
      walk scripting parent after_text drops whole p ≡ walk scripting parent false false behind p

  flags-off : (parent : Parent) (after_text drops : Bool) (p : Spot) (whole : Trees) → after_text ≡ false → drops ≡ false
      → walk scripting parent after_text drops whole p ≡ walk scripting parent false false whole p
  flags-off parent after_text drops p whole a d = λ i. walk scripting parent (a i) (d i) whole p

  text-filled : (parts : List Part) (rest : Template) (parent : Parent) (after_text drops : Bool) (p q : Spot)
      → IsFilled scripting values rest
      → choose (not after_text && not drops && are_kept parts && takes_text parent p)
      (λ _. checked scripting parent true false rest p) (λ _. None) ≡ Some q
      → walk scripting parent after_text drops (filled values (Text parts rest)) p ≡ Some q
  text-filled parts rest parent after_text drops p q rest_so e =
      let c = chosen (not after_text && not drops && are_kept parts && takes_text parent p)
      (checked scripting parent true false rest p) q e in
      let k₂ = and_parts (not after_text && not drops && are_kept parts) (takes_text parent p) c.0 in
      let k₁ = and_parts (not after_text && not drops) (are_kept parts) k₂.0 in
      let k₀ = and_parts (not after_text) (not drops) k₁.0 in
      let text = text_with values parts in
      let behind = after-hole values scripting parent rest p q c.1 in
      flags-off parent after_text drops p (filled values (Text parts rest)) (not-so after_text k₀.0) (not-so drops k₀.1)
      ∙ (text-before scripting parent p text (filled values rest)
      (text-stays scripting parent p text (text-kept values kept parts k₁.1) k₂.1) behind.0
      ∙ rest_so parent false false p q behind.1)

  either-filled : (parts : List Part) (rest : Template) (parent : Parent) (after_text drops : Bool) (p q : Spot) (fixed : Bool)
      → are_fixed parts ≡ fixed → IsFilled scripting values rest
      → choose fixed
      (λ _. choose (is_text after_text drops (text_with no_values parts) && is_current parent p)
      (λ _. and_then (text_put (text_with no_values parts) p) (λ p. checked scripting parent true false rest p)) (λ _. None))
      (λ _. choose (not after_text && not drops && are_kept parts && takes_text parent p)
      (λ _. checked scripting parent true false rest p) (λ _. None)) ≡ Some q
      → walk scripting parent after_text drops (filled values (Text parts rest)) p ≡ Some q
  either-filled parts rest parent after_text drops p q true f rest_so e =
      fixed-filled parts rest parent after_text drops p q f rest_so e
  either-filled parts rest parent after_text drops p q false f rest_so e = text-filled parts rest parent after_text drops p q rest_so e

  plain-filled : (place : PlainPlace) (n : ℕ) (rest : Template) (parent : Parent) (after_text drops : Bool) (p q : Spot)
      → is_plain place false (values.plain n) ≡ true → IsFilled scripting values rest
      → choose (not after_text && not drops && is_in_current parent && (is_flow place || is_line place) && holds_plain place p)
      (λ _. checked scripting parent true false rest p) (λ _. None) ≡ Some q
      → walk scripting parent after_text drops (filled values (Plain place n rest)) p ≡ Some q
  plain-filled place n rest parent after_text drops p q plain rest_so e =
      let kind = is_flow place || is_line place in
      let c = chosen (not after_text && not drops && is_in_current parent && kind && holds_plain place p)
      (checked scripting parent true false rest p) q e in
      let k₃ = and_parts (not after_text && not drops && is_in_current parent && kind) (holds_plain place p) c.0 in
      let k₂ = and_parts (not after_text && not drops && is_in_current parent) kind k₃.0 in
      let k₁ = and_parts (not after_text && not drops) (is_in_current parent) k₂.0 in
      let k₀ = and_parts (not after_text) (not drops) k₁.0 in
      let behind = after-hole values scripting parent rest p q c.1 in
      let hole = hole_before parent p (filled values rest) in
      flags-off parent after_text drops p (filled values (Plain place n rest)) (not-so after_text k₀.0) (not-so drops k₀.1)
      ∙ (holes-filled scripting hole (values.plain n) trees.Nothing
      (plain-alike scripting place hole (rw (k₂.1, k₁.1, behind.0, k₃.1) refl) (values.plain n) trees.Nothing plain
      (nothing-plain place k₂.1))
      parent false false None (Here (filled values rest)) p refl
      ∙ rest_so parent false false p q behind.1)

  comment-filled : (text : List ℕ) (rest : Template) (parent : Parent) (after_text drops : Bool) (p q : Spot)
      → IsFilled scripting values rest
      → choose (is_comment_text text)
      (λ _. and_then (comment_put parent text p) (λ p. checked scripting parent false false rest p)) (λ _. None) ≡ Some q
      → walk scripting parent after_text drops (filled values (Comment text rest)) p ≡ Some q
  comment-filled text rest parent after_text drops p q rest_so e =
      let go = λ (p : Spot). checked scripting parent false false rest p in
      let c = chosen (is_comment_text text) (and_then (comment_put parent text p) go) q e in
      let r = came (comment_put parent text p) go q c.1 in
      comment-walked scripting parent after_text drops text (filled values rest) p r.value c.0 r.is
      ∙ rest_so parent false false r.value q r.then

  tag-filled : (name : QualName) (slots : List Slot) (template : Bool) (kids rest : Template) (parent : Parent) (after_text drops : Bool)
      (p q : Spot) → IsFilled scripting values kids → IsFilled scripting values rest
      → choose (is_current parent p && may_stay parent name && list_all is_slot slots)
      (λ _. and_then (started name (map (attribute_with no_values) slots) template p)
      (λ made. done scripting parent name kids rest made.spot made.raw made.drops_line_feed)) (λ _. None) ≡ Some q
      → walk scripting parent after_text drops (filled values (Element name slots template kids rest)) p ≡ Some q
  tag-filled name slots template kids rest parent after_text drops p q kids_so rest_so e =
      let bare = map (attribute_with no_values) slots in
      let go = λ (made : Made). done scripting parent name kids rest made.spot made.raw made.drops_line_feed in
      let o = started name bare template p in
      let c = chosen (is_current parent p && may_stay parent name && list_all is_slot slots) (and_then o go) q e in
      let k = and_parts (is_current parent p && may_stay parent name) (list_all is_slot slots) c.0 in
      let m = came o go q c.1 in
      element-filled scripting values parent after_text drops name bare (map (attribute_with values) slots) template kids rest p m.value q
      k.0 m.is (of-some o m.value _ (slots-alike values kept name template p slots k.1) m.is) m.then kids_so rest_so

  template-filled : (t : Template) → ArePlainValues values t → IsFilled scripting values t
  unfolding checked walk
  template-filled Nothing plain parent after_text drops p q e = e
  template-filled (Text parts rest) plain parent after_text drops p q e =
      either-filled parts rest parent after_text drops p q (are_fixed parts) refl (template-filled rest plain) e
  template-filled (Comment text rest) plain parent after_text drops p q e =
      comment-filled text rest parent after_text drops p q (template-filled rest plain) e
  template-filled (Plain place n rest) plain parent after_text drops p q e =
      plain-filled place n rest parent after_text drops p q plain.0 (template-filled rest plain.1) e
  template-filled (Element name slots template kids rest) plain parent after_text drops p q e =
      tag-filled name slots template kids rest parent after_text drops p q (template-filled kids plain.0) (template-filled rest plain.1) e

at-end : (o w : Option Spot) → ((q : Spot) → o ≡ Some q → w ≡ Some q) → is_at_end o ≡ true → is_at_end w ≡ true
at-end None w h e = no e
at-end (Some q) w h e = ap is_at_end (h q refl) ∙ e

pub templates-filled : (scripting : Bool) (page : Template) (values : Values) → is_template scripting page ≡ true
    → ((n : ℕ) → is_kept (values.text n) ≡ true) → ArePlainValues values page
    → is_faithful scripting (page_with values page) ≡ true
unfolding is_faithful_by
templates-filled scripting page values h kept plain =
    let p = first_spot Html5ever scripting NoQuirks in
    at-end (checked scripting OfDocument false false page p) (walk scripting OfDocument false false (filled values page) p)
    (λ q e. template-filled scripting values kept page plain OfDocument false false p q e) h
