-- A hole is filled with one value or another that is like it.
use Rattle.std.proofs.Common.{◌≡◌, ◌∙◌, Bool, true, false, not, List, Option, Some, None, refl, sym, ap, ap₂, subst, true≢false}
use Rattle.std.specs.Prelude.{◌&&◌, ◌||◌, codes, is_none}
use Rattle.std.specs.Str.{bytes_eq}
use Rattle.markup.specs.Trees.{Trees, Nothing, Text, Comment, ProcessingInstruction, Doctype, Element}
use Rattle.markup.specs.declared.attributes.Attribute.{Attribute}
use Rattle.markup.specs.declared.names.QualName.{QualName}
use Rattle.markup.specs.declared.quirks.QuirksMode.{QuirksMode}
use Rattle.markup.specs.declared.quirks.QuirksMode.TheVariants.{NoQuirks, Quirks}
use Rattle.html_tokens.specs.declared.states.RawKind.{RawKind}
use Rattle.html_rules.specs.Choice.{choose}
use Rattle.html_rules.specs.declared.rules.Rules.{Rules}
use Rattle.html_faithful.specs.Forms.{is_comment_text, lowered}
use Rattle.html_faithful.specs.Harmless.{Made, and_then}
use Rattle.html_faithful.specs.Holes.{AfterComment, AfterDoctype, AfterElement, AfterText, AreAlike, AreTagsAlike, Here, Hole, Holed}
use Rattle.html_faithful.specs.Holes.{Raw, Within}
use Rattle.html_faithful.specs.Holes.{begins_with_text, ends_in_text, filled, fits_raw, hole_at, hole_of, is_here, joined, raw_of}
use Rattle.html_faithful.specs.Holes.{still_drops}
use Rattle.html_faithful.specs.Spots.{Spot}
use Rattle.html_faithful.specs.Walk.{OfDocument, Parent, are_none, below, comment_put, ends_there, finished, first_spot, fits_inside, is_faithful_by}
use Rattle.html_faithful.specs.Walk.{is_at_end}
use Rattle.html_faithful.specs.Walk.{is_current, is_raw_inside, is_text, is_void, is_written_so, kids_walked, may_stay}
use Rattle.html_faithful.specs.Walk.{started}
use Rattle.html_faithful.specs.Walk.{text_put, walk}

-- CHOICES

choose-same : {A : Type 0} (b : Bool) (x y z : A) → (b ≡ true → x ≡ y) → choose b (λ _. x) (λ _. z) ≡ choose b (λ _. y) (λ _. z)
choose-same true x y z h = h refl
choose-same false x y z h = refl

then-same : {A B C : Type 0} (o : Option A) (k : A → Option C) (f g : A → Option B) (c : C) → and_then o k ≡ Some c
    → ((x : A) → k x ≡ Some c → f x ≡ g x) → and_then o f ≡ and_then o g
then-same None k f g c e h = refl
then-same (Some x) k f g c e h = h x e

-- one after the other
then-both : {A B C : Type 0} (o : Option A) (f : A → Option B) (g : B → Option C)
    → and_then (and_then o f) g ≡ and_then o (λ x. and_then (f x) g)
then-both None f g = refl
then-both (Some x) f g = refl

choose-then : {A B : Type 0} (b : Bool) (x : Option A) (g : A → Option B)
    → and_then (choose b (λ _. x) (λ _. None)) g ≡ choose b (λ _. and_then x g) (λ _. None)
choose-then true x g = refl
choose-then false x g = refl

then-so : {A B : Type 0} (o : Option A) (f g : A → Option B) → ((x : A) → f x ≡ g x) → and_then o f ≡ and_then o g
then-so None f g h = refl
then-so (Some x) f g h = h x

some-kept : {A : Type 0} (o : Option A) → and_then o (λ x. Some x) ≡ o
some-kept None = refl
some-kept (Some x) = refl

some-same : {x y : Hole} → Some x ≡ Some y → x ≡ y
some-same {x} e = ap (λ (o : Option Hole). elim o as (λ _. Hole) [ None ↦ x | Some z ↦ z ]) e

-- ELEMENTS

module _ (scripting : Bool) (parent : Parent) (name : QualName) where
  -- what stands in an element, up to its end tag
  abbrev stood : Trees → Made → Option Spot
  stood kids made = choose (is_void name)
      (λ _. choose (ends_there kids made) (λ _. Some made.spot) (λ _. None))
      (λ _. kids_walked name kids (λ drops p. walk scripting (below parent) false drops kids p) made)

  stood-by : (v : Bool) (a b : Trees) (made : Made) → is_void name ≡ v → (v ≡ true → are_none a ≡ are_none b)
      → fits_inside name a made.raw ≡ fits_inside name b made.raw
      → walk scripting (below parent) false made.drops_line_feed a made.spot ≡ walk scripting
      (below parent) false made.drops_line_feed b made.spot
      → stood a made ≡ stood b made
  stood-by true a b made v none fits w =
      rw v (ap (λ e. choose (e && not made.drops_line_feed && is_none made.raw) (λ _. Some made.spot) (λ _. None)) (none refl))
  stood-by false a b made v none fits w =
      rw v (ap₂ (λ c o. choose c (λ _. and_then o (λ p. finished name p)) (λ _. None)) fits w)

  abbrev rest_of : Trees → Spot → Option Spot
  rest_of rest p = walk scripting parent false false rest p

  abbrev done_in : Trees → Trees → Made → Option Spot
  done_in kids rest made =
      choose (is_written_so scripting name made.raw) (λ _. and_then (stood kids made) (rest_of rest)) (λ _. None)

  -- one value or another in an element
  element-same : (attributes : List Attribute) (template after_text drops : Bool) (rest : Trees) (p : Spot) (k : Made
      → Option Hole) (hole : Hole)
      (a b : Trees) → and_then (started name attributes template p) k ≡ Some hole
      → ((made : Made) → k made ≡ Some hole → stood a made ≡ stood b made)
      → walk scripting parent after_text drops (Element name attributes template a rest) p
      ≡ walk scripting parent after_text drops (Element name attributes template b rest) p
  unfolding walk
  element-same attributes template after_text drops rest p k hole a b e h =
      let o = started name attributes template p in
      choose-same (is_current parent p && may_stay parent name) (and_then o (done_in a rest)) (and_then o (done_in b rest)) None
      (λ c. then-same o k (done_in a rest) (done_in b rest) hole e
      (λ made m. choose-same (is_written_so scripting name made.raw) (and_then (stood a made) (rest_of rest))
      (and_then (stood b made) (rest_of rest)) None (λ w. ap (λ x. and_then x (rest_of rest)) (h made m))))

  -- an element, and then what follows it
  element-then : (attributes : List Attribute) (template after_text drops : Bool) (kids rest : Trees) (p : Spot)
      → walk scripting parent after_text drops (Element name attributes template kids rest) p
      ≡ and_then (walk scripting parent false false (Element name attributes template kids Nothing) p) (rest_of rest)
  unfolding walk
  element-then attributes template after_text drops kids rest p =
      let o = started name attributes template p in
      let b = is_current parent p && may_stay parent name in
      let each : (made : Made) → done_in kids rest made ≡ and_then (done_in kids Nothing made) (rest_of rest) = λ made.
      ap (λ x. choose (is_written_so scripting name made.raw) (λ _. and_then x (rest_of rest)) (λ _. None))
      (sym (some-kept (stood kids made)))
      ∙ sym (choose-then (is_written_so scripting name made.raw) (and_then (stood kids made) (λ p. Some p)) (rest_of rest)) in
      ap (λ x. choose b (λ _. x) (λ _. None)) (then-so o (done_in kids rest)
      (λ made. and_then (done_in kids Nothing made) (rest_of rest)) each
      ∙ sym (then-both o (done_in kids Nothing) (rest_of rest)))
      ∙ sym (choose-then b (and_then o (done_in kids Nothing)) (rest_of rest))

  -- what is left of the start tag, by its parts
  abbrev done_by : Trees → Trees → Spot → Option RawKind → Bool → Option Spot
  done_by kids rest spot raw drops =
      choose (is_written_so scripting name raw)
      (λ _. and_then (choose (is_void name)
      (λ _. choose (are_none kids && not drops && is_none raw) (λ _. Some spot) (λ _. None))
      (λ _. choose (elim raw as (λ _. Bool) [
        | None ↦ true
        | Some kind ↦ bytes_eq (lowered name.local) name.local && is_raw_inside kind name.local kids
      ]) (λ _. and_then (walk scripting (below parent) false drops kids spot) (λ p. finished name p)) (λ _. None)))
      (rest_of rest)) (λ _. None)

  pub attributes-filled : (after_text drops template : Bool) (kids rest : Trees) (p : Spot) (a b : List Attribute)
      → AreTagsAlike name template p a b
      → walk scripting parent after_text drops (Element name a template kids rest) p
      ≡ walk scripting parent after_text drops (Element name b template kids rest) p
  unfolding walk
  attributes-filled after_text drops template kids rest p a b h =
      let f = done_in kids rest in
      let same : f h.first ≡ f h.second = λ i. done_by kids rest (h.spot i) (h.raw i) (h.drops i) in
      ap (λ x. choose (is_current parent p && may_stay parent name) (λ _. x) (λ _. None))
      (ap (λ o. and_then o f) h.first_made ∙ (same ∙ sym (ap (λ o. and_then o f) h.second_made)))

-- ONE TREE AFTER ANOTHER

none-dropped : (trees : Trees) → still_drops false trees ≡ false
none-dropped Nothing = refl
none-dropped (Text text rest) = refl
none-dropped (Comment text rest) = refl
none-dropped (ProcessingInstruction target text rest) = refl
none-dropped (Doctype name public_id system_id rest) = refl
none-dropped (Element name attributes template kids rest) = refl

module _ (scripting : Bool) (parent : Parent) (behind : Trees) where
  abbrev from : Bool → Bool → Spot → Option Spot
  from after_text drops q = walk scripting parent after_text drops behind q

  -- trees, and then what follows them
  walk-joined : (a : Trees) (after_text drops : Bool) (p : Spot)
      → walk scripting parent after_text drops (joined a behind) p
      ≡ and_then (walk scripting parent after_text drops a p) (from (ends_in_text after_text a) (still_drops drops a))
  unfolding walk
  walk-joined Nothing after_text drops p = refl
  walk-joined (Text text rest) after_text drops p =
      let b = is_text after_text drops text && is_current parent p in
      let o = text_put text p in
      let f = λ (q : Spot). walk scripting parent true false rest q in
      let g = from (ends_in_text true rest) false in
      let each : (q : Spot) → walk scripting parent true false (joined rest behind) q ≡ and_then (f q) g = λ q.
      walk-joined rest true false q ∙ ap (λ d. and_then (f q) (from (ends_in_text true rest) d)) (none-dropped rest) in
      ap (λ x. choose b (λ _. x) (λ _. None))
      (then-so o (λ q. walk scripting parent true false (joined rest behind) q) (λ q. and_then (f q) g) each ∙ sym (then-both o f g))
      ∙ sym (choose-then b (and_then o f) g)
  walk-joined (Comment text rest) after_text drops p =
      let b = is_comment_text text in
      let o = comment_put parent text p in
      let f = λ (q : Spot). walk scripting parent false false rest q in
      let g = from (ends_in_text false rest) false in
      let each : (q : Spot) → walk scripting parent false false (joined rest behind) q ≡ and_then (f q) g = λ q.
      walk-joined rest false false q ∙ ap (λ d. and_then (f q) (from (ends_in_text false rest) d)) (none-dropped rest) in
      ap (λ x. choose b (λ _. x) (λ _. None))
      (then-so o (λ q. walk scripting parent false false (joined rest behind) q) (λ q. and_then (f q) g) each ∙ sym (then-both o f g))
      ∙ sym (choose-then b (and_then o f) g)
  walk-joined (ProcessingInstruction target text rest) after_text drops p = refl
  walk-joined (Doctype name public_id system_id rest) after_text drops p = refl
  walk-joined (Element name attributes template kids rest) after_text drops p =
      let o = walk scripting parent false false (Element name attributes template kids Nothing) p in
      let f = λ (q : Spot). walk scripting parent false false rest q in
      let g = from (ends_in_text false rest) false in
      let each : (q : Spot) → walk scripting parent false false (joined rest behind) q ≡ and_then (f q) g = λ q.
      walk-joined rest false false q ∙ ap (λ d. and_then (f q) (from (ends_in_text false rest) d)) (none-dropped rest) in
      element-then scripting parent name attributes template after_text drops kids (joined rest behind) p
      ∙ (then-so o (λ q. walk scripting parent false false (joined rest behind) q) (λ q. and_then (f q) g) each
      ∙ (sym (then-both o f g) ∙ sym (ap (λ x. and_then x g)
      (element-then scripting parent name attributes template after_text drops kids rest p))))

-- what follows walks alike, if it does not begin with a text, or as much is before it
from-same : (scripting : Bool) (parent : Parent) (behind : Trees) (x y d e : Bool) (q : Spot)
    → (begins_with_text behind ≡ true → x ≡ y) → (begins_with_text behind ≡ true → d ≡ e)
    → walk scripting parent x d behind q ≡ walk scripting parent y e behind q
unfolding walk
from-same scripting parent Nothing x y d e q h k = refl
from-same scripting parent (Text text rest) x y d e q h k =
    ap₂ (λ (after_text drops : Bool). walk scripting parent after_text drops (Text text rest) q) (h refl) (k refl)
from-same scripting parent (Comment text rest) x y d e q h k = refl
from-same scripting parent (ProcessingInstruction target text rest) x y d e q h k = refl
from-same scripting parent (Doctype name public_id system_id rest) x y d e q h k = refl
from-same scripting parent (Element name attributes template kids rest) x y d e q h k = refl

joined-same : (scripting : Bool) (hole : Hole) (a b : Trees) → AreAlike scripting hole a b
    → walk scripting hole.parent hole.after_text hole.drops (joined a hole.behind) hole.spot
    ≡ walk scripting hole.parent hole.after_text hole.drops (joined b hole.behind) hole.spot
joined-same scripting hole a b h =
    let f = λ (x d : Bool) (q : Spot). walk scripting hole.parent x d hole.behind q in
    let w = λ (t : Trees). walk scripting hole.parent hole.after_text hole.drops t hole.spot in
    walk-joined scripting hole.parent hole.behind a hole.after_text hole.drops hole.spot
    ∙ (ap (λ o. and_then o (f (ends_in_text hole.after_text a) (still_drops hole.drops a))) h.walked
    ∙ (then-so (w b) (f (ends_in_text hole.after_text a) (still_drops hole.drops a))
    (f (ends_in_text hole.after_text b) (still_drops hole.drops b))
    (λ q. from-same scripting hole.parent hole.behind (ends_in_text hole.after_text a) (ends_in_text hole.after_text b)
    (still_drops hole.drops a) (still_drops hole.drops b) q h.ends h.drops)
    ∙ sym (walk-joined scripting hole.parent hole.behind b hole.after_text hole.drops hole.spot)))

-- HOLES

no-hole : {A : Type 0} {hole : Hole} → None ≡ Some hole → A
no-hole e = absurd (true≢false (ap is_none e))

-- a choice that gave something took one way
chosen : {A : Type 0} (b : Bool) (x : Option A) (y : A) → choose b (λ _. x) (λ _. None) ≡ Some y → (b ≡ true) × (x ≡ Some y)
chosen true x y e = (refl, e)
chosen false x y e = absurd (true≢false (ap is_none e))

not-chosen : {A : Type 0} (b : Bool) (x : Option A) (y : A) → choose b (λ _. None) (λ _. x) ≡ Some y → (b ≡ false) × (x ≡ Some y)
not-chosen true x y e = absurd (true≢false (ap is_none e))
not-chosen false x y e = (refl, e)

module _ (scripting : Bool) (hole : Hole) (a b : Trees) (alike : AreAlike scripting hole a b) where
  -- in raw text both values fit the element, or neither
  inner-fits : (parent : Parent) (drops : Bool) (name : QualName) (spot : Spot) (raw : Option RawKind) (inner : Holed)
      → (is_none raw || is_here inner) ≡ true → hole_at scripting parent false drops (raw_of name raw) inner spot ≡ Some hole
      → elim raw as (λ _. Bool) [
        | None ↦ true
        | Some kind ↦ bytes_eq (lowered name.local) name.local && is_raw_inside kind name.local (filled inner a)
      ] ≡ elim raw as (λ _. Bool) [
        | None ↦ true
        | Some kind ↦ bytes_eq (lowered name.local) name.local && is_raw_inside kind name.local (filled inner b)
      ]
  inner-fits parent drops name spot None inner w e = refl
  inner-fits parent drops name spot (Some kind) (Here behind) w e =
      let is : record {
        parent = parent;
        spot = spot;
        after_text = false;
        drops = drops;
        raw = raw_of name (Some kind);
        behind = behind;
      } ≡ hole = some-same e in
      subst (λ (h : Hole). fits_raw h a ≡ fits_raw h b) (sym is) alike.raw
  inner-fits parent drops name spot (Some kind) inner w e = absurd (true≢false (sym w))

  pub holes-filled : (parent : Parent) (after_text drops : Bool) (raw : Option Raw) (holed : Holed) (p : Spot)
      → hole_at scripting parent after_text drops raw holed p ≡ Some hole
      → walk scripting parent after_text drops (filled holed a) p ≡ walk scripting parent after_text drops (filled holed b) p
  unfolding walk
  holes-filled parent after_text drops raw (Here behind) p e =
      let here : Hole = record { parent = parent; spot = p; after_text = after_text; drops = drops; raw = raw; behind = behind } in
      joined-same scripting here a b (subst (λ (h : Hole). AreAlike scripting h a b) (sym (some-same e)) alike)
  holes-filled parent after_text drops raw (Within name attributes template inner behind) p e =
      let at_made = λ (made : Made). choose (is_none made.raw || is_here inner)
      (λ _. hole_at scripting (below parent) false made.drops_line_feed (raw_of name made.raw) inner made.spot) (λ _. None) in
      let full = not-chosen (is_void name) (and_then (started name attributes template p) at_made) hole e in
      element-same scripting parent name attributes template after_text drops behind p at_made hole (filled inner a) (filled inner b) full.1
      (λ made m.
      let w = chosen (is_none made.raw || is_here inner)
      (hole_at scripting (below parent) false made.drops_line_feed (raw_of name made.raw) inner made.spot) hole m in
      stood-by scripting parent name false (filled inner a) (filled inner b) made full.0 (λ t. absurd (true≢false (sym t)))
      (inner-fits (below parent) made.drops_line_feed name made.spot made.raw inner w.0 w.1)
      (holes-filled (below parent) false made.drops_line_feed (raw_of name made.raw) inner made.spot w.1))
  holes-filled parent after_text drops raw (AfterText text inner) p e =
      let f = λ (x : Trees) (q : Spot). walk scripting parent true false (filled inner x) q in
      choose-same (is_text after_text drops text && is_current parent p) (and_then (text_put text p) (f a))
      (and_then (text_put text p) (f b)) None
      (λ c. then-same (text_put text p) (λ q. hole_at scripting parent true false None inner q) (f a) (f b) hole e
      (λ q m. holes-filled parent true false None inner q m))
  holes-filled parent after_text drops raw (AfterComment text inner) p e =
      let f = λ (x : Trees) (q : Spot). walk scripting parent false false (filled inner x) q in
      choose-same (is_comment_text text) (and_then (comment_put parent text p) (f a)) (and_then (comment_put parent text p) (f b)) None
      (λ c. then-same (comment_put parent text p) (λ q. hole_at scripting parent false false None inner q) (f a) (f b) hole e
      (λ q m. holes-filled parent false false None inner q m))
  holes-filled parent after_text drops raw (AfterDoctype name public_id system_id inner) p e = no-hole e
  holes-filled parent after_text drops raw (AfterElement name attributes template kids inner) p e =
      let o = walk scripting parent false false (Element name attributes template kids Nothing) p in
      element-then scripting parent name attributes template after_text drops kids (filled inner a) p
      ∙ (then-same o (λ q. hole_at scripting parent false false None inner q) (λ q. walk scripting parent false false (filled inner a) q)
      (λ q. walk scripting parent false false (filled inner b) q) hole e
      (λ q m. holes-filled parent false false None inner q m)
      ∙ sym (element-then scripting parent name attributes template after_text drops kids (filled inner b) p))

  pub documents-filled : (rules : Rules) (holed : Holed) → hole_of rules scripting holed ≡ Some hole
      → is_faithful_by rules scripting (filled holed a) ≡ is_faithful_by rules scripting (filled holed b)
  unfolding is_faithful_by
  documents-filled rules (Here behind) e = no-hole e
  documents-filled rules (Within name attributes template inner behind) e =
      ap is_at_end (holes-filled OfDocument false false None (Within name attributes template inner behind) (first_spot rules scripting Quirks) e)
  documents-filled rules (AfterText text inner) e = no-hole e
  documents-filled rules (AfterComment text inner) e = ap (λ f. is_comment_text text && f) (documents-filled rules inner e)
  documents-filled rules (AfterDoctype name public_id system_id inner) e =
      ap (λ o. bytes_eq name (codes "html") && is_at_end o) (holes-filled OfDocument false false None inner (first_spot rules scripting NoQuirks) e)
  documents-filled rules (AfterElement name attributes template kids inner) e =
      ap is_at_end (holes-filled OfDocument false false None (AfterElement name attributes template kids inner) (first_spot rules scripting Quirks) e)

-- ATTRIBUTES

-- no element stands in raw text
raw-element : (hole : Hole) (name : QualName) (template : Bool) (kids rest : Trees) (a b : List Attribute)
    → fits_raw hole (Element name a template kids rest) ≡ fits_raw hole (Element name b template kids rest)
raw-element hole name template kids rest a b = by hole.raw where
  by : (raw : Option Raw) → elim raw as (λ _. Bool) [
    | None ↦ true
    | Some raw ↦ bytes_eq (lowered raw.name) raw.name
        && is_raw_inside raw.kind raw.name (joined (Element name a template kids rest) hole.behind)
  ] ≡ elim raw as (λ _. Bool) [
    | None ↦ true
    | Some raw ↦ bytes_eq (lowered raw.name) raw.name
        && is_raw_inside raw.kind raw.name (joined (Element name b template kids rest) hole.behind)
  ]
  by None = refl
  by (Some raw) = refl

pub attributes-alike : (scripting : Bool) (hole : Hole) (name : QualName) (template : Bool) (kids : Trees) (a b : List Attribute)
    → AreTagsAlike name template hole.spot a b
    → AreAlike scripting hole (Element name a template kids Nothing) (Element name b template kids Nothing)
attributes-alike scripting hole name template kids a b h = record {
  walked = attributes-filled scripting hole.parent name hole.after_text hole.drops template kids Nothing hole.spot a b h;
  raw = raw-element hole name template kids Nothing a b;
  ends = λ e. refl;
  drops = λ e. refl;
}
