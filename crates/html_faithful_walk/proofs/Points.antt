-- What the code finds of a node is what is read of it at its point.
use Rattle.std.proofs.Common.{◌≡◌, ◌∙◌, ℕ, Bool, true, false, List, Option, Some, None, refl, sym, ap, ap₂}
use Rattle.std.specs.Prelude.{◌&&◌, not, cond, is_none}
use Rattle.std.specs.Str.{bytes_eq}
use denote.Bor.{Bor}
use Rattle.markup.specs.declared.attributes.Attribute.{Attribute}
use Rattle.markup.specs.declared.names.QualName.{QualName}
use Rattle.html_tokens.specs.declared.states.RawKind.{RawKind}
use Rattle.html_rules.specs.Choice.{choose}
use Rattle.html_faithful.specs.Forms.{is_comment_text, is_raw_text, lowered}
use Rattle.html_faithful.specs.Harmless.{Made, and_then}
use Rattle.html_faithful.specs.Spots.{Spot}
use Rattle.html_faithful.specs.Walk.{Parent, below, comment_put, finished, is_current, is_text, is_void, is_written_so, may_stay}
use Rattle.html_faithful.specs.Walk.{started, text_put}
use Rattle.html_faithful_walk.specs.First as first
use Rattle.html_faithful_walk.specs.First.{Comes, NoMore, Point, behind, comes_after_text, comes_by, comes_in, comment_read, entered}
use Rattle.html_faithful_walk.specs.First.{entered_by, left, text_in, text_read}
use Rattle.html_faithful_walk.specs.Firsts.{IsEntered, IsEnteredBy, comes_of, left_by, point_if, point_of}
use Rattle.html_faithful_walk.specs.Steps.{parent_of, spot_if}
use Rattle.html_faithful_walk.specs.Walking.{after_of, after_text_of, finish_by, inside_by, inside_of, may_end, may_hold}
use Rattle.html_faithful_walk.specs.Walking.{takes_elements}
use Rattle.html_faithful_walk.specs.declared.parents.Parent as declared
use Rattle.html_faithful_walk.specs.declared.stand.After.{After}
use Rattle.html_faithful_walk.specs.declared.stand.Inside.{Inside}
use Rattle.html_faithful_walk.specs.declared.stand.Inside.TheVariants.{Start, Any, Raw, Done}
use Rattle.html_faithful_walk.specs.declared.stand.Stand.{Stand}

-- WHICH NODES MAY COME

abbrev comes_if : Option Inside → Option Comes
comes_if None = None
comes_if (Some inside) = Some (comes_of inside)

chosen-if : (b : Bool) (inside : Inside) → comes_if (choose b (λ _. Some inside) (λ _. None))
    ≡ choose b (λ _. Some (comes_of inside)) (λ _. None)
chosen-if true inside = refl
chosen-if false inside = refl

text-comes : (inside : Inside) (text : List ℕ) → comes_after_text (comes_of inside) text ≡ comes_if (after_text_of inside text)
text-comes Start text = refl
text-comes Any text = refl
text-comes (Raw kind name) text = sym (chosen-if (is_raw_text kind name.now.local text) Done)
text-comes Done text = refl

kind-comes : (raw : Option RawKind) (name : Bor QualName) → comes_by raw name.now ≡ comes_if (inside_by raw name)
kind-comes None name = refl
kind-comes (Some kind) name = sym (chosen-if (bytes_eq (lowered name.now.local) name.now.local) (Raw kind name))

either-comes : (v w : Bool) (o : Option Inside) (p : Option Comes) → p ≡ comes_if o
    → choose v (λ _. choose w (λ _. Some NoMore) (λ _. None)) (λ _. p)
    ≡ comes_if (choose v (λ _. choose w (λ _. Some Done) (λ _. None)) (λ _. o))
either-comes true w o p e = sym (chosen-if w Done)
either-comes false w o p e = e

inner-comes : (name : Bor QualName) (made : Made) → comes_in name.now made ≡ comes_if (inside_of name made)
inner-comes name made =
    either-comes (is_void name.now) (not made.drops_line_feed && is_none made.raw) (inside_by made.raw name) (comes_by made.raw name.now)
    (kind-comes made.raw name)

elements-come : (inside : Inside) → first.takes_elements (comes_of inside) ≡ takes_elements inside
elements-come Start = refl
elements-come Any = refl
elements-come (Raw kind name) = refl
elements-come Done = refl

pub may-end : (inside : Inside) → first.may_end (comes_of inside) ≡ may_end inside
may-end Start = refl
may-end Any = refl
may-end (Raw kind name) = refl
may-end Done = refl

-- TEXTS

if-then : (b : Bool) (p : Spot) (f : Spot → Point) → and_then (spot_if b p) (λ p. Some (f p)) ≡ point_if b (f p)
if-then true p f = refl
if-then false p f = refl

pub text-odd : (comes : Comes) (text : List ℕ) (old new : Point) → is_text old.after_text old.drops text ≡ false
    → text_in comes text old ≡ point_if false new
text-odd comes text old new e =
    ap (λ b. choose (b && is_current old.parent old.spot) (λ _. and_then (text_put text old.spot)
    (λ p. Some (record old { after_text = true; drops = false; comes = comes; spot = p }))) (λ _. None)) e

and-false : (b : Bool) → (b && false) ≡ false
and-false true = refl
and-false false = refl

pub text-elsewhere : (comes : Comes) (text : List ℕ) (old new : Point) → is_current old.parent old.spot ≡ false
    → text_in comes text old ≡ point_if false new
text-elsewhere comes text old new e =
    ap (λ b. choose b (λ _. and_then (text_put text old.spot)
    (λ p. Some (record old { after_text = true; drops = false; comes = comes; spot = p }))) (λ _. None))
    (ap (λ c. is_text old.after_text old.drops text && c) e ∙ and-false (is_text old.after_text old.drops text))

pub text-put : (comes : Comes) (text : List ℕ) (old : Point) (p : Spot) (goes_on : Bool)
    → is_text old.after_text old.drops text ≡ true → is_current old.parent old.spot ≡ true → text_put text old.spot ≡ spot_if goes_on p
    → text_in comes text old ≡ point_if goes_on (record old { after_text = true; drops = false; comes = comes; spot = p })
text-put comes text old p goes_on e k h =
    ap₂ (λ a b. choose (a && b) (λ _. and_then (text_put text old.spot)
    (λ p. Some (record old { after_text = true; drops = false; comes = comes; spot = p }))) (λ _. None)) e k
    ∙ (ap (λ o. and_then o (λ p. Some (record old { after_text = true; drops = false; comes = comes; spot = p }))) h
    ∙ if-then goes_on p (λ p. record old { after_text = true; drops = false; comes = comes; spot = p }))

pub text-read : (text : List ℕ) (inside next : Inside) (old : Point) (o : Option Point) → old.comes ≡ comes_of inside
    → after_text_of inside text ≡ Some next → text_in (comes_of next) text old ≡ o → text_read text old ≡ o
text-read text inside next old o c e h =
    ap (λ x. and_then x (λ comes. text_in comes text old))
    (ap (λ c. comes_after_text c text) c ∙ (text-comes inside text ∙ ap comes_if e)) ∙ h

pub text-refused : (text : List ℕ) (inside : Inside) (old new : Point) → old.comes ≡ comes_of inside
    → after_text_of inside text ≡ None → text_read text old ≡ point_if false new
text-refused text inside old new c e =
    ap (λ x. and_then x (λ comes. text_in comes text old))
    (ap (λ c. comes_after_text c text) c ∙ (text-comes inside text ∙ ap comes_if e))

-- COMMENTS

pub comment-odd : (text : List ℕ) (old new : Point) → is_comment_text text ≡ false → comment_read text old ≡ point_if false new
comment-odd text old new e = ap (λ b. choose b (λ _. first.comment_in old.comes text old) (λ _. None)) e

pub comment-in : (text : List ℕ) (inside : Inside) (old : Point) (o : Option Point) → is_comment_text text ≡ true
    → old.comes ≡ comes_of inside → first.comment_in (comes_of inside) text old ≡ o → comment_read text old ≡ o
comment-in text inside old o e c h =
    ap (λ b. choose b (λ _. first.comment_in old.comes text old) (λ _. None)) e ∙ (ap (λ c. first.comment_in c text old) c ∙ h)

pub comment-put : (text : List ℕ) (old : Point) (p : Spot) (goes_on : Bool) → comment_put old.parent text old.spot ≡ spot_if goes_on p
    → first.comment_in first.Any text old ≡ point_if goes_on (behind old.parent p)
comment-put text old p goes_on h =
    ap (λ o. and_then o (λ p. Some (behind old.parent p))) h ∙ if-then goes_on p (λ p. behind old.parent p)

-- ELEMENTS

finish-as : (v : Bool) (name : Bor QualName) (p : Spot) → finish_by (cond v None (Some name)) p
    ≡ choose v (λ _. Some p) (λ _. finished name.now p)
finish-as true name p = refl
finish-as false name p = refl

-- what comes behind the last child is the end of the element
pub after-left : (name : Bor QualName) (parent : declared.Parent) (last : Point)
    → left_by (after_of name parent) last ≡ left name.now (parent_of parent) last
after-left name parent last =
    ap (λ o. choose (first.may_end last.comes) (λ _. and_then o (λ p. Some (behind (parent_of parent) p))) (λ _. None))
    (finish-as (is_void name.now) name last.spot)

pub unwritten : (scripting : Bool) (name : QualName) (made : Made) (parent : Parent) → is_written_so scripting name made.raw ≡ false
    → entered_by scripting name made parent ≡ None
unwritten scripting name made parent e =
    ap (λ b. choose b (λ _. and_then (comes_in name made) (λ comes. Some (record {
      parent = below parent;
      after_text = false;
      drops = made.drops_line_feed;
      comes = comes;
      spot = made.spot;
    }))) (λ _. None)) e

inner-by : (scripting : Bool) (name : Bor QualName) (made : Made) (parent : Parent) (o : Option Inside)
    → is_written_so scripting name.now made.raw ≡ true → inside_of name made ≡ o
    → entered_by scripting name.now made parent ≡ and_then (comes_if o) (λ comes. Some (record {
      parent = below parent;
      after_text = false;
      drops = made.drops_line_feed;
      comes = comes;
      spot = made.spot;
    }))
inner-by scripting name made parent o e h =
    ap (λ b. choose b (λ _. and_then (comes_in name.now made) (λ comes. Some (record {
      parent = below parent;
      after_text = false;
      drops = made.drops_line_feed;
      comes = comes;
      spot = made.spot;
    }))) (λ _. None)) e
    ∙ ap (λ x. and_then x (λ comes. Some (record {
      parent = below parent;
      after_text = false;
      drops = made.drops_line_feed;
      comes = comes;
      spot = made.spot;
    }))) (inner-comes name made ∙ ap comes_if h)

pub no-inside : (scripting : Bool) (name : Bor QualName) (made : Made) (parent : Parent) → is_written_so scripting name.now made.raw ≡ true
    → inside_of name made ≡ None → entered_by scripting name.now made parent ≡ None
no-inside scripting name made parent e h = inner-by scripting name made parent None e h

pub enters : (scripting : Bool) (name : Bor QualName) (made : Made) (old new : Stand) (inside : Inside) (down : declared.Parent)
    (after : After)
    → is_written_so scripting name.now made.raw ≡ true → inside_of name made ≡ Some inside → parent_of down ≡ below (parent_of old.parent)
    → new ≡ record { parent = down; after_text = false; drops = made.drops_line_feed; inside = inside }
    → after ≡ after_of name old.parent
    → IsEnteredBy scripting name.now made (parent_of old.parent) (point_of new made.spot) (Some after)
enters scripting name made old new inside down after e h k is l = (
  inner-by scripting name made (parent_of old.parent) (Some inside) e h
      ∙ (ap (λ parent. Some (record {
        parent = parent;
        after_text = false;
        drops = made.drops_line_feed;
        comes = comes_of inside;
        spot = made.spot;
      })) (sym k) ∙ ap (λ (stand : Stand). Some (point_of stand made.spot)) (sym is)),
  λ last. ap (λ (after : After). left_by after last) l ∙ after-left name old.parent last,
)

module _ (scripting : Bool) (name : QualName) (attributes : List Attribute) (template : Bool) (old : Stand) (p : Spot) where
  abbrev at : Point
  at = point_of old p

  holds : may_hold old name p ≡ (first.takes_elements (comes_of old.inside) && (is_current at.parent p && may_stay at.parent name))
  holds = ap (λ b. b && (is_current at.parent p && may_stay at.parent name)) (sym (elements-come old.inside))

  pub element-odd : may_hold old name p ≡ false → entered scripting name attributes template at ≡ None
  element-odd e =
      ap (λ b. choose b (λ _. and_then (started name attributes template p) (λ made. entered_by scripting name made at.parent)) (λ _. None))
      (sym holds ∙ e)

  started-so : (o : Option Made) → may_hold old name p ≡ true → started name attributes template p ≡ o
      → entered scripting name attributes template at ≡ and_then o (λ made. entered_by scripting name made at.parent)
  started-so o e h =
      ap (λ b. choose b (λ _. and_then (started name attributes template p) (λ made. entered_by scripting name made at.parent)) (λ _. None))
      (sym holds ∙ e)
      ∙ ap (λ o. and_then o (λ made. entered_by scripting name made at.parent)) h

  pub element-unstarted : may_hold old name p ≡ true → started name attributes template p ≡ None
      → entered scripting name attributes template at ≡ None
  element-unstarted e h = started-so None e h

  pub element-entered : (made : Made) (new : Point) (after : Option After) → may_hold old name p ≡ true
      → started name attributes template p ≡ Some made → IsEnteredBy scripting name made at.parent new after
      → IsEntered scripting name attributes template at new after
  element-entered made new None e h k = started-so (Some made) e h ∙ k
  element-entered made new (Some after) e h k = (started-so (Some made) e h ∙ k.0, k.1)

-- THE END

pub leave-odd : (after : After) (old new : Point) → first.may_end old.comes ≡ false → left_by after old ≡ point_if false new
leave-odd after old new e =
    ap (λ b. choose b (λ _. and_then (finish_by after.finishes old.spot) (λ p. Some (behind (parent_of after.parent) p))) (λ _. None)) e

pub leave-by : (after : After) (old : Point) (p : Spot) (goes_on : Bool) → first.may_end old.comes ≡ true
    → finish_by after.finishes old.spot ≡ spot_if goes_on p → left_by after old ≡ point_if goes_on (behind (parent_of after.parent) p)
leave-by after old p goes_on e h =
    ap (λ b. choose b (λ _. and_then (finish_by after.finishes old.spot) (λ p. Some (behind (parent_of after.parent) p))) (λ _. None)) e
    ∙ (ap (λ o. and_then o (λ p. Some (behind (parent_of after.parent) p))) h
    ∙ if-then goes_on p (λ p. behind (parent_of after.parent) p))
