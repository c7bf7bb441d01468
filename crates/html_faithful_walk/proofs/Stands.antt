-- What the walk of nodes is where the first of them stands.
use Rattle.std.proofs.Common.{◌≡◌, ◌∙◌, ℕ, Bool, true, false, List, refl, ap, ap₂, sym}
use Rattle.std.specs.Prelude.{◌&&◌, Option, Some, None, codes}
use Rattle.std.specs.Str.{bytes_eq}
use denote.Bor.{Bor}
use Rattle.markup.specs.Trees.{Trees, Nothing, Text, Comment, ProcessingInstruction, Doctype, Element}
use Rattle.markup.specs.declared.attributes.Attribute.{Attribute}
use Rattle.markup.specs.declared.names.QualName.{QualName}
use Rattle.markup.specs.declared.quirks.QuirksMode.TheVariants.{NoQuirks}
use Rattle.html_rules.specs.Choice.{choose}
use Rattle.html_tokens.specs.declared.states.RawKind.{RawKind}
use Rattle.html_faithful.specs.Forms.{is_comment_text, is_raw_text}
use Rattle.html_faithful.specs.Harmless.{Made, and_then}
use Rattle.html_faithful.specs.Spots.{Spot}
use Rattle.html_faithful.specs.Walk.{Parent, below, comment_put, ends_there, is_current, is_text}
use Rattle.html_faithful.specs.Walk.{is_void, is_written_so, kids_walked, may_stay, started, text_put, walk}
use Rattle.html_faithful_walk.specs.Steps.{parent_of, spot_if}
use Rattle.html_faithful_walk.specs.Walking.{Enters, Opens, Passes, TakesText, after_stand, after_text_of, around_if}
use Rattle.html_faithful_walk.specs.Walking.{begun, entered_by, may_hold, takes_elements, text_by}
use Rattle.html_faithful_walk.specs.Walking.{walk_at, walk_by}
use Rattle.html_faithful_walk.specs.declared.stand.After.{After}
use Rattle.html_faithful_walk.specs.declared.stand.Inside.{Inside}
use Rattle.html_faithful_walk.specs.declared.stand.Inside.TheVariants.{Start, Any, Raw, Done}
use Rattle.html_faithful_walk.specs.declared.stand.Stand.{Stand}
use Rattle.html_faithful_walk.proofs.Options.{choose-none, then-none}

-- TEXTS

none-both : (b : Bool) (o : Option Spot) → choose {A = Option Spot} b (λ _. and_then o (λ (p : Spot). None)) (λ _. None) ≡ None
none-both true o = then-none o
none-both false o = refl

text-raw : (scripting : Bool) (text : List ℕ) (kind : RawKind) (name : Bor QualName) (parent : Parent) (after drops : Bool) (rest : Trees)
    (p : Spot) (b : Bool) → is_raw_text kind name.now.local text ≡ b
    → walk_by (Raw kind name) scripting parent after drops (Text text rest) p
    ≡ and_then (choose b (λ _. Some Done) (λ _. None)) (λ inside. text_by scripting text inside parent after drops rest p)
unfolding walk
text-raw scripting text kind name parent after drops Nothing p true e =
    ap (λ b. choose b (λ _. walk scripting parent after drops (Text text Nothing) p) (λ _. None)) e
text-raw scripting text kind name parent after drops Nothing p false e =
    ap (λ b. choose b (λ _. walk scripting parent after drops (Text text Nothing) p) (λ _. None)) e
text-raw scripting text kind name parent after drops rest p false e = refl
text-raw scripting text kind name parent after drops rest p true e =
    sym (none-both (is_text after drops text && is_current parent p) (text_put text p))

text-at : (scripting : Bool) (text : List ℕ) (inside : Inside) (parent : Parent) (after drops : Bool) (rest : Trees) (p : Spot)
    → walk_by inside scripting parent after drops (Text text rest) p
    ≡ and_then (after_text_of inside text) (λ inside. text_by scripting text inside parent after drops rest p)
unfolding walk begun
text-at scripting text Start parent after drops rest p = refl
text-at scripting text Any parent after drops rest p = refl
text-at scripting text (Raw kind name) parent after drops rest p = text-raw scripting text kind name parent after drops rest p _ refl
text-at scripting text Done parent after drops rest p = refl

pub text-refused : (text : List ℕ) (old new : Stand) (p q : Spot) → after_text_of old.inside text ≡ None
    → Passes (Text text) old p new q false
text-refused text old new p q e scripting rest =
    text-at scripting text old.inside (parent_of old.parent) old.after_text old.drops rest p
    ∙ ap (λ o. and_then o (λ inside. text_by scripting text inside (parent_of old.parent) old.after_text old.drops rest p)) e

pub text-passed : (text : List ℕ) (inside : Inside) (old new : Stand) (p q : Spot) (goes_on : Bool)
    → after_text_of old.inside text ≡ Some inside → TakesText text inside old p new q goes_on → Passes (Text text) old p new q goes_on
text-passed text inside old new p q goes_on e h scripting rest =
    text-at scripting text old.inside (parent_of old.parent) old.after_text old.drops rest p
    ∙ (ap (λ o. and_then o (λ inside. text_by scripting text inside (parent_of old.parent) old.after_text old.drops rest p)) e
    ∙ h scripting rest)

and-false : (b : Bool) → (b && false) ≡ false
and-false true = refl
and-false false = refl

-- a text that may not stand here
pub text-odd : (text : List ℕ) (inside : Inside) (old new : Stand) (p q : Spot) → is_text old.after_text old.drops text ≡ false
    → TakesText text inside old p new q false
text-odd text inside old new p q e scripting rest =
    ap (λ b. choose (b && is_current (parent_of old.parent) p)
    (λ _. and_then (text_put text p) (λ p. walk_by inside scripting (parent_of old.parent) true false rest p)) (λ _. None)) e

pub text-elsewhere : (text : List ℕ) (inside : Inside) (old new : Stand) (p q : Spot) → is_current (parent_of old.parent) p ≡ false
    → TakesText text inside old p new q false
text-elsewhere text inside old new p q e scripting rest =
    ap (λ b. choose b (λ _. and_then (text_put text p) (λ p. walk_by inside scripting (parent_of old.parent) true false rest p))
    (λ _. None))
    (ap (λ c. is_text old.after_text old.drops text && c) e ∙ and-false (is_text old.after_text old.drops text))

spot-then : {A : Type 0} (b : Bool) (p : Spot) (f : Spot → Option A) → and_then (spot_if b p) f ≡ choose b (λ _. f p) (λ _. None)
spot-then true p f = refl
spot-then false p f = refl

-- a text that may, if the rules put it here
pub text-put : (text : List ℕ) (inside : Inside) (old new : Stand) (p q : Spot) (goes_on : Bool)
    → is_text old.after_text old.drops text ≡ true → is_current (parent_of old.parent) p ≡ true → text_put text p ≡ spot_if goes_on q
    → new ≡ record { parent = old.parent; after_text = true; drops = false; inside = inside } → TakesText text inside old p new q goes_on
text-put text inside old new p q goes_on e k h is scripting rest =
    ap₂ (λ b c. choose (b && c)
    (λ _. and_then (text_put text p) (λ p. walk_by inside scripting (parent_of old.parent) true false rest p)) (λ _. None)) e k
    ∙ (ap (λ o. and_then o (λ p. walk_by inside scripting (parent_of old.parent) true false rest p)) h
    ∙ (spot-then goes_on q (λ p. walk_by inside scripting (parent_of old.parent) true false rest p)
    ∙ ap (λ (new : Stand). choose goes_on (λ _. walk_at scripting new rest q) (λ _. None)) (sym is)))

-- COMMENTS AND DOCTYPES

abbrev comment_by : Bool → List ℕ → Inside → Parent → Bool → Bool → Trees → Spot → Option Spot
comment_by scripting text Start parent after drops rest p = begun scripting parent after drops rest p
comment_by scripting text Any parent after drops rest p =
    and_then (comment_put parent text p) (λ p. walk scripting parent false false rest p)
comment_by scripting text inside parent after drops rest p = None

comment-at : (scripting : Bool) (text : List ℕ) (inside : Inside) (parent : Parent) (after drops : Bool) (rest : Trees) (p : Spot)
    → walk_by inside scripting parent after drops (Comment text rest) p
    ≡ choose (is_comment_text text) (λ _. comment_by scripting text inside parent after drops rest p) (λ _. None)
unfolding walk begun
comment-at scripting text Start parent after drops rest p = refl
comment-at scripting text Any parent after drops rest p = refl
comment-at scripting text (Raw kind name) parent after drops rest p = sym (choose-none (is_comment_text text))
comment-at scripting text Done parent after drops rest p = sym (choose-none (is_comment_text text))

comment-in : (scripting : Bool) (text : List ℕ) (old : Stand) (inside : Inside) (rest : Trees) (p : Spot) → is_comment_text text ≡ true
    → old.inside ≡ inside → walk_at scripting old (Comment text rest) p
    ≡ comment_by scripting text inside (parent_of old.parent) old.after_text old.drops rest p
comment-in scripting text old inside rest p e is =
    comment-at scripting text old.inside (parent_of old.parent) old.after_text old.drops rest p
    ∙ (ap (λ b. choose b (λ _. comment_by scripting text old.inside (parent_of old.parent) old.after_text old.drops rest p) (λ _. None)) e
    ∙ ap (λ inside. comment_by scripting text inside (parent_of old.parent) old.after_text old.drops rest p) is)

pub comment-odd : (text : List ℕ) (old new : Stand) (p q : Spot) → is_comment_text text ≡ false → Passes (Comment text) old p new q false
comment-odd text old new p q e scripting rest =
    comment-at scripting text old.inside (parent_of old.parent) old.after_text old.drops rest p
    ∙ ap (λ b. choose b (λ _. comment_by scripting text old.inside (parent_of old.parent) old.after_text old.drops rest p) (λ _. None)) e

pub comment-begins : (text : List ℕ) (old : Stand) (p : Spot) → is_comment_text text ≡ true → old.inside ≡ Start
    → Passes (Comment text) old p old p true
comment-begins text old p e is scripting rest =
    comment-in scripting text old Start rest p e is
    ∙ ap (λ inside. walk_by inside scripting (parent_of old.parent) old.after_text old.drops rest p) (sym is)

pub comment-put : (text : List ℕ) (old new : Stand) (p q : Spot) (goes_on : Bool) → is_comment_text text ≡ true → old.inside ≡ Any
    → comment_put (parent_of old.parent) text p ≡ spot_if goes_on q → new ≡ after_stand old.parent
    → Passes (Comment text) old p new q goes_on
comment-put text old new p q goes_on e is h k scripting rest =
    comment-in scripting text old Any rest p e is
    ∙ (ap (λ o. and_then o (λ p. walk scripting (parent_of old.parent) false false rest p)) h
    ∙ (spot-then goes_on q (λ p. walk scripting (parent_of old.parent) false false rest p)
    ∙ ap (λ (new : Stand). choose goes_on (λ _. walk_at scripting new rest q) (λ _. None)) (sym k)))

pub comment-raw : (text : List ℕ) (kind : RawKind) (name : Bor QualName) (old new : Stand) (p q : Spot) → is_comment_text text ≡ true
    → old.inside ≡ Raw kind name → Passes (Comment text) old p new q false
comment-raw text kind name old new p q e is scripting rest = comment-in scripting text old (Raw kind name) rest p e is

pub comment-done : (text : List ℕ) (old new : Stand) (p q : Spot) → is_comment_text text ≡ true → old.inside ≡ Done
    → Passes (Comment text) old p new q false
comment-done text old new p q e is scripting rest = comment-in scripting text old Done rest p e is

abbrev doctype_by : Bool → List ℕ → Inside → Parent → Bool → Bool → Trees → Spot → Option Spot
doctype_by scripting name Start parent after drops rest p =
    choose (bytes_eq name (codes "html")) (λ _. walk scripting parent after drops rest (record p { quirks_mode = NoQuirks })) (λ _. None)
doctype_by scripting name inside parent after drops rest p = None

doctype-at : (scripting : Bool) (name public_id system_id : List ℕ) (inside : Inside) (parent : Parent) (after drops : Bool) (rest : Trees)
    (p : Spot) → walk_by inside scripting parent after drops (Doctype name public_id system_id rest) p
    ≡ doctype_by scripting name inside parent after drops rest p
unfolding walk begun
doctype-at scripting name public_id system_id Start parent after drops rest p = refl
doctype-at scripting name public_id system_id Any parent after drops rest p = refl
doctype-at scripting name public_id system_id (Raw kind of) parent after drops rest p = refl
doctype-at scripting name public_id system_id Done parent after drops rest p = refl

pub doctype-in : (scripting : Bool) (name public_id system_id : List ℕ) (old : Stand) (inside : Inside) (rest : Trees) (p : Spot)
    → old.inside ≡ inside → walk_at scripting old (Doctype name public_id system_id rest) p
    ≡ doctype_by scripting name inside (parent_of old.parent) old.after_text old.drops rest p
doctype-in scripting name public_id system_id old inside rest p is =
    doctype-at scripting name public_id system_id old.inside (parent_of old.parent) old.after_text old.drops rest p
    ∙ ap (λ inside. doctype_by scripting name inside (parent_of old.parent) old.after_text old.drops rest p) is

pub doctype-odd : (name public_id system_id : List ℕ) (old new : Stand) (p q : Spot) → old.inside ≡ Start
    → bytes_eq name (codes "html") ≡ false → Passes (Doctype name public_id system_id) old p new q false
doctype-odd name public_id system_id old new p q is e scripting rest =
    doctype-in scripting name public_id system_id old Start rest p is
    ∙ ap (λ b. choose b (λ _. walk scripting (parent_of old.parent) old.after_text old.drops rest (record p { quirks_mode = NoQuirks }))
    (λ _. None)) e

pub doctype-begins : (scripting : Bool) (name public_id system_id : List ℕ) (old : Stand) (p : Spot) → old.inside ≡ Start
    → bytes_eq name (codes "html") ≡ true → (rest : Trees) → walk_at scripting old (Doctype name public_id system_id rest) p
    ≡ walk scripting (parent_of old.parent) old.after_text old.drops rest (record p { quirks_mode = NoQuirks })
doctype-begins scripting name public_id system_id old p is e rest =
    doctype-in scripting name public_id system_id old Start rest p is
    ∙ ap (λ b. choose b (λ _. walk scripting (parent_of old.parent) old.after_text old.drops rest (record p { quirks_mode = NoQuirks }))
    (λ _. None)) e

instruction-at : (scripting : Bool) (target text : List ℕ) (inside : Inside) (parent : Parent) (after drops : Bool) (rest : Trees)
    (p : Spot)
    → walk_by inside scripting parent after drops (ProcessingInstruction target text rest) p ≡ None
unfolding walk begun
instruction-at scripting target text Start parent after drops rest p = refl
instruction-at scripting target text Any parent after drops rest p = refl
instruction-at scripting target text (Raw kind of) parent after drops rest p = refl
instruction-at scripting target text Done parent after drops rest p = refl

pub instruction-odd : (target text : List ℕ) (old new : Stand) (p q : Spot) → Passes (ProcessingInstruction target text) old p new q false
instruction-odd target text old new p q scripting rest =
    instruction-at scripting target text old.inside (parent_of old.parent) old.after_text old.drops rest p

-- ELEMENTS

element-at : (scripting : Bool) (name : QualName) (attributes : List Attribute) (template : Bool) (kids rest : Trees) (inside : Inside)
    (parent : Parent) (after drops : Bool) (p : Spot)
    → walk_by inside scripting parent after drops (Element name attributes template kids rest) p
    ≡ choose (takes_elements inside && (is_current parent p && may_stay parent name))
    (λ _. and_then (started name attributes template p) (λ made. entered_by scripting name made parent kids rest)) (λ _. None)
unfolding walk begun
element-at scripting name attributes template kids rest Start parent after drops p = refl
element-at scripting name attributes template kids rest Any parent after drops p = refl
element-at scripting name attributes template kids rest (Raw kind of) parent after drops p = refl
element-at scripting name attributes template kids rest Done parent after drops p = refl

pub element-odd : (scripting : Bool) (name : QualName) (attributes : List Attribute) (template : Bool) (old new : Stand) (p q : Spot)
    → may_hold old name p ≡ false → Opens scripting name attributes template old p new q None
element-odd scripting name attributes template old new p q e kids rest =
    element-at scripting name attributes template kids rest old.inside (parent_of old.parent) old.after_text old.drops p
    ∙ ap (λ b. choose b (λ _. and_then (started name attributes template p)
    (λ made. entered_by scripting name made (parent_of old.parent) kids rest)) (λ _. None)) e

element-so : (scripting : Bool) (name : QualName) (attributes : List Attribute) (template : Bool) (old : Stand) (p : Spot) (o : Option Made)
    → may_hold old name p ≡ true → started name attributes template p ≡ o → (kids rest : Trees)
    → walk_at scripting old (Element name attributes template kids rest) p
    ≡ and_then o (λ made. entered_by scripting name made (parent_of old.parent) kids rest)
element-so scripting name attributes template old p o e h kids rest =
    element-at scripting name attributes template kids rest old.inside (parent_of old.parent) old.after_text old.drops p
    ∙ (ap (λ b. choose b (λ _. and_then (started name attributes template p)
    (λ made. entered_by scripting name made (parent_of old.parent) kids rest)) (λ _. None)) e
    ∙ ap (λ o. and_then o (λ made. entered_by scripting name made (parent_of old.parent) kids rest)) h)

pub element-unstarted : (scripting : Bool) (name : QualName) (attributes : List Attribute) (template : Bool) (old new : Stand) (p q : Spot)
    → may_hold old name p ≡ true → started name attributes template p ≡ None
    → Opens scripting name attributes template old p new q None
element-unstarted scripting name attributes template old new p q e h kids rest =
    element-so scripting name attributes template old p None e h kids rest

pub element-entered : (scripting : Bool) (name : Bor QualName) (attributes : List Attribute) (template : Bool) (old new : Stand)
    (p q : Spot) (made : Made) (after : Option After) → may_hold old name.now p ≡ true
    → started name.now attributes template p ≡ Some made
    → Enters scripting name made old new after → q ≡ made.spot
    → Opens scripting name.now attributes template old p new q after
element-entered scripting name attributes template old new p q made after e h entered k kids rest =
    element-so scripting name.now attributes template old p (Some made) e h kids rest
    ∙ (entered kids rest ∙ ap (λ q. around_if scripting new q after kids rest) (sym k))

-- INSIDE

pub unwritten : (scripting : Bool) (name : Bor QualName) (made : Made) (old new : Stand) → is_written_so scripting name.now made.raw ≡ false
    → Enters scripting name made old new None
unwritten scripting name made old new e kids rest =
    ap (λ b. choose b (λ _. and_then (choose (is_void name.now) (λ _. choose (ends_there kids made) (λ _. Some made.spot) (λ _. None))
    (λ _. kids_walked name.now kids (λ drops p. walk scripting (below (parent_of old.parent)) false drops kids p) made))
    (λ p. walk scripting (parent_of old.parent) false false rest p)) (λ _. None)) e
