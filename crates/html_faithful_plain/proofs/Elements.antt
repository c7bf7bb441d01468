-- The elements of plain trees are started and finished where plain nodes stand.
use Rattle.std.proofs.Common.{◌≡◌, ◌∙◌, ℕ, Bool, true, false, not, List, [], ◌∷◌, Some, None, refl, sym, ap, true≢false}
use Rattle.std.specs.Prelude.{◌&&◌, ◌||◌, cond, is_none}
use Rattle.std.specs.Str.{bytes_eq}
use Rattle.std.proofs.lemmas.Bool.{and_parts}
use Rattle.markup.specs.Equality.{attribute_lists_by_value, names_by_value, texts_by_value}
use Rattle.markup.specs.Names.{html_namespace}
use Rattle.markup.specs.declared.attributes.Attribute.{Attribute}
use Rattle.html_plain.specs.Elements.{html_name, is_link, spelled}
use Rattle.html_plain.specs.Grammar.{are_plain_attributes}
use Rattle.html_plain.proofs.Names.{each-element}
use Rattle.html_plain.specs.declared.elements.PlainElement.{PlainElement}
use Rattle.html_plain.specs.declared.elements.PlainElement.TheVariants.{Html, Body}
use Rattle.html_plain.specs.declared.elements.PlainElement.TheVariants.{Break, Link}
use Rattle.html_rules.specs.Names as names
use Rattle.html_rules.specs.Sets.{names_of}
use Rattle.html_rules.specs.State.{Open}
use Rattle.html_rules.specs.declared.insertion_mode.InsertionMode.{InsertionMode}
use Rattle.html_tokens.specs.Tags.{named}
use Rattle.html_tokens.specs.declared.tags.TagKind.TheVariants.{EndTag, StartTag}
use Rattle.html_tokens.specs.declared.token.Token.TheVariants.{TagToken}
use Rattle.html_rules.specs.declared.rules.Rules.{Rules}
use Rattle.html_faithful.specs.Checks.{closes_so, is_kept_so, opens_so}
use Rattle.html_faithful.specs.Forms.{is_tag_name, lowered}
use Rattle.html_faithful.specs.Harmless.{FormKept, Made, and_then, made_of}
use Rattle.html_faithful.specs.Harmless as put
use Rattle.html_faithful.specs.Listing.{link_open}
use Rattle.html_faithful.specs.Spots.{Spot}
use Rattle.html_faithful.specs.Walk.{finished, is_made, is_template, is_void, is_written_so, started}
use Rattle.html_faithful.specs.Walk.{stays_open}
use Rattle.html_faithful_plain.proofs.Forms.{attributes-same, attributes-told}
use Rattle.html_faithful_plain.proofs.Stands.{is_break, opened, there}
use Rattle.html_faithful_plain.proofs.Tags.{broken, change_back, change_of, closed_to, end_of, start_of, started_by}

-- NAMES

abbrev pub is_frame : PlainElement → Bool
is_frame Html = true
is_frame Body = true
is_frame k = false

-- a tag name in lower case, of an ordinary element whose text is escaped, and that does not stay open
abbrev fits_name : PlainElement → Bool
fits_name k = is_tag_name (spelled k) && bytes_eq (lowered (spelled k)) (spelled k) && not (is_template (html_name (spelled k)))

pub name-fits : (k : PlainElement) → fits_name k ≡ true
unfolding html_namespace
name-fits k = each-element fits_name refl k

-- which elements are void, and that text is escaped in all of them, where scripts run or do not
abbrev suits : Bool → PlainElement → Bool
suits scripting k = is_written_so scripting (html_name (spelled k)) None
    && (cond (is_break k) (is_void (html_name (spelled k))) (not (is_void (html_name (spelled k)))))
    && (is_frame k || not (stays_open (html_name (spelled k))))

pub name-suits : (scripting : Bool) (k : PlainElement) → suits scripting k ≡ true
unfolding html_namespace
name-suits true k = each-element (suits true) refl k
name-suits false k = each-element (suits false) refl k

-- the list and the pointer are kept those of the path
abbrev opens_well : Rules → PlainElement → List Open → Bool
opens_well rules k ys = opens_so (spelled k) (opened rules k ys ∷ ys) (change_of k) FormKept

abbrev closes_well : Rules → PlainElement → List Open → Bool
closes_well rules k ys = closes_so (opened rules k ys ∷ ys) (change_back k) FormKept

unlinked-opens : (rules : Rules) (k : PlainElement) (ys : List Open) → (is_link k || opens_well rules k ys) ≡ true
unfolding names_of
unlinked-opens rules k ys = each-element (λ k. is_link k || opens_well rules k ys) refl k

opens-well : (rules : Rules) (k : PlainElement) (ys : List Open) → (is_link k ≡ true → link_open ys ≡ false)
    → opens_well rules k ys ≡ true
unfolding names_of
opens-well rules Link ys h = rw (h refl) refl
opens-well rules k ys h = unlinked-opens rules k ys

closes-well : (rules : Rules) (k : PlainElement) (ys : List Open) → closes_well rules k ys ≡ true
unfolding names_of
closes-well rules k ys = each-element (λ k. closes_well rules k ys) refl k

-- START TAGS

pub and-so : (a b : Bool) → a ≡ true → b ≡ true → (a && b) ≡ true
and-so true b h k = k
and-so false b h k = absurd (true≢false (sym h))

not-so : (b : Bool) → not b ≡ true → b ≡ false
not-so true h = absurd (true≢false (sym h))
not-so false h = refl

-- an element of a name that is put, opened or not
pub made-well : (name : List ℕ) (attributes : List Attribute) (opened o : Bool) → opened ≡ o
    → is_made (html_name name) attributes opened (Some (put.Element names.Html name attributes o)) ≡ true
made-well name attributes true true e =
    and-so _ _ (and-so _ _ (and-so _ _ ((names_by_value (html_name name) (html_name name)).1 refl)
    ((attribute_lists_by_value attributes attributes).1 refl)) refl) refl
made-well name attributes false false e =
    and-so _ _ (and-so _ _ (and-so _ _ ((names_by_value (html_name name) (html_name name)).1 refl)
    ((attribute_lists_by_value attributes attributes).1 refl)) refl) refl
made-well name attributes true false e = absurd (true≢false e)
made-well name attributes false true e = absurd (true≢false (sym e))

-- a start tag as it is written is the tag that is taken
module _ (name : List ℕ) (attributes : List Attribute) (q : Spot) (made : Made) where
  pub started-by : lowered name ≡ name → is_tag_name name ≡ true → is_template (html_name name) ≡ false
      → are_plain_attributes attributes ≡ true
      → made_of (TagToken (record (named StartTag name) { attrs = attributes })) q ≡ Some made
      → (is_made (html_name name) attributes (not (is_void (html_name name))) made.put && not made.closed && is_kept_so name q made) ≡ true
      → started (html_name name) attributes false q ≡ Some made
  started-by low tag template plain made-so kept =
      let same = attributes-same attributes plain in
      let told = attributes-told attributes plain in
      rw (low, same, tag, told, template, made-so, kept) refl

  pub finished-by : (spot : Spot) → lowered name ≡ name → made.spot ≡ spot → made_of (TagToken (named EndTag name)) q ≡ Some made
      → ((is_none made.put && not made.drops_line_feed && is_none made.raw)
      && cond (stays_open (html_name name)) (not made.closed) made.closed
      && is_kept_so name q made) ≡ true
      → finished (html_name name) q ≡ Some spot
  finished-by spot low there made-so kept = rw (low, made-so, kept) (ap (λ (s : Spot). Some s) there)

pub low-name : (k : PlainElement) → lowered (spelled k) ≡ spelled k
low-name k =
    let p = and_parts (is_tag_name (spelled k) && bytes_eq (lowered (spelled k)) (spelled k)) (not (is_template (html_name (spelled k))))
    (name-fits k) in
    (texts_by_value (lowered (spelled k)) (spelled k)).0
    (and_parts (is_tag_name (spelled k)) (bytes_eq (lowered (spelled k)) (spelled k)) p.0).1

pub tag-name : (k : PlainElement) → is_tag_name (spelled k) ≡ true
tag-name k =
    let p = and_parts (is_tag_name (spelled k) && bytes_eq (lowered (spelled k)) (spelled k)) (not (is_template (html_name (spelled k))))
    (name-fits k) in
    (and_parts (is_tag_name (spelled k)) (bytes_eq (lowered (spelled k)) (spelled k)) p.0).0

pub no-template : (k : PlainElement) → is_template (html_name (spelled k)) ≡ false
no-template k =
    not-so (is_template (html_name (spelled k)))
    (and_parts (is_tag_name (spelled k) && bytes_eq (lowered (spelled k)) (spelled k)) (not (is_template (html_name (spelled k))))
    (name-fits k)).1

void-by : (b v : Bool) → cond b v (not v) ≡ true → v ≡ b
void-by true v h = h
void-by false true h = absurd (true≢false (sym h))
void-by false false h = refl

module _ (scripting : Bool) (k : PlainElement) where
  abbrev written : Bool
  written = is_written_so scripting (html_name (spelled k)) None

  abbrev voids : Bool
  voids = cond (is_break k) (is_void (html_name (spelled k))) (not (is_void (html_name (spelled k))))

  abbrev leaves : Bool
  leaves = is_frame k || not (stays_open (html_name (spelled k)))

  pub is-written : written ≡ true
  is-written = (and_parts written voids (and_parts (written && voids) leaves (name-suits scripting k)).0).0

  pub is-void : is_void (html_name (spelled k)) ≡ is_break k
  is-void = void-by (is_break k) (is_void (html_name (spelled k)))
      (and_parts written voids (and_parts (written && voids) leaves (name-suits scripting k)).0).1

  pub does-leave : is_frame k ≡ false → stays_open (html_name (spelled k)) ≡ false
  does-leave f = not-so (stays_open (html_name (spelled k)))
      (ap (λ b. b || not (stays_open (html_name (spelled k)))) (sym f) ∙ (and_parts (written && voids) leaves (name-suits scripting k)).1)

-- an element that holds something is started, and opened
pub element-started : (p : Spot) (m : InsertionMode) (ys : List Open) (ok : Bool) (k : PlainElement) (attributes : List Attribute)
    → is_break k ≡ false → are_plain_attributes attributes ≡ true → (is_link k ≡ true → link_open ys ≡ false)
    → made_of (start_of k attributes) (there p m ys ok) ≡ Some (started_by p m ys ok k attributes)
    → started (html_name (spelled k)) attributes false (there p m ys ok) ≡ Some (started_by p m ys ok k attributes)
element-started p m ys ok k attributes v plain link made =
    started-by (spelled k) attributes (there p m ys ok) (started_by p m ys ok k attributes) (low-name k) (tag-name k) (no-template k) plain
    made
    (and-so _ _ (and-so _ _ (made-well (spelled k) attributes (not (is_void (html_name (spelled k)))) true
    (ap not (is-void true k ∙ v))) refl) (opens-well p.rules k ys link))

-- a `br` is started, and nothing is opened
pub break-started : (p : Spot) (m : InsertionMode) (ys : List Open) (ok : Bool) (attributes : List Attribute)
    → are_plain_attributes attributes ≡ true
    → made_of (start_of Break attributes) (there p m ys ok) ≡ Some (broken p m ys attributes)
    → started (html_name (spelled Break)) attributes false (there p m ys ok) ≡ Some (broken p m ys attributes)
break-started p m ys ok attributes plain made =
    started-by (spelled Break) attributes (there p m ys ok) (broken p m ys attributes) (low-name Break) (tag-name Break)
    (no-template Break) plain made
    (and-so _ _ (and-so _ _ (made-well (spelled Break) attributes (not (is_void (html_name (spelled Break)))) false
    (ap not (is-void true Break))) refl) refl)

-- and finished
pub element-finished : (p : Spot) (m n : InsertionMode) (ys : List Open) (ok : Bool) (k : PlainElement) → is_frame k ≡ false
    → made_of (end_of k) (there p n (opened p.rules k ys ∷ ys) ok) ≡ Some (closed_to p m ys ok k)
    → finished (html_name (spelled k)) (there p n (opened p.rules k ys ∷ ys) ok) ≡ Some (there p m ys ok)
element-finished p m n ys ok k f made =
    finished-by (spelled k) [] (there p n (opened p.rules k ys ∷ ys) ok) (closed_to p m ys ok k) (there p m ys ok) (low-name k) refl made
    (and-so _ _ (and-so _ _ refl (ap (λ b. cond b false true) (does-leave true k f))) (closes-well p.rules k ys))
