-- The checks of the code are those of the definitions.
use Rattle.std.proofs.Common.{◌≡◌, ◌∙◌, ℕ, Bool, true, false, List, [], ◌∷◌, refl, ap, ap₂, sym, is_some}
use Rattle.std.specs.Prelude.{◌&&◌, not, cond}
use Rattle.std.specs.Str.{bytes_eq}
use Rattle.html_rules.specs.Conditions.{is_nonempty}
use Rattle.html_rules.specs.State.{Open, current_is, is_in}
use Rattle.html_rules.specs.declared.tag_set.TagSet.TheVariants as set
use Rattle.html_faithful.specs.Checks.{closes_so, is_form_kept, is_kept_so, is_pointed, lists_closed, lists_opened, opens_so, points_closed}
use Rattle.html_faithful.specs.Checks.{points_opened}
use Rattle.html_faithful.specs.Harmless.{Change, EntryLeft, EntryPushed, FormChange, FormForgotten, FormKept, FormSet, Made, is_opened}
use Rattle.html_faithful.specs.Harmless.{MarkerLeft, MarkerPushed, Unchanged, is_unchanged}
use Rattle.html_faithful.specs.Spots.{Spot, form_of, is_marked}
use Rattle.html_faithful_judge.proofs.Contexts.{form-context, link-context, template-context}
use Rattle.html_faithful_walk.specs.Checks.{closing_of, current_pointed, form_below, lists_by, lists_opened_at, points_by}
use Rattle.html_faithful_walk.specs.Checks.{points_opened_at}
use Rattle.html_faithful_walk.specs.declared.checks.Closing.{Closing}

pointed-as : (x : Open) (xs : List Open) → current_pointed (x ∷ xs) ≡ is_pointed x xs
pointed-as x xs = ap (λ t. is_in set.Form x && not t) (template-context xs)

below-as : (x : Open) (xs : List Open) → form_below (x ∷ xs) ≡ (is_pointed x xs && is_some (form_of xs))
below-as x xs = ap₂ (λ a o. a && is_some o) (pointed-as x xs) (form-context xs)

forget : (a b : Bool) → (a && not (a && b)) ≡ (a && not b)
forget true b = refl
forget false b = refl

points-closed : (x : Open) (xs : List Open) (form : FormChange) → points_by (closing_of (x ∷ xs)) form ≡ points_closed x xs form
points-closed x xs FormForgotten =
    ap₂ (λ a b. a && not b) (pointed-as x xs) (below-as x xs) ∙ forget (is_pointed x xs) (is_some (form_of xs))
points-closed x xs FormKept = ap not (pointed-as x xs)
points-closed x xs FormSet = refl

lists-closed : (x : Open) (xs : List Open) (change : Change) → lists_by (closing_of (x ∷ xs)) change ≡ lists_closed x change
lists-closed x xs EntryLeft = refl
lists-closed x xs MarkerLeft = refl
lists-closed x xs Unchanged = refl
lists-closed x xs EntryPushed = refl
lists-closed x xs MarkerPushed = refl

closes-at : (path : List Open) (change : Change) (form : FormChange)
    → ((closing_of path).there && (lists_by (closing_of path) change && points_by (closing_of path) form)) ≡ closes_so path change form
closes-at [] change form = refl
closes-at (x ∷ xs) change form = ap₂ (λ a b. a && b) (lists-closed x xs change) (points-closed x xs form)

pub closes-by : (c : Closing) (path : List Open) (change : Change) (form : FormChange) (b l p : Bool) → c ≡ closing_of path
    → l ≡ lists_by c change → p ≡ points_by c form → b ≡ (c.there && (l && p)) → b ≡ closes_so path change form
closes-by c path change form b l p e lists points is =
    is ∙ (ap₂ (λ l p. c.there && (l && p)) lists points
    ∙ (ap (λ (c : Closing). c.there && (lists_by c change && points_by c form)) e ∙ closes-at path change form))

lists-opened : (name : List ℕ) (x : Open) (xs : List Open) (change : Change)
    → lists_opened_at name (x ∷ xs) change ≡ lists_opened name x xs change
lists-opened name x xs EntryPushed =
    ap (λ l. (is_in set.FormattingEnd x && not (is_marked x)) && (bytes_eq name x.name && not (is_in set.A x && l))) (link-context xs)
lists-opened name x xs MarkerPushed = refl
lists-opened name x xs Unchanged = refl
lists-opened name x xs EntryLeft = refl
lists-opened name x xs MarkerLeft = refl

points-opened : (x : Open) (xs : List Open) (form : FormChange) → points_opened_at (x ∷ xs) form ≡ points_opened x xs form
points-opened x xs FormSet = pointed-as x xs
points-opened x xs FormKept = ap not (pointed-as x xs)
points-opened x xs FormForgotten = refl

pub opens-at : (name : List ℕ) (path : List Open) (change : Change) (form : FormChange)
    → (is_nonempty path && (not (current_is (is_in set.AnnotationXml) path)
    && (lists_opened_at name path change && points_opened_at path form))) ≡ opens_so name path change form
opens-at name [] change form = refl
opens-at name (x ∷ xs) change form =
    ap₂ (λ a b. not (is_in set.AnnotationXml x) && (a && b)) (lists-opened name x xs change) (points-opened x xs form)

-- the checks one by one, of which the last decides
pub opens-by : (name : List ℕ) (path : List Open) (change : Change) (form : FormChange) (n a l p : Bool) → n ≡ is_nonempty path → n ≡ true
    → a ≡ current_is (is_in set.AnnotationXml) path → a ≡ false → l ≡ lists_opened_at name path change → l ≡ true
    → p ≡ points_opened_at path form → p ≡ opens_so name path change form
opens-by name path change form n a l p en n-is ea a-is el l-is ep =
    sym (ap₂ (λ n a. n && (not a && (l && p))) n-is a-is ∙ ap (λ l. l && p) l-is)
    ∙ (ap₂ (λ n a. n && (not a && (l && p))) en ea
    ∙ (ap₂ (λ l p. is_nonempty path && (not (current_is (is_in set.AnnotationXml) path) && (l && p))) el ep
    ∙ opens-at name path change form))

pub opens-not : (name : List ℕ) (path : List Open) (change : Change) (form : FormChange) (n a l : Bool) → n ≡ is_nonempty path → n ≡ true
    → a ≡ current_is (is_in set.AnnotationXml) path → a ≡ false → l ≡ lists_opened_at name path change → l ≡ false
    → l ≡ opens_so name path change form
opens-not name path change form n a l en n-is ea a-is el l-is =
    l-is
    ∙ (sym (ap₂ (λ n a. n && (not a && (l && points_opened_at path form))) n-is a-is ∙ ap (λ l. l && points_opened_at path form) l-is)
    ∙ (ap₂ (λ n a. n && (not a && (l && points_opened_at path form))) en ea
    ∙ (ap (λ l. is_nonempty path && (not (current_is (is_in set.AnnotationXml) path) && (l && points_opened_at path form))) el
    ∙ opens-at name path change form)))

-- KEPT

pub kept-opened : (name : List ℕ) (p : Spot) (made : Made) (b o : Bool) → o ≡ is_opened made.put → o ≡ true
    → b ≡ opens_so name made.spot.path made.change made.form → made.closed ≡ false → b ≡ is_kept_so name p made
kept-opened name p made b o e opened is apart =
    is ∙ sym (ap₂ (λ c o. cond c (closes_so p.path made.change made.form)
    (cond o (opens_so name made.spot.path made.change made.form) (is_unchanged made.change && is_form_kept made.form))) apart (sym e
    ∙ opened))

pub kept-alone : (name : List ℕ) (p : Spot) (made : Made) (b o : Bool) → o ≡ is_opened made.put → o ≡ false
    → b ≡ (is_unchanged made.change && is_form_kept made.form) → made.closed ≡ false → b ≡ is_kept_so name p made
kept-alone name p made b o e opened is apart =
    is ∙ sym (ap₂ (λ c o. cond c (closes_so p.path made.change made.form)
    (cond o (opens_so name made.spot.path made.change made.form) (is_unchanged made.change && is_form_kept made.form))) apart (sym e
    ∙ opened))

pub kept-closed : (name : List ℕ) (p : Spot) (made : Made) (b : Bool) → b ≡ closes_so p.path made.change made.form
    → made.closed ≡ true → b ≡ is_kept_so name p made
kept-closed name p made b is closed =
    is ∙ sym (ap (λ c. cond c (closes_so p.path made.change made.form)
    (cond (is_opened made.put) (opens_so name made.spot.path made.change made.form)
    (is_unchanged made.change && is_form_kept made.form))) closed)
