-- The start tag and the end tag of an element, at a spot where the element is faithful.
use Rattle.std.proofs.Common.{◌≡◌, ◌∙◌, ℕ, Bool, true, false, not, List, ◌∷◌, Option, Some, None, refl, sym, ap, ap₂, subst, true≢false}
use Rattle.std.proofs.lemmas.Bool.{and_parts}
use Rattle.std.specs.Cmp.Lexicographic.{pointwise}
use Rattle.std.specs.Prelude.{◌&&◌, IfSome, cond, is_none}
use Rattle.markup.specs.Equality.{attribute_eq, attribute_lists_by_value, names_by_value}
use Rattle.markup.specs.declared.attributes.Attribute.{Attribute}
use Rattle.markup.specs.declared.names.QualName.{QualName}
use Rattle.html_rules.specs.Choice.{choose}
use Rattle.html_rules.specs.Names.{Html, MathMl, Namespace, Other, Svg, element_name_of, mathml_namespace, namespace_of, svg_namespace}
use Rattle.html_rules.specs.Names.{uri_of}
use Rattle.markup.specs.Names.{html_namespace}
use Rattle.html_rules.specs.Places.{next_open}
use Rattle.html_rules.specs.Rules.{Settled}
use Rattle.html_rules.specs.Stack.{without_current}
use Rattle.html_rules.specs.State.{Open, State}
use Rattle.html_rules.specs.declared.rules.Rules.{Rules}
use Rattle.html_faithful.specs.Checks.{is_kept_so}
use Rattle.html_faithful.specs.Forms.{lowered}
use Rattle.html_faithful.specs.Harmless.{Made, Put, and_then, made_of}
use Rattle.html_faithful.specs.Harmless as put
use Rattle.html_faithful.specs.Keeping.{IsAt}
use Rattle.html_faithful.specs.Spots.{Spot, opened_at}
use Rattle.html_faithful.specs.Steps.{forest_by, stack_by}
use Rattle.html_faithful.specs.Tags.{IsFinished, IsStarted}
use Rattle.html_faithful.specs.Walk.{end_tag, finished, is_known, is_made, is_void, is_written_tag, same_name, start_tag, started}
use Rattle.html_faithful.specs.Walk.{stays_open}
use Rattle.html_faithful.specs.Turns.{IsDoneAt, IsReplied}
use Rattle.html_faithful.specs.Ways.{path_by}
use Rattle.html_faithful.proofs.Keeping.{Kept, kept-so}

pub choose-so : {A : Type 0} (b : Bool) (x : Option A) (P : A → Type 0) → (b ≡ true → IfSome x P) → IfSome (choose b (λ _. x) (λ _. None)) P
choose-so true x P h = h refl
choose-so false x P h = tt

pub then-so : {A B : Type 0} (o : Option A) (f : A → Option B) (Q : A → Type 0) (P : B → Type 0) → IfSome o Q
    → ((m : A) → Q m → IfSome (f m) P) → IfSome (and_then o f) P
then-so None f Q P h g = tt
then-so (Some m) f Q P h g = g m h

not-no : (b : Bool) → not b ≡ true → b ≡ false
not-no true h = absurd (true≢false (sym h))
not-no false h = refl

-- WHAT IS PUT

pub record IsPut (name : QualName) (attributes : List Attribute) (opened : Bool) (what : Option Put) : Type 0 where
  pub namespace : Namespace
  pub is_name : name ≡ element_name_of namespace name.local
  pub known : namespace_of name.ns ≡ namespace
  pub is : what ≡ Some (put.Element namespace name.local attributes opened)

found-again : (namespace : Namespace) → is_known namespace ≡ true → namespace_of (uri_of namespace) ≡ namespace
unfolding mathml_namespace svg_namespace html_namespace
found-again Html h = refl
found-again MathMl h = refl
found-again Svg h = refl
found-again (Other uri) h = absurd (true≢false (sym h))

so : (opened o : Bool) → cond opened o (not o) ≡ true → o ≡ opened
so true o h = h
so false o h = not-no o h

pub element-by : (name : QualName) (attributes : List Attribute) (opened : Bool) (what : Option Put)
    → is_made name attributes opened what ≡ true
    → IsPut name attributes opened what
element-by name attributes opened (Some (put.Element namespace local found o)) h =
    let all = and_parts ((same_name (element_name_of namespace local) name && pointwise attribute_eq found attributes)
    && cond opened o (not o))
    (is_known namespace) h in
    let parts = and_parts (same_name (element_name_of namespace local) name
    && pointwise attribute_eq found attributes) (cond opened o (not o)) all.0 in
    let more = and_parts (same_name (element_name_of namespace local) name) (pointwise attribute_eq found attributes) parts.0 in
    let e : element_name_of namespace local ≡ name = (names_by_value (element_name_of namespace local) name).0 more.0 in
    let f : local ≡ name.local = ap (λ (n : QualName). n.local) e in
    let g : found ≡ attributes = (attribute_lists_by_value found attributes).0 more.1 in
    record {
      namespace = namespace;
      is_name = sym e ∙ ap (element_name_of namespace) f;
      known = ap (λ (n : QualName). namespace_of n.ns) (sym e) ∙ found-again namespace all.1;
      is = ap (λ l. Some (put.Element namespace l found o)) f ∙ (ap (λ a. Some (put.Element namespace name.local a o)) g
          ∙ ap (λ o. Some (put.Element namespace name.local attributes o)) (so opened o parts.1));
    }
element-by name attributes opened what h = absurd (true≢false (sym h))

void-stack : (v : Bool) (s : State) (namespace : Namespace) (name : List ℕ) (attributes : List Attribute)
    → stack_by (Some (put.Element namespace name attributes (not v))) false s ≡ cond v s.open_elems (next_open s namespace name
    ∷ s.open_elems)
void-stack true s namespace name attributes = refl
void-stack false s namespace name attributes = refl

void-path : (rules : Rules) (v : Bool) (path : List Open) (namespace : Namespace) (name : List ℕ) (attributes : List Attribute)
    → path_by rules (Some (put.Element namespace name attributes (not v))) false path ≡ cond v path (opened_at rules namespace name path ∷ path)
void-path rules true path namespace name attributes = refl
void-path rules false path namespace name attributes = refl

nothing-put : {A : Type 0} (o : Option A) → is_none o ≡ true → o ≡ None
nothing-put None h = refl
nothing-put (Some x) h = absurd (true≢false (sym h))

closed-by : (v c : Bool) → cond v (not c) c ≡ true → c ≡ not v
closed-by true c h = not-no c h
closed-by false c h = h

left-stack : (v : Bool) (s : State) → stack_by None (not v) s ≡ cond v s.open_elems (without_current s.open_elems)
left-stack true s = refl
left-stack false s = refl

left-path : (rules : Rules) (v : Bool) (path : List Open) → path_by rules None (not v) path ≡ cond v path (without_current path)
left-path rules true path = refl
left-path rules false path = refl

-- BOTH TAGS

module _ (s : State) (p : Spot) (here : IsAt s p) (name : QualName) where
  start-so : (attributes : List Attribute) (left : Settled) (made : Made) → Kept s p here (start_tag name attributes) refl left made
      → ((is_made name attributes (not (is_void name)) made.put && not made.closed) && is_kept_so (lowered name.local) p made) ≡ true
      → IsStarted name attributes p s left made
  start-so attributes left made kept h =
      let parts = and_parts (is_made name attributes (not (is_void name)) made.put
      && not made.closed) (is_kept_so (lowered name.local) p made) h in
      let more = and_parts (is_made name attributes (not (is_void name)) made.put) (not made.closed) parts.0 in
      let element = element-by name attributes (not (is_void name)) made.put more.0 in
      let shut : made.closed ≡ false = not-no made.closed more.1 in
      let all = kept parts.1 in
      record {
        done = all.0;
        drops = all.0.0.6;
        now = all.1;
        namespace = element.namespace;
        is_name = element.is_name;
        known = element.known;
        tree = all.0.0.2 ∙ ap (λ o. forest_by (start_tag name attributes) o s) element.is;
        stack = all.0.0.1 ∙ (ap₂ (λ o c. stack_by o c s) element.is shut
            ∙ void-stack (is_void name) s element.namespace name.local attributes);
        path = all.2 ∙ (ap₂ (λ o c. path_by made.spot.rules o c p.path) element.is shut
            ∙ void-path made.spot.rules (is_void name) p.path element.namespace name.local attributes);
      }

  pub starts : (attributes : List Attribute) (template : Bool) (left : Settled) → IsDoneAt (start_tag name attributes) p s left
      → IfSome (started name attributes template p) (λ made. IsStarted name attributes p s left made)
  starts attributes template left done =
      let P = λ (made : Made). IsStarted name attributes p s left made in
      let f = λ (made : Made). choose
      ((is_made name attributes (not (is_void name)) made.put && not made.closed) && is_kept_so (lowered name.local) p made)
      (λ _. Some made) (λ _. None) in
      choose-so (is_written_tag name attributes template) (and_then (made_of (start_tag name attributes) p) f) P
      (λ b. then-so (made_of (start_tag name attributes) p) f (Kept s p here (start_tag name attributes) refl left) P
      (kept-so s p here (start_tag name attributes) refl left done)
      (λ made kept. choose-so
      ((is_made name attributes (not (is_void name)) made.put && not made.closed) && is_kept_so (lowered name.local) p made)
      (Some made) P (λ h. start-so attributes left made kept h)))

  end-so : (left : Settled) (made : Made) → Kept s p here (end_tag name) refl left made
      → (((is_none made.put && not made.drops_line_feed && is_none made.raw) && cond (stays_open name) (not made.closed) made.closed)
      && is_kept_so (lowered name.local) p made) ≡ true
      → IsFinished name p s left made.spot
  end-so left made kept h =
      let parts = and_parts ((is_none made.put && not made.drops_line_feed && is_none made.raw)
      && cond (stays_open name) (not made.closed) made.closed) (is_kept_so (lowered name.local) p made) h in
      let more = and_parts (is_none made.put && not made.drops_line_feed
      && is_none made.raw) (cond (stays_open name) (not made.closed) made.closed) parts.0 in
      let quiet = and_parts (is_none made.put && not made.drops_line_feed) (is_none made.raw) more.0 in
      let still = and_parts (is_none made.put) (not made.drops_line_feed) quiet.0 in
      let none : made.put ≡ None = nothing-put made.put still.0 in
      let shut : made.closed ≡ not (stays_open name) = closed-by (stays_open name) made.closed more.1 in
      let all = kept parts.1 in
      record {
        is_done = all.0.1;
        keeps_line_feeds = λ e. all.0.0.6 e ∙ not-no made.drops_line_feed still.1;
        now = all.1;
        tree = all.0.0.2 ∙ ap (λ o. forest_by (end_tag name) o s) none;
        stack = all.0.0.1 ∙ (ap₂ (λ o c. stack_by o c s) none shut ∙ left-stack (stays_open name) s);
        plain = subst (λ o. IsReplied o left.reply) (nothing-put made.raw quiet.1) all.0.2;
        path = all.2 ∙ (ap₂ (λ o c. path_by made.spot.rules o c p.path) none shut ∙ left-path made.spot.rules (stays_open name) p.path);
      }

  pub ends : (left : Settled) → IsDoneAt (end_tag name) p s left → IfSome (finished name p) (λ after. IsFinished name p s left after)
  ends left done =
      let P = λ (after : Spot). IsFinished name p s left after in
      let f = λ (made : Made). choose
      (((is_none made.put && not made.drops_line_feed && is_none made.raw) && cond (stays_open name) (not made.closed) made.closed)
      && is_kept_so (lowered name.local) p made)
      (λ _. Some made.spot) (λ _. None) in
      then-so (made_of (end_tag name) p) f (Kept s p here (end_tag name) refl left) P
      (kept-so s p here (end_tag name) refl left done)
      (λ made kept. choose-so
      (((is_none made.put && not made.drops_line_feed && is_none made.raw) && cond (stays_open name) (not made.closed) made.closed)
      && is_kept_so (lowered name.local) p made)
      (Some made.spot) P (λ h. end-so left made kept h))
