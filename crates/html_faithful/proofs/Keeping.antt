-- What is asked of a state at a spot holds again after each token that is settled so.
use Rattle.std.proofs.Common.{◌≡◌, ◌∙◌, ℕ, ◌≤◌, Bool, true, false, not, length, List, [], ◌∷◌, Option, Some, None, refl, sym, ap, ap₂}
use Rattle.std.proofs.Common.{arith, subst, true≢false}
use Rattle.std.proofs.lemmas.Bool.{and_parts}
use Rattle.std.specs.Prelude.{◌&&◌, ◌||◌, ◌<◌, IfSome, cond, is_some, map}
use Rattle.std.specs.Str.{bytes_eq}
use Rattle.markup.specs.Equality.{texts_by_value}
use Rattle.markup.specs.Forest.{node_count}
use Rattle.markup.specs.declared.attributes.Attribute.{Attribute}
use Rattle.html_tokens.specs.declared.token.Token.{Token}
use Rattle.html_rules.specs.Names.{Namespace}
use Rattle.html_rules.specs.Places.{next_open, put_element}
use Rattle.html_rules.specs.Rules.{Settled, is_self_closing, settle}
use Rattle.html_rules.specs.Stack.{has_open, is_open, without_current}
use Rattle.html_rules.specs.State.{Entry, Open, State, current_number, is_in}
use Rattle.html_rules.specs.declared.tag_set.TagSet.TheVariants as set
use Rattle.html_faithful.specs.Checks.{closes_so, is_form_kept, is_kept_so, is_pointed, lists_closed, lists_opened, opens_so, points_closed}
use Rattle.html_faithful.specs.Checks.{points_opened}
use Rattle.html_faithful.specs.Faces.{Face, Looks, Stands, bare}
use Rattle.html_faithful.specs.Harmless.{Change, EntryLeft, EntryPushed, FormChange, FormForgotten, FormKept, FormSet, Made}
use Rattle.html_faithful.specs.Harmless.{MarkerLeft, MarkerPushed}
use Rattle.html_faithful.specs.Harmless.{Put, Unchanged, is_opened, is_unchanged, made_of}
use Rattle.html_faithful.specs.Harmless as put
use Rattle.html_faithful.specs.Keeping.{IsAt, IsCounted}
use Rattle.html_faithful.specs.Listing.{AreApart, Bare, Lists, Marked, link_open}
use Rattle.html_faithful.specs.Numbers.{AreAllBelow, AreNumbered}
use Rattle.html_faithful.specs.Spots.{Spot, form_of, is_marked, opened_at}
use Rattle.html_faithful.specs.Steps.{Comes, form_by, forest_by, had_duplicates, list_by, stack_by, tag_in}
use Rattle.html_faithful.specs.Turns.{IsDone, IsDoneAt}
use Rattle.html_faithful.specs.Ways.{path_by}
use Rattle.html_faithful.proofs.Faces.{same}
use Rattle.html_faithful.proofs.Listing.{adopts, entry-left, links, listed-more, marker-left, no-link, other-left, settled}
use Rattle.html_faithful.proofs.Numbers.{below-more, grown, more-nodes, not-open}
use Rattle.html_faithful.proofs.Pointing.{form-blind, link-blind, points-given, template-blind}
use Rattle.html_faithful.proofs.Turns.{tokens-followed}
use Rattle.html_faithful.proofs.Ways.{paths-followed}

-- WHAT CHECKS SEE

lists-opened_blind : (name : List ℕ) (x : Open) (xs : List Open) (change : Change)
    → lists_opened name (bare x) (map bare xs) change ≡ lists_opened name x xs change
lists-opened_blind name x xs EntryPushed =
    ap (λ b. (is_in set.FormattingEnd x && not (is_marked x)) && (bytes_eq name x.name && not (is_in set.A x && b))) (link-blind xs)
lists-opened_blind name x xs MarkerPushed = refl
lists-opened_blind name x xs Unchanged = refl
lists-opened_blind name x xs EntryLeft = refl
lists-opened_blind name x xs MarkerLeft = refl

points-opened_blind : (x : Open) (xs : List Open) (form : FormChange) → points_opened (bare x) (map bare xs) form ≡ points_opened x xs form
points-opened_blind x xs FormSet = ap (λ b. is_in set.Form x && not b) (template-blind xs)
points-opened_blind x xs FormKept = ap (λ b. not (is_in set.Form x && not b)) (template-blind xs)
points-opened_blind x xs FormForgotten = refl

opens-blind : (name : List ℕ) (change : Change) (form : FormChange) (xs : List Open)
    → opens_so name (map bare xs) change form ≡ opens_so name xs change form
opens-blind name change form [] = refl
opens-blind name change form (x ∷ xs) =
    ap₂ (λ a b. not (is_in set.AnnotationXml x) && (a && b)) (lists-opened_blind name x xs change) (points-opened_blind x xs form)

points-closed_blind : (x : Open) (xs : List Open) (form : FormChange) → points_closed (bare x) (map bare xs) form ≡ points_closed x xs form
points-closed_blind x xs FormForgotten = ap₂ (λ b o. (is_in set.Form x && not b) && not o) (template-blind xs) (form-blind xs)
points-closed_blind x xs FormKept = ap (λ b. not (is_in set.Form x && not b)) (template-blind xs)
points-closed_blind x xs FormSet = refl

lists-closed_blind : (x : Open) (change : Change) → lists_closed (bare x) change ≡ lists_closed x change
lists-closed_blind x EntryLeft = refl
lists-closed_blind x MarkerLeft = refl
lists-closed_blind x Unchanged = refl
lists-closed_blind x EntryPushed = refl
lists-closed_blind x MarkerPushed = refl

closes-blind : (change : Change) (form : FormChange) (xs : List Open) → closes_so (map bare xs) change form ≡ closes_so xs change form
closes-blind change form [] = refl
closes-blind change form (x ∷ xs) = ap₂ (λ a b. a && b) (lists-closed_blind x change) (points-closed_blind x xs form)

-- CHOICES

not-no : (b : Bool) → not b ≡ true → b ≡ false
not-no true h = absurd (true≢false (sym h))
not-no false h = refl

not-both : (a b : Bool) → not (a && b) ≡ true → a ≡ true → b ≡ false
not-both true b h e = not-no b h
not-both false b h e = absurd (true≢false (sym e))

neither : (a b : Bool) → a ≡ false → b ≡ false → (a || b) ≡ false
neither true b h g = h
neither false b h g = g

or-no₂ : (a b : Bool) → (a || b) ≡ false → b ≡ false
or-no₂ true b h = absurd (true≢false h)
or-no₂ false b h = h

no-some : {A : Type 0} (o : Option A) → not (is_some o) ≡ true → o ≡ None
no-some None h = refl
no-some (Some x) h = absurd (true≢false (sym h))

-- THE LIST AND THE POINTER

lists-after_opened : (t : Token) (s : State) (namespace : Namespace) (name : List ℕ) (change : Change)
    → Lists s.open_elems s.active_formatting
    → lists_opened (tag_in t).name (next_open s namespace name) s.open_elems change ≡ true
    → Lists (next_open s namespace name ∷ s.open_elems) (list_by t change s)
lists-after_opened t s namespace name EntryPushed l k =
    let x = next_open s namespace name in
    let here = and_parts (is_in set.FormattingEnd x && not (is_marked x))
    (bytes_eq (tag_in t).name x.name && not (is_in set.A x && link_open s.open_elems)) k in
    let kinds = and_parts (is_in set.FormattingEnd x) (not (is_marked x)) here.0 in
    let more = and_parts (bytes_eq (tag_in t).name x.name) (not (is_in set.A x && link_open s.open_elems)) here.1 in
    listed-more x (tag_in t) s.open_elems s.active_formatting (not-no (is_marked x) kinds.1)
    ((texts_by_value (tag_in t).name x.name).0 more.0) kinds.0 (not-both (is_in set.A x) (link_open s.open_elems) more.1) l
lists-after_opened t s namespace name MarkerPushed l k = Marked k l
lists-after_opened t s namespace name Unchanged l k =
    let x = next_open s namespace name in
    let kinds = and_parts (not (is_in set.FormattingEnd x)) (not (is_marked x)) k in
    Bare (not-no (is_marked x) kinds.1) (no-link namespace name (not-no (is_in set.FormattingEnd x) kinds.0)) l
lists-after_opened t s namespace name EntryLeft l k = absurd (true≢false (sym k))
lists-after_opened t s namespace name MarkerLeft l k = absurd (true≢false (sym k))

form-after_opened : (s : State) (x : Open) (form : FormChange) → x.number ≡ node_count s.forest → s.form_elem ≡ form_of s.open_elems
    → points_opened x s.open_elems form ≡ true → form_by form s ≡ form_of (x ∷ s.open_elems)
form-after_opened s x FormSet e h k = rw (k, e) refl
form-after_opened s x FormKept e h k = rw (not-no (is_pointed x s.open_elems) k) h
form-after_opened s x FormForgotten e h k = absurd (true≢false (sym k))

lists-after_closed : (t : Token) (s : State) (x : Open) (xs : List Open) (change : Change) → s.open_elems ≡ x ∷ xs
    → Lists (x ∷ xs) s.active_formatting → is_open x.number xs ≡ false → lists_closed x change ≡ true → Lists xs (list_by t change s)
lists-after_closed t s x xs EntryLeft e l apart k = rw (ap current_number e) (entry-left l apart (not-no (is_marked x) k))
lists-after_closed t s x xs MarkerLeft e l apart k = marker-left l k
lists-after_closed t s x xs Unchanged e l apart k =
    let kinds = and_parts (not (is_in set.FormattingEnd x)) (not (is_marked x)) k in
    other-left l (not-no (is_marked x) kinds.1) (not-no (is_in set.FormattingEnd x) kinds.0)
lists-after_closed t s x xs EntryPushed e l apart k = absurd (true≢false (sym k))
lists-after_closed t s x xs MarkerPushed e l apart k = absurd (true≢false (sym k))

form-at : (s : State) (x : Open) (xs : List Open) (b : Bool) → is_pointed x xs ≡ b → s.form_elem ≡ form_of (x ∷ xs) → b ≡ false
    → s.form_elem ≡ form_of xs
form-at s x xs true e h k = absurd (true≢false k)
form-at s x xs false e h k = h ∙ rw e refl

form-after_closed : (s : State) (x : Open) (xs : List Open) (form : FormChange) → s.form_elem ≡ form_of (x ∷ xs)
    → points_closed x xs form ≡ true → form_by form s ≡ form_of xs
form-after_closed s x xs FormForgotten h k =
    sym (no-some (form_of xs) (and_parts (is_pointed x xs) (not (is_some (form_of xs))) k).1)
form-after_closed s x xs FormKept h k = form-at s x xs (is_pointed x xs) refl h (not-no (is_pointed x xs) k)
form-after_closed s x xs FormSet h k = absurd (true≢false (sym k))

-- NUMBERS

counted-below : (xs : List Open) → IsCounted xs → AreAllBelow (length xs) xs
counted-below [] h = tt
counted-below (x ∷ xs) h =
    let e : x.number ≡ length xs = h.0 in
    (omega arith, below-more (length xs) (length (x ∷ xs)) xs (omega arith) (counted-below xs h.1))

pub counted-apart : (xs : List Open) → IsCounted xs → AreApart xs
counted-apart [] h = tt
counted-apart (x ∷ xs) h = (rw h.0 (not-open (length xs) xs (counted-below xs h.1)), counted-apart xs h.1)

lists-there : {xs ys : List Open} {es fs : List Entry} → xs ≡ ys → es ≡ fs → Lists ys fs → Lists xs es
lists-there e f l = rw (e, f) l

numbered-there : (s : State) (xs : List Open) (m n : ℕ) → s.open_elems ≡ xs → node_count s.forest ≡ n → m ≤ n → AreApart xs
    → AreAllBelow m xs
    → AreNumbered s
numbered-there s xs m n e f l apart below = rw (e, f) (apart, below-more m n xs l below)

opened-there : (s : State) (x : Open) (xs : List Open) (m : ℕ) → s.open_elems ≡ x ∷ xs → x.number ≡ m → m < node_count s.forest
    → AreApart xs × AreAllBelow m xs → AreNumbered s
opened-there s x xs m e f l h =
    rw e ((rw f (not-open m xs h.1), h.0), (rw f l, below-more m (node_count s.forest) xs (omega arith) h.1))

-- AFTER A TOKEN

module _ (t : Token) (p q : Spot) (s left : State) (here : IsAt s p) (looks : Looks left q)
    (pending : left.pending_table_text ≡ s.pending_table_text) where
  names : map bare left.open_elems ≡ map bare q.path
  names = ap (λ (f : Face). f.names) looks

  after-opened : (namespace : Namespace) (name : List ℕ) (attributes : List Attribute) (change : Change) (form : FormChange)
      → left.open_elems ≡ next_open s namespace name ∷ s.open_elems
      → left.forest ≡ (put_element namespace name attributes (had_duplicates t) s).forest
      → left.active_formatting ≡ list_by t change s → left.form_elem ≡ form_by form s → q.path ≡ opened_at q.rules namespace name p.path ∷ p.path
      → opens_so (tag_in t).name q.path change form ≡ true → IsAt left q
  after-opened namespace name attributes change form stack forest list pointer path k =
      let x = next_open s namespace name in
      let seen : opens_so (tag_in t).name left.open_elems change form ≡ true =
      same (λ xs. opens_so (tag_in t).name xs change form) (opens-blind (tag_in t).name change form) left.open_elems q.path names ∙ k in
      let there : opens_so (tag_in t).name (x ∷ s.open_elems) change form ≡ true =
      ap (λ xs. opens_so (tag_in t).name xs change form) (sym stack) ∙ seen in
      let parts = and_parts (not (is_in set.AnnotationXml x))
      (lists_opened (tag_in t).name x s.open_elems change && points_opened x s.open_elems form) there in
      let more = and_parts (lists_opened (tag_in t).name x s.open_elems change) (points_opened x s.open_elems form) parts.1 in
      record {
        looks = looks;
        no_text = pending ∙ here.no_text;
        lists = lists-there stack list (lists-after_opened t s namespace name change here.lists more.0);
        form = pointer ∙ (form-after_opened s x form refl here.form more.1 ∙ sym (ap form_of stack));
        numbered = opened-there left x s.open_elems (node_count s.forest) stack refl
            (rw forest (more-nodes namespace name attributes (had_duplicates t) s)) here.numbered;
        counted = subst IsCounted (sym path) (refl, here.counted);
        unasked = ap (has_open set.AnnotationXml) path
            ∙ neither (is_in set.AnnotationXml x) (has_open set.AnnotationXml p.path)
            (not-no (is_in set.AnnotationXml x) parts.0) here.unasked;
      }

  seen-closed : (change : Change) (form : FormChange) → closes_so s.open_elems change form ≡ closes_so p.path change form
  seen-closed change form =
      same (λ xs. closes_so xs change form) (closes-blind change form) s.open_elems p.path (ap (λ (f : Face). f.names) here.looks)

  after-closed : (what : Option Put) (change : Change) (form : FormChange) (xs ys : List Open) → s.open_elems ≡ xs → p.path ≡ ys
      → left.open_elems ≡ without_current s.open_elems → left.forest ≡ forest_by t what s
      → left.active_formatting ≡ list_by t change s → left.form_elem ≡ form_by form s → q.path ≡ without_current p.path
      → closes_so p.path change form ≡ true → IsAt left q
  after-closed what change form xs [] e g stack forest list pointer path k =
      absurd (true≢false (sym k ∙ ap (λ ys. closes_so ys change form) g))
  after-closed what change form [] (y ∷ ys) e g stack forest list pointer path k =
      absurd (true≢false (sym k ∙ (sym (seen-closed change form) ∙ ap (λ xs. closes_so xs change form) e)))
  after-closed what change form (x ∷ xs) (y ∷ ys) e g stack forest list pointer path k =
      let there : closes_so (x ∷ xs) change form ≡ true = ap (λ xs. closes_so xs change form) (sym e) ∙ (seen-closed change form ∙ k) in
      let parts = and_parts (lists_closed x change) (points_closed x xs form) there in
      let numbers : AreApart (x ∷ xs) × AreAllBelow (node_count s.forest) (x ∷ xs) =
      subst (λ xs. AreApart xs × AreAllBelow (node_count s.forest) xs) e here.numbered in
      let now : left.open_elems ≡ xs = stack ∙ ap without_current e in
      let after : q.path ≡ ys = path ∙ ap without_current g in
      let counts : IsCounted (y ∷ ys) = subst IsCounted g here.counted in
      record {
        looks = looks;
        no_text = pending ∙ here.no_text;
        lists = lists-there now list
            (lists-after_closed t s x xs change e (subst (λ xs. Lists xs s.active_formatting) e here.lists) numbers.0.0 parts.0);
        form = pointer ∙ (form-after_closed s x xs form (here.form ∙ ap form_of e) parts.1 ∙ sym (ap form_of now));
        numbered = numbered-there left xs (node_count s.forest) (node_count (forest_by t what s)) now (ap node_count forest)
            (grown t what s) numbers.0.1 numbers.1.1;
        counted = subst IsCounted (sym after) counts.1;
        unasked = ap (has_open set.AnnotationXml) after
            ∙ or-no₂ (is_in set.AnnotationXml y) (has_open set.AnnotationXml ys) (ap (has_open set.AnnotationXml) (sym g) ∙ here.unasked);
      }

  after-kept : (what : Option Put) (change : Change) (form : FormChange) → left.open_elems ≡ s.open_elems → left.forest ≡ forest_by t what s
      → left.active_formatting ≡ list_by t change s → left.form_elem ≡ form_by form s → q.path ≡ p.path
      → (is_unchanged change && is_form_kept form) ≡ true → IsAt left q
  after-kept what Unchanged FormKept stack forest list pointer path k = record {
    looks = looks;
    no_text = pending ∙ here.no_text;
    lists = lists-there stack list here.lists;
    form = pointer ∙ (here.form ∙ sym (ap form_of stack));
    numbered = numbered-there left s.open_elems (node_count s.forest) (node_count (forest_by t what s)) stack (ap node_count forest)
        (grown t what s) here.numbered.0 here.numbered.1;
    counted = subst IsCounted (sym path) here.counted;
    unasked = ap (has_open set.AnnotationXml) path ∙ here.unasked;
  }
  after-kept what Unchanged FormSet stack forest list pointer path k = absurd (true≢false (sym k))
  after-kept what Unchanged FormForgotten stack forest list pointer path k = absurd (true≢false (sym k))
  after-kept what change form stack forest list pointer path k = absurd (true≢false (sym k))

  after : (what : Option Put) (closed : Bool) (change : Change) (form : FormChange) → left.open_elems ≡ stack_by what closed s
      → left.forest ≡ forest_by t what s → left.active_formatting ≡ list_by t change s → left.form_elem ≡ form_by form s
      → q.path ≡ path_by q.rules what closed p.path
      → cond closed (closes_so p.path change form)
      (cond (is_opened what) (opens_so (tag_in t).name q.path change form) (is_unchanged change && is_form_kept form)) ≡ true
      → IsAt left q
  after what true change form a b c d e k = after-closed what change form s.open_elems p.path refl refl a b c d e k
  after (Some (put.Element namespace name attributes true)) false change form a b c d e k =
      after-opened namespace name attributes change form a b c d e k
  after (Some (put.Element namespace name attributes false)) false change form a b c d e k =
      after-kept (Some (put.Element namespace name attributes false)) change form a b c d e k
  after (Some put.TextHere) false change form a b c d e k = after-kept (Some put.TextHere) change form a b c d e k
  after (Some put.CommentHere) false change form a b c d e k = after-kept (Some put.CommentHere) change form a b c d e k
  after (Some put.InRoot) false change form a b c d e k = after-kept (Some put.InRoot) change form a b c d e k
  after (Some put.InDocument) false change form a b c d e k = after-kept (Some put.InDocument) change form a b c d e k
  after None false change form a b c d e k = after-kept None change form a b c d e k

module _ (s : State) (p : Spot) (here : IsAt s p) where
  pub at-stands : Stands s p
  at-stands = record {
    looks = here.looks;
    points = points-given s p here.looks here.form here.numbered.0 (counted-apart p.path here.counted) (links here.lists);
    unasked = here.unasked;
  }

  module _ (t : Token) (open_tag : is_self_closing t ≡ false) (left : Settled) where
    -- what was made of the token was done, and the state that is left stands at the new spot
    abbrev pub Kept : Made → Type 0
    Kept made = is_kept_so (tag_in t).name p made ≡ true
        → IsDone t s left made × IsAt left.state made.spot × (made.spot.path ≡ path_by made.spot.rules made.put made.closed p.path)

    kept-by : (made : Made) → IsDone t s left made → made.spot.path ≡ path_by made.spot.rules made.put made.closed p.path → Kept made
    kept-by made done path k =
        let c : Comes t s left.state made = done.0 in (
          done,
          after t p made.spot s left.state here c.0 c.7 made.put made.closed made.change made.form c.1 c.2 c.3 c.5 path k,
          path,
        )

    both : (o : Option Made) → IfSome o (λ made. IsDone t s left made)
        → IfSome o (λ made. made.spot.path ≡ path_by made.spot.rules made.put made.closed p.path) → IfSome o Kept
    both None a b = tt
    both (Some made) a b = kept-by made a b

    pub kept-so : IsDoneAt t p s left → IfSome (made_of t p) Kept
    kept-so h = both (made_of t p) h (paths-followed t p)

  pub settled-so : (t : Token) → is_self_closing t ≡ false → IsDoneAt t p s (settle t s)
  settled-so t open_tag = tokens-followed t p s at-stands (settled here.lists) (adopts s here.lists here.numbered.0) open_tag

  pub spots-kept : (t : Token) (open_tag : is_self_closing t ≡ false) → IfSome (made_of t p) (Kept t open_tag (settle t s))
  spots-kept t open_tag = kept-so t open_tag (settle t s) (settled-so t open_tag)
