-- An action that does no harm at a spot does to a state that stands there just what was made of it.
use Rattle.std.proofs.Common.{◌≡◌, ◌∙◌, ℕ, Bool, true, false, not, List, [], ◌∷◌, Option, Some, None, refl, sym, ap, ap₂, subst, true≢false}
use Rattle.std.proofs.lemmas.Bool.{and_parts}
use Rattle.std.specs.List.{list_all, list_any}
use Rattle.std.specs.Prelude.{◌&&◌, ◌||◌, IfSome, codes, is_none, is_some, map}
use Rattle.markup.specs.Forest.{Forest, node_count}
use Rattle.markup.specs.declared.attributes.Attribute.{Attribute}
use Rattle.html_tokens.specs.declared.tags.Tag.{Tag}
use Rattle.html_tokens.specs.declared.token.Token.{Token}
use Rattle.html_tokens.specs.declared.token.Token.TheVariants.{TagToken}
use Rattle.html_rules.specs.Actions.{act, for_tag, or_mode, without_first}
use Rattle.html_rules.specs.Actions.{set_mode, save_mode, restore_mode, push_template_mode, pop_template_mode, set_template_mode}
use Rattle.html_rules.specs.Actions.{frameset_not_ok, frameset_not_ok_unless_white, set_ignore_lf, set_head_elem, set_form_elem}
use Rattle.html_rules.specs.Actions.{forget_form_elem}
use Rattle.html_rules.specs.Choice.{choose}
use Rattle.html_rules.specs.Conditions.{holds}
use Rattle.html_rules.specs.ForeignContent.{is_end_tag}
use Rattle.html_rules.specs.Formatting.{after_marker, clear_active_formatting_to_marker, push_marker}
use Rattle.html_rules.specs.Formatting.{reconstruct_active_formatting_elements, reopen}
use Rattle.html_rules.specs.Names.{Html, Namespace}
use Rattle.html_rules.specs.Places.{append_comment, append_comment_to_doc, append_comment_to_html, append_text, insert_element, put_element}
use Rattle.html_rules.specs.Stack.{item_name, close_item, left_below, left_by_implied, left_from, nothing, pop_until, pop_until_current}
use Rattle.html_rules.specs.Stack.{expect_to_close, check_body_end, generate_implied_end_tags, generate_implied_end_except, without_current}
use Rattle.html_rules.specs.State.{Element, Entry, Marker, Open, State, current_is, is_in, is_named}
use Rattle.html_rules.specs.Table.{Action, Condition}
use Rattle.html_rules.specs.Table as table
use Rattle.html_rules.specs.Tokens.{is_white, name_of, text_of}
use Rattle.html_rules.specs.declared.insertion_mode.InsertionMode.{InsertionMode}
use Rattle.html_rules.specs.declared.rules.Rules.TheVariants.{Html5ever}
use Rattle.html_rules.specs.declared.tag_set.TagSet.{TagSet}
use Rattle.html_rules.specs.declared.tag_set.TagSet.TheVariants as set
use Rattle.html_faithful.specs.Faces.{Face, Looks, bare, face}
use Rattle.html_faithful.specs.Harmless.{Change, EntryPushed, Made, Put, TextHere, Unchanged, and_then, asks_pointers, changes}
use Rattle.html_faithful.specs.Harmless.{closes_if, does, ends_current}
use Rattle.html_faithful.specs.Harmless.{for_start, is_fresh, is_unchanged, is_untouched, opens, provided, puts}
use Rattle.html_faithful.specs.Harmless.{FormForgotten, FormSet, is_opened}
use Rattle.html_faithful.specs.Harmless as put
use Rattle.html_faithful.specs.Spots.{Spot, hollow, opened_at}
use Rattle.html_faithful.specs.Steps.{Adopts, Comes, forest_by, had_duplicates, is_settled, list_by, stack_by}
use Rattle.html_faithful.proofs.Faces.{all-blind, current-seen, names, same, seen}
use Rattle.html_rules.specs.Actions.{remove_form_elem, remove_from_stack_if}
use Rattle.html_rules.specs.Adoption.{adoption_agency, is_number}
use Rattle.html_rules.specs.Conditions.{form_is_current, is_alone, is_nonempty}
use Rattle.html_rules.specs.ForeignContent.{Closed, close_foreign, enter_foreign, foreign_end, foreign_end_from, foreign_start}
use Rattle.html_rules.specs.ForeignContent.{foreign_start_at}
use Rattle.html_rules.specs.ForeignContent.{is_named_any_case}
use Rattle.html_rules.specs.Formatting.{create_formatting_element_for, with_room, without_entry}
use Rattle.html_rules.specs.Places.{create_root, insert_and_pop_element_for, insert_element_for}
use Rattle.html_rules.specs.Renames.{adjust_attributes, adjust_tag_name}
use Rattle.html_rules.specs.Reset.{mode_of, mode_of_context, mode_of_html, mode_of_open, reset_insertion_mode}
use Rattle.html_rules.specs.Stack.{close_item_named, close_p_element, close_p_element_in_button_scope, finds_generic, in_scope}
use Rattle.html_rules.specs.Stack.{pop_but_root}
use Rattle.html_rules.specs.Stack.{process_end_tag_in_body, remove_from_stack, without_current_but_root, without_number}
use Rattle.html_rules.specs.State.{adjusted_by, current_node, current_number}
use Rattle.html_rules.specs.Templates.{insert_template}
use Rattle.html_rules.specs.Tokens.{attributes_of, is_shadow_mode}
use Rattle.html_faithful.specs.Harmless.{CommentHere, EntryLeft, InDocument, InRoot, MarkerLeft, MarkerPushed, implies, opens_foreign}
use Rattle.html_faithful.specs.Spots.{form_of}
use Rattle.html_faithful.proofs.Faces.{alone-blind, in-scope_seen}

-- CHOICES

bind : (o : Option Made) (f : Made → Option Made) (Q P : Made → Type 0) → IfSome o Q
    → ((m : Made) → Q m → IfSome (f m) P) → IfSome (and_then o f) P
bind None f Q P h g = tt
bind (Some m) f Q P h g = g m h

if-so : (b : Bool) (m : Made) (P : Made → Type 0) → (b ≡ true → P m) → IfSome (provided b m) P
if-so true m P h = h refl
if-so false m P h = tt

provided-then : (b : Bool) (m : Made) (f : Made → Option Made) (P : Made → Type 0) → (b ≡ true → IfSome (f m) P)
    → IfSome (and_then (provided b m) f) P
provided-then true m f P h = h refl
provided-then false m f P h = tt

either : (b : Bool) (x y : Option Made) (P : Made → Type 0) → (b ≡ true → IfSome x P) → (b ≡ false → IfSome y P)
    → IfSome (choose b (λ _. x) (λ _. y)) P
either true x y P h g = h refl
either false x y P h g = g refl

not-so : (b : Bool) → not b ≡ true → b ≡ true → ⊥
not-so true h g = true≢false (sym h)
not-so false h g = true≢false (sym g)

asked-so : (a u : Bool) → (a && not u) ≡ false → a ≡ true → u ≡ true
asked-so true true h g = refl
asked-so true false h g = absurd (true≢false h)
asked-so false u h g = absurd (true≢false (sym g))

or-no₂ : (a b : Bool) → (a || b) ≡ false → b ≡ false
or-no₂ true b h = absurd (true≢false h)
or-no₂ false b h = h

or-no₁ : (a b : Bool) → (a || b) ≡ false → a ≡ false
or-no₁ true b h = h
or-no₁ false b h = refl

no-end : (b : Bool) → (b && false) ≡ true → ⊥
no-end true h = true≢false (sym h)
no-end false h = true≢false (sym h)

closed-touched : (a c : Bool) → ((a && false) && c) ≡ true → ⊥
closed-touched true c h = true≢false (sym h)
closed-touched false c h = true≢false (sym h)

-- STACKS

without-bare : (xs : List Open) → map bare (without_current xs) ≡ without_current (map bare xs)
without-bare [] = refl
without-bare (x ∷ xs) = refl

pub below-current : (q : Open → Bool) (xs : List Open) → current_is q xs ≡ true → left_below q xs ≡ without_current xs
below-current q [] h = refl
below-current q (x ∷ xs) h = rw h refl

from-current : (q : Open → Bool) (xs : List Open) → current_is q xs ≡ true → left_from q xs ≡ xs
from-current q [] h = refl
from-current q (x ∷ xs) h = rw h refl

opposite : (a b : Bool) → (a && not b) ≡ false → (not a || b) ≡ true
opposite true true h = refl
opposite true false h = absurd (true≢false h)
opposite false b h = refl

pub implied-none : (implied : TagSet) (except : Open → Bool) (xs : List Open)
    → current_is (λ x. is_in implied x && not (except x)) xs ≡ false
    → left_by_implied implied except xs ≡ xs
implied-none implied except [] h = refl
implied-none implied except (x ∷ xs) h = rw (opposite (is_in implied x) (except x) h) refl

item-bare : (items : TagSet) (xs : List Open) → item_name items (map bare xs) ≡ item_name items xs
item-bare items [] = refl
item-bare items (x ∷ xs) = rw (item-bare items xs) refl

reopen-none : (es : List Entry) (s : State) → s.active_formatting ≡ es → is_settled s.open_elems es ≡ true → reopen es s ≡ s
reopen-none [] s e h = ap (λ es. record s { active_formatting = es }) (sym e)
reopen-none (Marker ∷ es) s e h = ap (λ es. record s { active_formatting = es }) (sym e)
reopen-none (Element n tag ∷ es) s e h = rw h (ap (λ es. record s { active_formatting = es }) (sym e))

is-none : {A : Type 0} (o : Option A) → is_none o ≡ true → o ≡ None
is-none None h = refl
is-none (Some x) h = absurd (true≢false (sym h))

-- WHAT IS MADE

fresh-stack : (before : State) (put : Option Put) (closed : Bool) → (is_none put && not closed) ≡ true
    → stack_by put closed before ≡ before.open_elems
fresh-stack before None false h = refl
fresh-stack before None true h = absurd (true≢false (sym h))
fresh-stack before (Some x) closed h = absurd (true≢false (sym h))

fresh-forest : (t : Token) (before : State) (put : Option Put) (closed : Bool) → (is_none put && not closed) ≡ true
    → forest_by t put before ≡ before.forest
fresh-forest t before None closed h = refl
fresh-forest t before (Some x) closed h = absurd (true≢false (sym h))

not-closed : (put : Option Put) (closed : Bool) → (is_none put && not closed) ≡ true → closed ≡ false
not-closed None false h = refl
not-closed None true h = absurd (true≢false (sym h))
not-closed (Some x) closed h = absurd (true≢false (sym h))

opened-number : (before : State) (put : Option Put) (closed : Bool) → (is_opened put && not closed) ≡ true
    → current_number (stack_by put closed before) ≡ node_count before.forest
opened-number before (Some (put.Element namespace name attributes true)) false h = refl
opened-number before (Some (put.Element namespace name attributes true)) true h = absurd (true≢false (sym h))
opened-number before (Some (put.Element namespace name attributes false)) closed h = absurd (true≢false (sym h))
opened-number before (Some put.TextHere) closed h = absurd (true≢false (sym h))
opened-number before (Some put.CommentHere) closed h = absurd (true≢false (sym h))
opened-number before (Some put.InRoot) closed h = absurd (true≢false (sym h))
opened-number before (Some put.InDocument) closed h = absurd (true≢false (sym h))
opened-number before None closed h = absurd (true≢false (sym h))

not-opened : (put : Option Put) (closed c : Bool) → (is_opened put && not closed) ≡ true → ((is_none put && not closed) && c) ≡ true → ⊥
not-opened None closed c h u = true≢false (sym h)
not-opened (Some x) closed c h u = true≢false (sym u)

not-fresh : (put : Option Put) (closed c : Bool) → closed ≡ true → ((is_none put && not closed) && c) ≡ true → ⊥
not-fresh (Some x) closed c h u = true≢false (sym u)
not-fresh None true c h u = true≢false (sym u)
not-fresh None false c h u = true≢false (sym h)

unchanged-list : (t : Token) (before : State) (c : Change) → is_unchanged c ≡ true → list_by t c before ≡ before.active_formatting
unchanged-list t before put.Unchanged h = refl
unchanged-list t before put.EntryPushed h = absurd (true≢false (sym h))
unchanged-list t before put.MarkerPushed h = absurd (true≢false (sym h))
unchanged-list t before put.EntryLeft h = absurd (true≢false (sym h))
unchanged-list t before put.MarkerLeft h = absurd (true≢false (sym h))

module _ (p : Spot) (before : State) (looks₀ : Looks before p) where
  -- what puts a node looks at the tree, the open elements and foster parenting alone
  abbrev twin : Bool → List Open → Forest → State
  twin foster xs f = record before { forest = f; open_elems = xs; foster_parenting = foster }

  alike : (F : State → Forest) (foster : Bool) (xs : List Open) (f : Forest) → foster ≡ before.foster_parenting
      → xs ≡ before.open_elems → f ≡ before.forest → F (twin foster xs f) ≡ F before
  alike F foster xs f a b c = ap (λ foster. F (twin foster xs f)) a ∙ (ap (λ xs. F (twin before.foster_parenting xs f)) b
      ∙ ap (λ f. F (twin before.foster_parenting before.open_elems f)) c)

  foster-same : (s : State) (q : Spot) → Looks s q → s.foster_parenting ≡ before.foster_parenting
  foster-same s q looks = ap (λ (f : Face). f.foster) looks ∙ sym (ap (λ (f : Face). f.foster) looks₀)

  module _ (t : Token) (s : State) (made : Made) (h : Comes t before s made) where
    stack-same : is_fresh made ≡ true → s.open_elems ≡ before.open_elems
    stack-same e = h.1 ∙ fresh-stack before made.put made.closed e

    forest-same : is_fresh made ≡ true → s.forest ≡ before.forest
    forest-same e = h.2 ∙ fresh-forest t before made.put made.closed e

    list-same : is_unchanged made.change ≡ true → s.active_formatting ≡ before.active_formatting
    list-same e = h.3 ∙ unchanged-list t before made.change e

    -- a state with another forest, in which a node was put that is not opened
    put-there : (node : Put) (F : State → Forest) → stack_by (Some node) false before ≡ before.open_elems
        → F before ≡ forest_by t (Some node) before
        → IfSome (puts node made) (λ m. Comes t before (record s { forest = F (twin s.foster_parenting s.open_elems s.forest) }) m)
    put-there node F plain is =
        if-so (is_fresh made) (record made { put = Some node })
        (λ m. Comes t before (record s { forest = F (twin s.foster_parenting s.open_elems s.forest) }) m)
        (λ e. (
          h.0,
          stack-same e ∙ (sym plain ∙ sym (ap (λ c. stack_by (Some node) c before) (not-closed made.put made.closed e))),
          alike F s.foster_parenting s.open_elems s.forest (foster-same s made.spot h.0) (stack-same e) (forest-same e) ∙ is,
          h.3,
          λ u. absurd (true≢false (sym u)),
          h.5,
          h.6,
          h.7,
          h.8,
        ))

    -- an element that was put and opened
    abbrev with_opened : Namespace → List ℕ → List Attribute → Made
    with_opened namespace name attributes = record made {
      put = Some (put.Element namespace name attributes true);
      spot = record made.spot { path = opened_at made.spot.rules namespace name made.spot.path ∷ made.spot.path };
    }

    opened-after : (namespace : Namespace) (name : List ℕ) (attributes : List Attribute) → is_fresh made ≡ true
        → Comes t before (insert_element namespace name attributes (had_duplicates t) s) (with_opened namespace name attributes)
    unfolding insert_element put_element
    opened-after namespace name attributes e = (
      ap (λ (f : Face). record f { names = record { number = 0; namespace = namespace; name = name; rules = f.rules } ∷ f.names }) h.0,
      ap₂ (λ f xs. record { number = node_count f; namespace = namespace; name = name; rules = s.opts.rules } ∷ xs) (forest-same e) (stack-same e)
          ∙ ap (λ rules. record { number = node_count before.forest; namespace = namespace; name = name; rules = rules } ∷ before.open_elems) h.8
          ∙ sym (ap (λ c. stack_by (Some (put.Element namespace name attributes true)) c before) (not-closed made.put made.closed e)),
      alike (λ r. (put_element namespace name attributes (had_duplicates t) r).forest) s.foster_parenting s.open_elems s.forest
          (foster-same s made.spot h.0) (stack-same e) (forest-same e),
      h.3,
      λ u. absurd (true≢false (sym u)),
      h.5,
      h.6,
      h.7,
      h.8,
    )

    opened : (namespace : Namespace) (name : List ℕ) (attributes : List Attribute)
        → IfSome (opens namespace name attributes made)
        (λ m. Comes t before (insert_element namespace name attributes (had_duplicates t) s) m)
    opened namespace name attributes =
        if-so (is_fresh made) (with_opened namespace name attributes)
        (λ m. Comes t before (insert_element namespace name attributes (had_duplicates t) s) m)
        (λ e. opened-after namespace name attributes e)

    -- the current node that passes is closed
    abbrev popped : State
    popped = record s { open_elems = without_current s.open_elems }

    abbrev with_closed : Made
    with_closed = record made { closed = true; spot = record made.spot { path = without_current made.spot.path } }

    closed-after : is_fresh made ≡ true → Comes t before popped with_closed
    closed-after e = (
      ap (λ ns. record (face s) { names = ns }) (without-bare s.open_elems)
          ∙ (ap (λ (f : Face). record f { names = without_current f.names }) h.0
          ∙ sym (ap (λ ns. record (face (hollow made.spot)) { names = ns }) (without-bare made.spot.path))),
      ap without_current (stack-same e),
      h.2,
      h.3,
      λ u. absurd (closed-touched (is_none made.put) (is_unchanged made.change) u),
      h.5,
      h.6,
      h.7,
      h.8,
    )

    current-there : (q : Open → Bool) → ((x : Open) → q (bare x) ≡ q x)
        → (current_is q made.spot.path && ends_current t made.spot.path) ≡ true
        → current_is q s.open_elems ≡ true
    current-there q blind b =
        current-seen t s made.spot h.0 q blind ∙ (and_parts (current_is q made.spot.path) (ends_current t made.spot.path) b).0

    closed : (q : Open → Bool) → ((x : Open) → q (bare x) ≡ q x) → (left : State)
        → (current_is q s.open_elems ≡ true → is_fresh made ≡ true → left ≡ popped)
        → IfSome (closes_if q t made) (λ m. Comes t before left m)
    closed q blind left is =
        either (current_is q made.spot.path && ends_current t made.spot.path) (provided (is_fresh made) with_closed) None
        (λ m. Comes t before left m)
        (λ b. if-so (is_fresh made) with_closed (λ m. Comes t before left m)
        (λ e. subst (λ r. Comes t before r with_closed) (sym (is (current-there q blind b) e)) (closed-after e)))
        (λ b. tt)

    kept : (r : State) → r ≡ s → Comes t before r made
    kept r e = subst (λ x. Comes t before x made) (sym e) h

    if-kept : (b : Bool) (r : State) → (b ≡ true → r ≡ s) → IfSome (provided b made) (λ m. Comes t before r m)
    if-kept b r is = if-so b made (λ m. Comes t before r m) (λ e. kept r (is e))

  -- FOR TAGS

  start-case : (t : Token) (step : Tag → Made → Option Made) (f : Tag → State → State) (s : State) (made : Made) → Comes t before s made
      → ((tag : Tag) → tag.self_closing ≡ false → Comes (TagToken tag) before s made
      → IfSome (step tag made) (λ m. Comes (TagToken tag) before (f tag s) m))
      → IfSome (for_start step t made) (λ m. Comes t before (for_tag f t s) m)
  start-case (TagToken tag) step f s made h g =
      either (is_end_tag tag.kind || tag.self_closing) None (step tag made) (λ m. Comes (TagToken tag) before (f tag s) m)
      (λ b. tt) (λ b. g tag (or-no₂ (is_end_tag tag.kind) tag.self_closing b) h)
  start-case t step f s made h g = tt

  -- an element that is inserted in place of what a step does
  in-place : (t : Token) (s : State) (made : Made) (h : Comes t before s made) (namespace : Namespace) (name : List ℕ)
      (attributes : List Attribute) (left : State) → left ≡ insert_element namespace name attributes (had_duplicates t) s
      → IfSome (opens namespace name attributes made) (λ m. Comes t before left m)
  in-place t s made h namespace name attributes left e =
      subst (λ r. IfSome (opens namespace name attributes made) (λ m. Comes t before r m)) (sym e)
      (opened t s made h namespace name attributes)

  template-plain : (tag : Tag) (s : State) → list_any is_shadow_mode tag.attrs ≡ false → insert_template tag s ≡ insert_element_for tag s
  unfolding insert_template
  template-plain tag s plain = rw plain refl

  entered : (namespace : Namespace) (tag : Tag) (s : State) → tag.self_closing ≡ false → enter_foreign namespace tag s
      ≡ insert_element namespace tag.name (adjust_attributes namespace tag.attrs) tag.had_duplicate_attributes s
  unfolding enter_foreign
  entered namespace tag s plain = rw plain refl

  head_or : List Open → Open
  head_or [] = record { number = 0; namespace = Html; name = []; rules = Html5ever }
  head_or (x ∷ xs) = x

  foreign-there : (tag : Tag) (s : State) (c : Option Open) (xs ys : List Open) (y : Open) → c ≡ None → map bare xs ≡ map bare (y ∷ ys)
      → tag.self_closing ≡ false → foreign_start_at (adjusted_by c xs) tag s
      ≡ insert_element y.namespace (adjust_tag_name y.namespace tag.name)
      (adjust_attributes y.namespace tag.attrs) tag.had_duplicate_attributes s
  unfolding head_or
  foreign-there tag s c [] ys y none e plain = absurd (cc)
  foreign-there tag s c (x ∷ xs) ys y none e plain =
      let here : x.namespace ≡ y.namespace = ap (λ zs. (head_or zs).namespace) e in
      rw (none, here) (entered y.namespace (record tag { name = adjust_tag_name y.namespace tag.name }) s plain)

  opens-there : (tag : Tag) (s : State) (made : Made) → Comes (TagToken tag) before s made → tag.self_closing ≡ false → (ys : List Open)
      → map bare s.open_elems ≡ map bare ys
      → IfSome (opens_foreign (current_node ys) tag made) (λ m. Comes (TagToken tag) before (foreign_start tag s) m)
  unfolding foreign_start
  opens-there tag s made h plain [] e = tt
  opens-there tag s made h plain (y ∷ ys) e =
      in-place (TagToken tag) s made h y.namespace (adjust_tag_name y.namespace tag.name) (adjust_attributes y.namespace tag.attrs)
      (foreign_start_at (adjusted_by s.context_elem s.open_elems) tag s)
      (foreign-there tag s s.context_elem s.open_elems ys y (ap (λ (f : Face). f.context) h.0) e plain)

  none-open : (xs ys : List Open) → map bare xs ≡ map bare ys → is_nonempty ys ≡ false → xs ≡ []
  none-open [] ys e h = refl
  none-open (x ∷ xs) [] e h = absurd (cc)
  none-open (x ∷ xs) (y ∷ ys) e h = absurd (true≢false h)

  root-made : (attributes : List Attribute) (d : Bool) (s : State) → s.open_elems ≡ []
      → create_root attributes s ≡ insert_element Html (codes "html") attributes d s
  unfolding create_root insert_element
  root-made attributes d s none = rw none refl

  root-case : (t : Token) (s : State) (made : Made) → Comes t before s made
      → IfSome (does table.CreateRoot t made) (λ m. Comes t before (create_root (attributes_of t) s) m)
  root-case (TagToken tag) s made h =
      either (is_end_tag tag.kind || tag.self_closing) None
      (choose (is_nonempty made.spot.path) (λ _. None) (λ _. opens Html (codes "html") tag.attrs made))
      (λ m. Comes (TagToken tag) before (create_root tag.attrs s) m) (λ b. tt)
      (λ b. either (is_nonempty made.spot.path) None (opens Html (codes "html") tag.attrs made)
      (λ m. Comes (TagToken tag) before (create_root tag.attrs s) m) (λ c. tt)
      (λ c. in-place (TagToken tag) s made h Html (codes "html") tag.attrs (create_root tag.attrs s)
      (root-made tag.attrs tag.had_duplicate_attributes s (none-open s.open_elems made.spot.path (ap (λ (f : Face). f.names) h.0) c))))
  root-case t s made h = tt

  formatting-case : (tag : Tag) (s : State) (made : Made) → Comes (TagToken tag) before s made
      → IfSome (and_then (opens Html tag.name tag.attrs made) (λ made. changes EntryPushed made))
      (λ m. Comes (TagToken tag) before (create_formatting_element_for tag s) m)
  unfolding create_formatting_element_for insert_element
  formatting-case tag s made h =
      let t = TagToken tag in
      let m₁ = with_opened t s made h Html tag.name tag.attrs in
      provided-then (is_fresh made) m₁ (λ made. changes EntryPushed made) (λ m. Comes t before (create_formatting_element_for tag s) m)
      (λ e. if-so (is_unchanged made.change) (record m₁ { change = EntryPushed })
      (λ m. Comes t before (create_formatting_element_for tag s) m)
      (λ u. let o = opened-after t s made h Html tag.name tag.attrs e in (
        o.0,
        o.1,
        o.2,
        ap₂ (λ f es. Element (node_count f) tag ∷ with_room tag es) (forest-same t s made h e) (list-same t s made h u),
        λ v. absurd (true≢false (sym v)),
        o.5,
        o.6,
        o.7,
        o.8,
      )))

  -- FOR END TAGS

  expect-closed : (q : Open → Bool) (s : State) → current_is q s.open_elems ≡ true
      → expect_to_close q s ≡ record s { open_elems = without_current s.open_elems }
  unfolding expect_to_close pop_until
  expect-closed q s h = rw h (ap (λ xs. record s { open_elems = xs }) (below-current q s.open_elems h))

  finds-current : (q : Open → Bool) (xs : List Open) → current_is q xs ≡ true → finds_generic q xs ≡ true
  finds-current q [] h = absurd (true≢false (sym h))
  finds-current q (x ∷ xs) h = rw h refl

  or-true : (a : Bool) → (a || true) ≡ true
  or-true true = refl
  or-true false = refl

  excepted : (implied : TagSet) (q : Open → Bool) (xs : List Open) → current_is q xs ≡ true → left_by_implied implied q xs ≡ xs
  excepted implied q [] h = refl
  excepted implied q (x ∷ xs) h = rw (h, or-true (not (is_in implied x))) refl

  except-kept : (q : Open → Bool) (s : State) → current_is q s.open_elems ≡ true → generate_implied_end_except q s ≡ s
  unfolding generate_implied_end_except
  except-kept q s h = ap (λ xs. record s { open_elems = xs }) (excepted set.CursoryImpliedEnd q s.open_elems h)

  other-closed : (name : List ℕ) (s : State) → current_is (is_named name) s.open_elems ≡ true
      → process_end_tag_in_body name s ≡ record s { open_elems = without_current s.open_elems }
  unfolding process_end_tag_in_body
  other-closed name s h =
      rw (finds-current (is_named name) s.open_elems h) (ap (expect_to_close (is_named name)) (except-kept (is_named name) s h)
      ∙ expect-closed (is_named name) s h)

  paragraph-closed : (s : State) → in_scope set.ButtonScope (is_in set.P) s.open_elems ≡ true → current_is (is_in set.P) s.open_elems ≡ true
      → close_p_element_in_button_scope s ≡ record s { open_elems = without_current s.open_elems }
  unfolding close_p_element_in_button_scope close_p_element
  paragraph-closed s b h = rw b (ap (expect_to_close (is_in set.P)) (except-kept (is_in set.P) s h) ∙ expect-closed (is_in set.P) s h)

  paragraph-kept : (s : State) → in_scope set.ButtonScope (is_in set.P) s.open_elems ≡ false → close_p_element_in_button_scope s ≡ s
  unfolding close_p_element_in_button_scope
  paragraph-kept s b = rw b refl

  not-no : (b : Bool) → not b ≡ true → b ≡ false
  not-no true h = absurd (true≢false (sym h))
  not-no false h = refl

  but-root : (xs : List Open) → current_is (λ x. not (is_in set.Html x)) xs ≡ true → without_current_but_root xs ≡ without_current xs
  but-root [] h = refl
  but-root (x ∷ xs) h = rw (not-no (is_in set.Html x) h) refl

  without-first : (n : ℕ) (xs : List Open) → current_is (is_number n) xs ≡ true → without_number n xs ≡ without_current xs
  without-first n [] h = refl
  without-first n (x ∷ xs) h = rw h refl

  form-removed : (o : Option ℕ) (s : State) → form_is_current o s.open_elems ≡ true
      → remove_from_stack_if o s ≡ record s { open_elems = without_current s.open_elems }
  unfolding remove_from_stack
  form-removed None s h = absurd (true≢false (sym h))
  form-removed (Some n) s h = ap (λ xs. record s { open_elems = xs }) (without-first n s.open_elems h)

  foreign-closed : (name : List ℕ) (xs : List Open) → is_alone xs ≡ false → current_is (is_named_any_case name) xs ≡ true
      → foreign_end_from true name xs ≡ Closed (without_current xs)
  foreign-closed name [] a h = absurd (true≢false (sym h))
  foreign-closed name (x ∷ []) a h = absurd (true≢false a)
  foreign-closed name (x ∷ y ∷ ys) a h = rw h refl

  foreign-left : (name : List ℕ) (s : State) → is_alone s.open_elems ≡ false → current_is (is_named_any_case name) s.open_elems ≡ true
      → close_foreign name s ≡ record s { open_elems = without_current s.open_elems }
  unfolding close_foreign foreign_end
  foreign-left name s a h = rw (foreign-closed name s.open_elems a h) refl

  closes-then : (b f : Bool) (after : Made) (k : Made → Option Made) (P : Made → Type 0) → (b ≡ true → f ≡ true → IfSome (k after) P)
      → IfSome (and_then (choose b (λ _. provided f after) (λ _. None)) k) P
  closes-then true true after k P h = h refl refl
  closes-then true false after k P h = tt
  closes-then false f after k P h = tt

  -- THE MODE

  html-mode : (a b : Option ℕ) → is_some a ≡ is_some b → mode_of_html a ≡ mode_of_html b
  html-mode None None h = refl
  html-mode None (Some y) h = absurd (true≢false (sym h))
  html-mode (Some x) None h = absurd (true≢false h)
  html-mode (Some x) (Some y) h = refl

  module _ (s q : State) (modes : s.template_modes ≡ q.template_modes) (heads : is_some s.head_elem ≡ is_some q.head_elem)
      (none : s.context_elem ≡ None) (none₂ : q.context_elem ≡ None) where
    by_context : (c d : Option Open) → c ≡ None → d ≡ None → mode_of_context s c ≡ mode_of_context q d
    by_context c d e f = rw (e, f) (html-mode s.head_elem q.head_elem heads)

    by_element : (x y : Open) → bare x ≡ bare y → (m n : InsertionMode) → m ≡ n → mode_of s x (λ _. m) ≡ mode_of q y (λ _. n)
    by_element x y e m n h =
        let same_in : (set : TagSet) → is_in set x ≡ is_in set y = λ set. ap (is_in set) e in
        rw (
          same_in set.Tr,
          same_in set.TbodyTfootThead,
          same_in set.Caption,
          same_in set.Colgroup,
          same_in set.Table,
          same_in set.Template,
          same_in set.Body,
          same_in set.Frameset,
          same_in set.Html,
          modes,
          html-mode s.head_elem q.head_elem heads,
          h,
        ) refl

    resets : (xs ys : List Open) → map bare xs ≡ map bare ys → mode_of_open s xs ≡ mode_of_open q ys
    unfolding head_or
    resets [] [] e = refl
    resets [] (y ∷ ys) e = absurd (cc)
    resets (x ∷ xs) [] e = absurd (cc)
    resets (x ∷ xs) (y ∷ ys) e =
        let here : bare x ≡ bare y = ap head_or e in
        let same_in : (set : TagSet) → is_in set x ≡ is_in set y = λ set. ap (is_in set) here in
        rw (
          by_element x y here (mode_of_open s xs) (mode_of_open q ys) (resets xs ys (ap without_current e)),
          same_in set.TdTh,
          same_in set.Head,
          same_in set.Html,
          by_context s.context_elem q.context_elem none none₂,
        ) refl

  -- EACH ACTION

  module _ (t : Token) (settled : is_settled before.open_elems before.active_formatting ≡ true) (adopts : Adopts before) where
    abbrev Follows : Action → State → Made → Type 0
    Follows a s made = IfSome (does a t made) (λ after. Comes t before (act a t s) after)

    both-ways : (a : Action) (s : State) (made : Made) → Comes t before s made → Follows a s made → (b : Bool)
        → IfSome (choose b (λ _. does a t made) (λ _. Some made)) (λ after. Comes t before (choose b (λ _. act a t s) (λ _. s)) after)
    both-ways a s made h g true = g
    both-ways a s made h g false = h

    when-follows : (c : Condition) (a : Action) (s : State) (made : Made) → Comes t before s made → Follows a s made
        → Follows (table.When c a) s made
    when-follows c a s made h g =
        let there = holds c t (hollow made.spot) in
        either (asks_pointers c && not (is_untouched made)) None (choose there (λ _. does a t made) (λ _. Some made))
        (λ after. Comes t before (choose (holds c t s) (λ _. act a t s) (λ _. s)) after) (λ b. tt)
        (λ b. subst (λ x. IfSome (choose there (λ _. does a t made) (λ _. Some made))
        (λ after. Comes t before (choose x (λ _. act a t s) (λ _. s)) after))
        (sym (seen t s made.spot h.0 c (λ asks. h.4 (asked-so (asks_pointers c) (is_untouched made) b asks))))
        (both-ways a s made h g there))

    adoption-case : (s : State) (made : Made) → Comes t before s made → Follows table.AdoptionAgency s made
    adoption-case s made h =
        let name = name_of t in
        let P = λ (m : Made). Comes t before (adoption_agency name s) m in
        either (is_untouched made) (and_then (closes_if (is_named name) t made) (λ made. changes EntryLeft made)) None P
        (λ u. closes-then (current_is (is_named name) made.spot.path && ends_current t made.spot.path) (is_fresh made)
        (with_closed t s made h) (λ made. changes EntryLeft made) P
        (λ b e. if-so (is_unchanged made.change) (record (with_closed t s made h) { change = EntryLeft }) P
        (λ v. let o = closed-after t s made h e in
        subst (λ r. Comes t before r (record (with_closed t s made h) { change = EntryLeft }))
        (sym (adopts name s (current-there t s made h (is_named name) (λ x. refl) b) (stack-same t s made h e) (list-same t s made h v))) (
          o.0,
          o.1,
          o.2,
          ap₂ (λ xs es. without_entry (current_number xs) es) (stack-same t s made h e) (list-same t s made h v),
          λ w. absurd (closed-touched (is_none made.put) false w),
          o.5,
          o.6,
          o.7,
          o.8,
        ))))
        (λ u. tt)

    implied-kept : (implied : TagSet) (except : Open → Bool) → ((x : Open) → except (bare x) ≡ except x) → (s : State) (made : Made)
        → Comes t before s made → not (implies implied except made) ≡ true → left_by_implied implied except s.open_elems ≡ s.open_elems
    implied-kept implied except blind s made h e =
        implied-none implied except s.open_elems
        (current-seen t s made.spot h.0 (λ x. is_in implied x && not (except x)) (λ x. ap (λ b. is_in implied x && not b) (blind x))
        ∙ not-no (implies implied except made) e)

    untouched-parts : (made : Made) → is_untouched made ≡ true → (is_fresh made ≡ true) × (is_unchanged made.change ≡ true)
    untouched-parts made u = and_parts (is_fresh made) (is_unchanged made.change) u

    pub follows : (a : Action) (s : State) (made : Made) → Comes t before s made → Follows a s made
    unfolding set_mode save_mode restore_mode push_template_mode pop_template_mode set_template_mode frameset_not_ok
        frameset_not_ok_unless_white set_ignore_lf set_head_elem set_form_elem forget_form_elem remove_form_elem push_marker
        clear_active_formatting_to_marker reconstruct_active_formatting_elements append_comment append_comment_to_doc
        append_comment_to_html append_text put_element pop_until pop_until_current pop_but_root close_item check_body_end
        generate_implied_end_tags generate_implied_end_except reset_insertion_mode
    follows table.Nothing s made h = h
    follows (table.Then a b) s made h =
        bind (does a t made) (λ m. does b t m) (λ m. Comes t before (act a t s) m) (λ m. Comes t before (act b t (act a t s)) m)
        (follows a s made h) (λ m g. follows b (act a t s) m g)
    follows (table.When c a) s made h = when-follows c a s made h (follows a s made h)
    follows table.CreateRoot s made h = root-case t s made h
    follows table.InsertElement s made h =
        start-case t (λ tag made. opens Html tag.name tag.attrs made) insert_element_for s made h
        (λ tag plain g. opened (TagToken tag) s made g Html tag.name tag.attrs)
    follows table.InsertFormatting s made h =
        start-case t (λ tag made. and_then (opens Html tag.name tag.attrs made) (λ made. changes EntryPushed made))
        create_formatting_element_for s made h (λ tag plain g. formatting-case tag s made g)
    follows table.InsertTemplate s made h =
        start-case t (λ tag made. choose (list_any is_shadow_mode tag.attrs) (λ _. None) (λ _. opens Html tag.name tag.attrs made))
        insert_template s made h
        (λ tag plain g. either (list_any is_shadow_mode tag.attrs) None (opens Html tag.name tag.attrs made)
        (λ m. Comes (TagToken tag) before (insert_template tag s) m) (λ b. tt)
        (λ b. in-place (TagToken tag) s made g Html tag.name tag.attrs (insert_template tag s) (template-plain tag s b)))
    follows table.InsertVoid s made h =
        start-case t (λ tag made. puts (put.Element Html tag.name tag.attrs false) made) insert_and_pop_element_for s made h
        (λ tag plain g. put-there (TagToken tag) s made g (put.Element Html tag.name tag.attrs false)
        (λ r. (put_element Html tag.name tag.attrs tag.had_duplicate_attributes r).forest) refl refl)
    follows (table.EnterForeign namespace) s made h =
        start-case t (λ tag made. opens namespace tag.name (adjust_attributes namespace tag.attrs) made) (enter_foreign namespace) s made h
        (λ tag plain g. in-place (TagToken tag) s made g namespace tag.name (adjust_attributes namespace tag.attrs)
        (enter_foreign namespace tag s) (entered namespace tag s plain))
    follows table.InsertForeign s made h =
        start-case t (λ tag made. opens_foreign (current_node made.spot.path) tag made) foreign_start s made h
        (λ tag plain g. opens-there tag s made g plain made.spot.path (ap (λ (f : Face). f.names) h.0))
    follows table.AppendText s made h = put-there t s made h TextHere (λ r. (append_text (text_of t) r).forest) refl refl
    follows table.AppendComment s made h = put-there t s made h CommentHere (λ r. (append_comment (text_of t) r).forest) refl refl
    follows table.AppendCommentToRoot s made h =
        put-there t s made h InRoot (λ r. (append_comment_to_html (text_of t) r).forest) refl refl
    follows table.AppendCommentToDocument s made h =
        put-there t s made h InDocument (λ r. (append_comment_to_doc (text_of t) r).forest) refl refl
    follows table.CloseP s made h =
        either (in_scope set.ButtonScope (is_in set.P) made.spot.path) (closes_if (is_in set.P) t made) (Some made)
        (λ m. Comes t before (close_p_element_in_button_scope s) m)
        (λ b. closed t s made h (is_in set.P) (λ x. refl) (close_p_element_in_button_scope s)
        (λ c e. paragraph-closed s (in-scope_seen t s made.spot h.0 set.ButtonScope set.P ∙ b) c))
        (λ b. kept t s made h (close_p_element_in_button_scope s)
        (paragraph-kept s (in-scope_seen t s made.spot h.0 set.ButtonScope set.P ∙ b)))
    follows (table.PopUntil names) s made h =
        closed t s made h (is_in names) (λ x. refl) (pop_until (is_in names) s)
        (λ c e. ap (λ xs. record s { open_elems = xs }) (below-current (is_in names) s.open_elems c))
    follows (table.Close names) s made h =
        closed t s made h (is_in names) (λ x. refl) (expect_to_close (is_in names) s) (λ c e. expect-closed (is_in names) s c)
    follows table.CloseToken s made h =
        closed t s made h (is_named (name_of t)) (λ x. refl) (expect_to_close (is_named (name_of t)) s)
        (λ c e. expect-closed (is_named (name_of t)) s c)
    follows table.AnyOtherEndTag s made h =
        closed t s made h (is_named (name_of t)) (λ x. refl) (process_end_tag_in_body (name_of t) s) (λ c e. other-closed (name_of t) s c)
    follows table.AdoptionAgency s made h = adoption-case s made h
    follows table.Pop s made h =
        closed t s made h (λ x. not (is_in set.Html x)) (λ x. refl) (pop_but_root s)
        (λ c e. ap (λ xs. record s { open_elems = xs }) (but-root s.open_elems c))
    follows table.RemoveFormElem s made h =
        either (is_untouched made && form_is_current (form_of made.spot.path) made.spot.path) (closes_if (is_in set.Form) t made) None
        (λ m. Comes t before (remove_form_elem s) m)
        (λ b. let parts = and_parts (is_untouched made) (form_is_current (form_of made.spot.path) made.spot.path) b in
        closed t s made h (is_in set.Form) (λ x. refl) (remove_form_elem s)
        (λ c e. form-removed s.form_elem s ((h.4 parts.0).2 ∙ parts.1)))
        (λ b. tt)
    follows table.CloseForeign s made h =
        either (is_alone made.spot.path) None (closes_if (is_named_any_case (name_of t)) t made)
        (λ m. Comes t before (close_foreign (name_of t) s) m) (λ b. tt)
        (λ b. closed t s made h (is_named_any_case (name_of t)) (λ x. refl) (close_foreign (name_of t) s)
        (λ c e. foreign-left (name_of t) s (same is_alone alone-blind s.open_elems made.spot.path (names t s made.spot h.0) ∙ b) c))
    follows (table.CloseItem items) s made h =
        if-kept t s made h (is_none (item_name items made.spot.path)) (close_item items s)
        (λ e. ap (λ o. close_item_named o s) (same (item_name items) (item-bare items) s.open_elems made.spot.path
        (names t s made.spot h.0) ∙ is-none (item_name items made.spot.path) e))
    follows (table.ClearBackTo names) s made h =
        if-kept t s made h (current_is (is_in names) made.spot.path) (pop_until_current (is_in names) s)
        (λ e. ap (λ xs. record s { open_elems = xs }) (from-current (is_in names) s.open_elems
        (current-seen t s made.spot h.0 (is_in names) (λ x. refl) ∙ e)))
    follows table.ImpliedEndTags s made h =
        if-kept t s made h (not (implies set.CursoryImpliedEnd nothing made)) (generate_implied_end_tags set.CursoryImpliedEnd s)
        (λ e. ap (λ xs. record s { open_elems = xs }) (implied-kept set.CursoryImpliedEnd nothing (λ x. refl) s made h e))
    follows (table.ImpliedEndTagsExcept names) s made h =
        if-kept t s made h (not (implies set.CursoryImpliedEnd (is_in names) made)) (generate_implied_end_except (is_in names) s)
        (λ e. ap (λ xs. record s { open_elems = xs }) (implied-kept set.CursoryImpliedEnd (is_in names) (λ x. refl) s made h e))
    follows table.ImpliedEndTagsExceptToken s made h =
        if-kept t s made h (not (implies set.CursoryImpliedEnd (is_named (name_of t)) made))
        (generate_implied_end_except (is_named (name_of t)) s)
        (λ e. ap (λ xs. record s { open_elems = xs }) (implied-kept set.CursoryImpliedEnd (is_named (name_of t)) (λ x. refl) s made h e))
    follows table.ImpliedEndTagsThoroughly s made h =
        if-kept t s made h (not (implies set.ThoroughImpliedEnd nothing made)) (generate_implied_end_tags set.ThoroughImpliedEnd s)
        (λ e. ap (λ xs. record s { open_elems = xs }) (implied-kept set.ThoroughImpliedEnd nothing (λ x. refl) s made h e))
    follows table.CheckBodyEnd s made h =
        if-kept t s made h (list_all (is_in set.BodyEnd) made.spot.path) (check_body_end s)
        (λ e. rw (same (list_all (is_in set.BodyEnd)) (all-blind (is_in set.BodyEnd) (λ x. refl)) s.open_elems made.spot.path
        (names t s made.spot h.0) ∙ e) refl)
    follows table.Reconstruct s made h =
        if-kept t s made h (is_untouched made) (reopen s.active_formatting s)
        (λ u. let parts = untouched-parts made u in
        reopen-none s.active_formatting s refl
        (ap₂ is_settled (stack-same t s made h parts.0) (list-same t s made h parts.1) ∙ settled))
    follows table.InsertMarker s made h =
        if-so (is_unchanged made.change) (record made { change = MarkerPushed }) (λ m. Comes t before (push_marker s) m)
        (λ e. (h.0, h.1, h.2, ap (λ es. Marker ∷ es) (list-same t s made h e), λ u. absurd (no-end (is_fresh made) u), h.5, h.6, h.7, h.8))
    follows table.ClearToMarker s made h =
        if-so (is_unchanged made.change) (record made { change = MarkerLeft }) (λ m. Comes t before (clear_active_formatting_to_marker s) m)
        (λ e. (h.0, h.1, h.2, ap after_marker (list-same t s made h e), λ u. absurd (no-end (is_fresh made) u), h.5, h.6, h.7, h.8))
    follows table.SetFormElem s made h =
        if-so (is_opened made.put && not made.closed) (record made { form = FormSet }) (λ m. Comes t before (set_form_elem s) m)
        (λ e. (
          h.0,
          h.1,
          h.2,
          h.3,
          λ u. absurd (not-opened made.put made.closed (is_unchanged made.change) e u),
          ap (λ n. Some n) (ap current_number h.1 ∙ opened-number before made.put made.closed e),
          h.6,
          h.7,
          h.8,
        ))
    follows table.ForgetFormElem s made h =
        if-so made.closed (record made { form = FormForgotten }) (λ m. Comes t before (forget_form_elem s) m)
        (λ e. (h.0, h.1, h.2, h.3, λ u. absurd (not-fresh made.put made.closed (is_unchanged made.change) e u), refl, h.6, h.7, h.8))
    follows table.FramesetNotOk s made h = (ap (λ (f : Face). record f { frameset_ok = false }) h.0, h.1, h.2, h.3, h.4, h.5, h.6, h.7, h.8)
    follows table.FramesetNotOkUnlessWhite s made h =
        (ap (λ (f : Face). record f { frameset_ok = f.frameset_ok && is_white (text_of t) }) h.0, h.1, h.2, h.3, h.4, h.5, h.6, h.7, h.8)
    follows (table.SwitchTo mode) s made h = (ap (λ (f : Face). record f { mode = mode }) h.0, h.1, h.2, h.3, h.4, h.5, h.6, h.7, h.8)
    follows table.SaveMode s made h = (ap (λ (f : Face). record f { orig_mode = Some f.mode }) h.0, h.1, h.2, h.3, h.4, h.5, h.6, h.7, h.8)
    follows table.RestoreMode s made h =
        (ap (λ (f : Face). record f { mode = or_mode f.orig_mode f.mode; orig_mode = None }) h.0, h.1, h.2, h.3, h.4, h.5, h.6, h.7, h.8)
    follows table.ResetMode s made h = (
      ap₂ (λ m (f : Face). record f { mode = m })
          (resets s (hollow made.spot) (ap (λ (f : Face). f.template_modes) h.0) (ap (λ (f : Face). f.has_head) h.0)
          (ap (λ (f : Face). f.context) h.0) refl s.open_elems made.spot.path (names t s made.spot h.0)) h.0,
      h.1,
      h.2,
      h.3,
      h.4,
      h.5,
      h.6,
      h.7,
      h.8,
    )
    follows (table.PushTemplateMode mode) s made h =
        (ap (λ (f : Face). record f { template_modes = mode ∷ f.template_modes }) h.0, h.1, h.2, h.3, h.4, h.5, h.6, h.7, h.8)
    follows (table.SetTemplateMode mode) s made h =
        (ap (λ (f : Face). record f { template_modes = mode ∷ without_first f.template_modes }) h.0, h.1, h.2, h.3, h.4, h.5, h.6, h.7, h.8)
    follows table.PopTemplateMode s made h =
        (ap (λ (f : Face). record f { template_modes = without_first f.template_modes }) h.0, h.1, h.2, h.3, h.4, h.5, h.6, h.7, h.8)
    follows table.SetHeadElem s made h = (ap (λ (f : Face). record f { has_head = true }) h.0, h.1, h.2, h.3, h.4, h.5, h.6, h.7, h.8)
    follows table.IgnoreLineFeed s made h = (h.0, h.1, h.2, h.3, h.4, h.5, λ e. refl, h.7, h.8)
    follows a s made h = tt
