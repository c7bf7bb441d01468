-- Rows that close templates, that reset the mode, and those of the modes before the body and of text.
use Rattle.std.proofs.Common.{◌≡◌, ◌∙◌, ℕ, Bool, true, false, List, [], ◌∷◌, Option, Some, None, refl, sym, ap, true≢false, arith}
use Rattle.std.specs.Prelude.{◌||◌, ◌&&◌, not, is_some}
use Rattle.std.proofs.lemmas.Bool.{and_parts}
use Rattle.markup.specs.Forest.{node_count}
use Rattle.markup.specs.declared.attributes.Attribute.{Attribute}
use Rattle.html_tokens.specs.declared.tags.Tag.{Tag}
use Rattle.html_tokens.specs.declared.token.Token.{Token}
use Rattle.html_tokens.specs.declared.token.Token.TheVariants.{TagToken}
use Rattle.html_rules.specs.Actions.{act, restore_mode, or_mode, pop_template_mode, set_head_elem, set_mode}
use Rattle.html_rules.specs.Actions.{insert_pending_text, without_first}
use Rattle.html_rules.specs.Choice.{choose}
use Rattle.html_rules.specs.Conditions.{holds, is_nonempty}
use Rattle.html_rules.specs.ForeignContent.{is_html_element, is_start_tag}
use Rattle.html_rules.specs.Formatting.{clear_active_formatting_to_marker}
use Rattle.html_rules.specs.Names.{Html}
use Rattle.html_rules.specs.Places.{create_root, insert_element, insert_element_for}
use Rattle.html_rules.specs.Reset.{reset_insertion_mode}
use Rattle.html_rules.specs.Rules.{Turn, concluded}
use Rattle.html_rules.specs.Sets.{is_among, mathml_names_of, names_of, svg_names_of}
use Rattle.html_rules.specs.Shape.{is_at_root}
use Rattle.html_rules.specs.Stack.{expect_to_close, generate_implied_end_tags, has_open, left_below, left_from, parse_error}
use Rattle.html_rules.specs.Stack.{pop_but_root, pop_until, without_current_but_root}
use Rattle.html_rules.specs.State.{Open, State, current_is, is_in}
use Rattle.html_rules.specs.Table.{Condition, TemplateOpen, Action, Then, ParseError, InsertElement, InsertNew, CreateRoot}
use Rattle.html_rules.specs.Table.{CreateNewRoot, Pop, PopUntil, Close, ImpliedEndTagsThoroughly, SetHeadElem, ClearToMarker}
use Rattle.html_rules.specs.Table.{SwitchTo, RestoreMode, ResetMode, PopTemplateMode, InsertPendingText, Conclusion, Done}
use Rattle.html_rules.specs.Table.{Reprocess, ReprocessInOriginal, RunScript}
use Rattle.html_rules.specs.Tokens.{attributes_of}
use Rattle.html_rules.specs.declared.insertion_mode.InsertionMode.{InsertionMode}
use Rattle.html_rules.specs.declared.insertion_mode.InsertionMode.TheVariants as mode
use Rattle.html_rules.specs.declared.rules.Rules.{Rules}
use Rattle.html_rules.specs.declared.tag_set.TagSet.TheVariants as set
use Rattle.html_rules_laws.specs.Held.{Held}
use Rattle.html_rules_laws.specs.Placing.{are_general, is_in_head, may_stand_over, stand_well}
use Rattle.html_rules_laws.specs.Sound.{are_placed, are_placed_in, are_placed_under, asks_root, comes_from_table, has_its_head}
use Rattle.html_rules_laws.specs.Sound.{is_later, is_later_original, is_over_head_element, is_own, is_table_mode}
use Rattle.html_rules_laws.proofs.Frames.Aside.{aside_kept}
use Rattle.html_rules_laws.proofs.Frames.Firm.{IsOrdinary, firm-part, over-plain, part-html}
use Rattle.html_rules_laws.proofs.SetFacts.{all_among, among-all, in-apart}
use Rattle.html_rules_laws.proofs.Termination.Kinds.{Kind, Starts, is_of}
use Rattle.html_rules_laws.proofs.Soundness.Acts.{act-aside, act-tame, plain-of, tame_in}
use Rattle.html_rules_laws.proofs.Soundness.Moves.{closed-held, from-well, free-placed, free-later, held-some, implied-count}
use Rattle.html_rules_laws.proofs.Soundness.Moves.{is_loose, kept_by_implied, loose-tame, reset-held}
use Rattle.html_rules_laws.proofs.Soundness.Rows.{IsCalm, StandsWell, closes, starts_plain, tame-calm}
use Rattle.html_rules_laws.proofs.TreePreserved.Standing.{part-but_root, part-from}
use Rattle.html_rules_laws.proofs.Frames.Tame.{behind-listed, expect_to_close-tame}
use Rattle.html_rules_laws.proofs.Bools.{both, no, not_true, or_true}
use Rattle.html_rules_laws.proofs.Frames.KeptBySteps.{expect_to_close-keeps}

-- templates are closed

pub close-elements : (p : Open → Bool) (s : State) → (expect_to_close p s).open_elems ≡ left_below p s.open_elems
unfolding expect_to_close pop_until parse_error
close-elements p s = by (current_is p s.open_elems) where
  by : (b : Bool) → (choose b (λ _. pop_until p s) (λ _. pop_until p (parse_error s))).open_elems ≡ left_below p s.open_elems
  by true = refl
  by false = refl

thorough-closed : (s : State) → is_later s.mode ≡ true → StandsWell s → Held s → has_open set.Template s.open_elems ≡ true
    → Held (reset_insertion_mode
    (pop_template_mode (clear_active_formatting_to_marker
    (expect_to_close (is_in set.Template) (generate_implied_end_tags set.ThoroughImpliedEnd s)))))
unfolding generate_implied_end_tags clear_active_formatting_to_marker pop_template_mode
thorough-closed s later well h there =
    let one : State = generate_implied_end_tags set.ThoroughImpliedEnd s in
    let two : State = expect_to_close (is_in set.Template) one in
    let aside = expect_to_close-keeps aside_kept (is_in set.Template) one in
    let listed = (expect_to_close-tame (is_in set.Template) one h.listed).listed in
    let zs : List Open = left_from kept_by_implied s.open_elems in
    let count = implied-count s.open_elems in
    closed-held s (pop_template_mode (clear_active_formatting_to_marker two)) zs later h
    (λ e root. from-well kept_by_implied s.open_elems (well e root)) count.0 (count.1 there)
    (part-html s.open_elems zs (part-from kept_by_implied s.open_elems))
    (close-elements (is_in set.Template) one) (ap (λ modes. without_first modes) aside.modes) aside.head
    aside.context (behind-listed two.active_formatting listed) (rw aside.original h.original)

erred-closed : (s : State) → is_later s.mode ≡ true → StandsWell s → Held s → has_open set.Template s.open_elems ≡ true
    → Held (reset_insertion_mode (pop_template_mode (clear_active_formatting_to_marker (pop_until (is_in set.Template) (parse_error s)))))
unfolding parse_error pop_until clear_active_formatting_to_marker pop_template_mode
erred-closed s later well h there =
    closed-held s (pop_template_mode
    (clear_active_formatting_to_marker (pop_until (is_in set.Template) (parse_error s)))) s.open_elems later h
    well refl there (λ k. k) refl refl refl refl (behind-listed s.active_formatting h.listed) h.original

pub closes-held : (condition : Condition) (a : Action) → closes condition a ≡ true → (t : Token) (s : State)
    → holds condition t s ≡ true → is_later s.mode ≡ true → StandsWell s → Held s → Held (act a t s)
closes-held TemplateOpen (Then ImpliedEndTagsThoroughly
    (Then (Close set.Template) (Then ClearToMarker (Then PopTemplateMode ResetMode)))) c t s o later well h =
    thorough-closed s later well h o
closes-held TemplateOpen (Then ParseError
    (Then (PopUntil set.Template) (Then ClearToMarker (Then PopTemplateMode ResetMode)))) c t s o later well h =
    erred-closed s later well h o
closes-held condition a c t s o later well h = no c

-- the mode is reset after tame steps

abbrev pub resets : Kind → Action → Bool
resets kind (Then a b) = tame_in kind a && resets kind b
resets kind ResetMode = true
resets kind a = false

pub calm-well : (s : State) → IsCalm s → StandsWell s
calm-well s is e root = (and_parts (not (is_in_head s.open_elems)) _
    (sym (free-placed s.mode is.free s.orig_mode s.open_elems) ∙ is.held.placed e root)).1

pub resets-held : (kind : Kind) (a : Action) → resets kind a ≡ true → (t : Token) → is_of kind t ≡ true
    → (s : State) → IsCalm s → Held (act a t s)
resets-held kind (Then a b) h t f s is = let parts = and_parts (tame_in kind a) (resets kind b) h in
    resets-held kind b parts.1 t f (act a t s) (tame-calm kind a parts.0 t f s is)
resets-held kind ResetMode h t f s is =
    reset-held s is.held.listed is.held.original is.held.modes (held-some s (free-later s.mode is.free) is.held)
    is.held.most (λ e root. calm-well s is e (λ later. root))
resets-held kind a h t f s is = no h

-- the root

empty-well : (xs : List Open) → not (is_nonempty xs) ≡ true → stand_well xs ≡ true
empty-well [] h = refl
empty-well (x ∷ xs) h = no h

rooted-held : (attributes : List Attribute) (s : State) → s.mode ≡ mode.BeforeHtml → Held s
    → Held (set_mode mode.BeforeHead (create_root attributes s))
unfolding create_root set_mode names_of
rooted-held attributes s e h =
    let head : asks_root s.context_elem ≡ true = rw e at h.head in
    record {
      listed = h.listed;
      modes = h.modes;
      head = head;
      original = h.original;
      most = h.most;
      placed = λ f root. let empty : not (is_nonempty s.open_elems) ≡ true =
          rw e at (h.placed f (λ later. absurd (true≢false (sym later ∙ ap is_later e)))) in both _ _ empty (empty-well s.open_elems empty);
    }

abbrev pub before_html_ok : Action → Conclusion → Bool
before_html_ok (Then CreateRoot (SwitchTo mode.BeforeHead)) Done = true
before_html_ok CreateNewRoot (Reprocess mode.BeforeHead) = true
before_html_ok a e = false

pub before_html-held : (using : InsertionMode → Token → State → Turn) (a : Action) (e : Conclusion)
    → before_html_ok a e ≡ true → (t : Token) (script : ℕ) (s : State) → s.mode ≡ mode.BeforeHtml → Held s
    → Held (concluded using e t script (act a t s)).state
before_html-held using (Then CreateRoot (SwitchTo mode.BeforeHead)) Done h t script s at is = rooted-held (attributes_of t) s at is
before_html-held using CreateNewRoot (Reprocess mode.BeforeHead) h t script s at is = rooted-held [] s at is
before_html-held using a e h t script s at is = no h

-- the head

head-plain : (x : Open) → is_in set.Head x ≡ true → is_in set.Template x ≡ false
unfolding names_of mathml_names_of svg_names_of
head-plain x h = in-apart set.Head set.Template refl x h

head-root : (x : Open) → is_in set.Head x ≡ true → is_in set.Html x ≡ false
unfolding names_of mathml_names_of svg_names_of
head-root x h = in-apart set.Head set.Html refl x h

root-html : (xs : List Open) → is_at_root xs ≡ true → has_open set.Html xs ≡ true
root-html [] h = no h
root-html (x ∷ xs) h = rw h refl

headed-held : (name : List ℕ) (attributes : List Attribute) (dup : Bool) → is_among name (names_of set.Head) ≡ true
    → (s : State) → s.mode ≡ mode.BeforeHead → Held s
    → Held (set_mode mode.InHead (set_head_elem (insert_element Html name attributes dup s)))
unfolding set_mode set_head_elem insert_element
headed-held name attributes dup n s e h =
    let x : Open = record { number = node_count s.forest; namespace = Html; name = name; rules = s.opts.rules } in
    let head : is_in set.Head x ≡ true = n in
    let template = head-plain x head in
    let root' = head-root x head in
    record {
      listed = h.listed;
      modes = h.modes;
      head = refl;
      original = h.original;
      most = rw template h.most;
      placed = λ f root.
          let was : (is_at_root s.open_elems && stand_well s.open_elems) ≡ true =
          rw e at (h.placed (rw template at f) (λ later. absurd (true≢false (sym later ∙ ap is_later e)))) in
          let parts = and_parts (is_at_root s.open_elems) (stand_well s.open_elems) was in
          both _ _ (both _ _ head (root-html s.open_elems parts.0))
          (both _ _ (rw (root', head, parts.0) (or_true (not (has_open set.Html s.open_elems)))) parts.1);
    }

abbrev pub starts_head : Kind → Bool
starts_head (Starts names) = all_among names (names_of set.Head)
starts_head kind = false

abbrev pub before_head_ok : Kind → Action → Conclusion → Bool
before_head_ok kind (Then InsertElement (Then SetHeadElem (SwitchTo mode.InHead))) Done = starts_head kind
before_head_ok kind (Then (InsertNew name) SetHeadElem) (Reprocess mode.InHead) = is_among name (names_of set.Head)
before_head_ok kind a e = false

inserted-head : (kind : Kind) → starts_head kind ≡ true → (t : Token) → is_of kind t ≡ true → (s : State)
    → s.mode ≡ mode.BeforeHead → Held s → Held (act (Then InsertElement (Then SetHeadElem (SwitchTo mode.InHead))) t s)
inserted-head (Starts names) h (TagToken tag) f s at is =
    headed-held tag.name tag.attrs tag.had_duplicate_attributes
    (among-all tag.name names (names_of set.Head) h (and_parts (is_start_tag tag.kind) _ f).1) s at is
inserted-head (Starts names) h t f s at is = no f
inserted-head kind h t f s at is = no h

pub before_head-held : (using : InsertionMode → Token → State → Turn) (kind : Kind) (a : Action) (e : Conclusion)
    → before_head_ok kind a e ≡ true → (t : Token) → is_of kind t ≡ true → (script : ℕ) (s : State) → s.mode ≡ mode.BeforeHead → Held s
    → Held (concluded using e t script (act a t s)).state
before_head-held using kind (Then InsertElement (Then SetHeadElem (SwitchTo mode.InHead))) Done h t f script s at
    is = inserted-head kind h t f s at is
before_head-held using kind (Then (InsertNew name) SetHeadElem) (Reprocess mode.InHead) h t f script s at is =
    headed-held name [] false h s at is
before_head-held using kind a e h t f script s at is = no h

-- in the head

some-later : (m : InsertionMode) (s : State) → is_later m ≡ true
    → (is_some s.head_elem || not (asks_root s.context_elem)) ≡ true → has_its_head m s.head_elem s.context_elem ≡ true
some-later m s l h = rw l h

later-at : (s : State) (m : InsertionMode) → s.mode ≡ m → is_later m ≡ true → is_later s.mode ≡ true
later-at s m e l = ap is_later e ∙ l

noscript-held : (tag : Tag) → ((n : ℕ) (rules : Rules) → IsOrdinary (record { number = n; namespace = Html; name = tag.name; rules = rules }))
    → (s : State) → s.mode ≡ mode.InHead → Held s → Held (set_mode mode.InHeadNoscript (insert_element_for tag s))
unfolding set_mode insert_element
noscript-held tag plain s e h =
    let is = plain (node_count s.forest) s.opts.rules in
    record {
      listed = h.listed;
      modes = h.modes;
      head = some-later mode.InHeadNoscript s refl (held-some s (later-at s mode.InHead e refl) h);
      original = h.original;
      most = rw is.template h.most;
      placed = λ f root. both _ _ (rw (is.root, is.template) refl)
          (rw e at (h.placed (rw is.template at f) (λ later. rw is.root at (root refl))));
    }

-- what is under a head on top
head-general : (xs : List Open) → is_in_head xs ≡ true → stand_well xs ≡ true → are_general (without_current_but_root xs) ≡ true
head-general [] g w = no g
head-general (x ∷ xs) g w =
    let head = (and_parts (is_in set.Head x) (has_open set.Html xs) g).0 in
    let parts = and_parts (may_stand_over x xs) (stand_well xs) w in
    rw (head-root x head) (both _ _ (ap not (over-plain x xs parts.0 (head-plain x head))) parts.1)

-- the current node leaves for another later mode
popped-held : (m : InsertionMode) (s : State) → is_later s.mode ≡ true → is_later m ≡ true → Held s
    → (are_placed_in s.mode s.orig_mode s.open_elems ≡ true → are_placed_in m s.orig_mode
    (without_current_but_root s.open_elems) ≡ true) → Held (set_mode m (pop_but_root s))
unfolding set_mode pop_but_root
popped-held m s later l h placed =
    let firm = firm-part s.open_elems (without_current_but_root s.open_elems) (part-but_root s.open_elems) in
    let fewer = firm.fewer in
    let most = h.most in
    record {
      listed = h.listed;
      modes = h.modes;
      head = some-later m s l (held-some s later h);
      original = h.original;
      most = omega arith;
      placed = λ e root. placed (h.placed (omega arith) (λ _. firm.html (root l)));
    }

abbrev pub in_head_ok : Kind → Action → Conclusion → Bool
in_head_ok kind (Then InsertElement (SwitchTo mode.InHeadNoscript)) Done = starts_plain kind
in_head_ok kind (Then Pop (SwitchTo mode.AfterHead)) Done = true
in_head_ok kind Pop (Reprocess mode.AfterHead) = true
in_head_ok kind a e = false

left-head : (s : State) → s.mode ≡ mode.InHead → Held s → Held (set_mode mode.AfterHead (pop_but_root s))
left-head s e is =
    popped-held mode.AfterHead s (later-at s mode.InHead e refl) refl is (λ p.
    let was : (is_in_head s.open_elems && stand_well s.open_elems) ≡ true = rw e at p in
    let parts = and_parts (is_in_head s.open_elems) (stand_well s.open_elems) was in
    head-general s.open_elems parts.0 parts.1)

inserted-noscript : (kind : Kind) → starts_plain kind ≡ true → (t : Token) → is_of kind t ≡ true → (s : State)
    → s.mode ≡ mode.InHead → Held s → Held (act (Then InsertElement (SwitchTo mode.InHeadNoscript)) t s)
inserted-noscript (Starts names) h (TagToken tag) f s at is = noscript-held tag (plain-of (Starts names) tag h f) s at is
inserted-noscript (Starts names) h t f s at is = no f
inserted-noscript kind h t f s at is = no h

pub in_head-held : (using : InsertionMode → Token → State → Turn) (kind : Kind) (a : Action) (e : Conclusion)
    → in_head_ok kind a e ≡ true → (t : Token) → is_of kind t ≡ true → (script : ℕ) (s : State) → s.mode ≡ mode.InHead → Held s
    → Held (concluded using e t script (act a t s)).state
in_head-held using kind (Then InsertElement (SwitchTo mode.InHeadNoscript)) Done h t f script s at is = inserted-noscript kind h t f s at is
in_head-held using kind (Then Pop (SwitchTo mode.AfterHead)) Done h t f script s at is = left-head s at is
in_head-held using kind Pop (Reprocess mode.AfterHead) h t f script s at is = left-head s at is
in_head-held using kind a e h t f script s at is = no h

abbrev pub noscript_ok : Action → Conclusion → Bool
noscript_ok (Then Pop (SwitchTo mode.InHead)) Done = true
noscript_ok (Then ParseError Pop) (Reprocess mode.InHead) = true
noscript_ok a e = false

own-root : (x : Open) → is_own x ≡ true → is_in set.Html x ≡ false
own-root x h = not_true _ (and_parts (not (is_in set.Html x)) _ (and_parts (is_html_element x) _ h).1).0

under-own : (xs : List Open) → is_over_head_element xs ≡ true
    → (is_in_head (without_current_but_root xs) && stand_well (without_current_but_root xs)) ≡ true
under-own [] h = no h
under-own (x ∷ xs) h = let parts = and_parts (is_own x) _ h in rw (own-root x parts.0) parts.1

left-noscript : (s : State) → s.mode ≡ mode.InHeadNoscript → Held s → Held (set_mode mode.InHead (pop_but_root s))
left-noscript s e is = popped-held mode.InHead s (later-at s mode.InHeadNoscript e refl) refl is (λ p. under-own s.open_elems (rw e at p))

erred-held : (s : State) → Held s → Held (parse_error s)
unfolding parse_error
erred-held s h = record { listed = h.listed; modes = h.modes; head = h.head; original = h.original; most = h.most; placed = h.placed }

error-mode : (s : State) → (parse_error s).mode ≡ s.mode
unfolding parse_error
error-mode s = refl

pub noscript-ends : (using : InsertionMode → Token → State → Turn) (a : Action) (e : Conclusion)
    → noscript_ok a e ≡ true → (t : Token) (script : ℕ) (s : State) → s.mode ≡ mode.InHeadNoscript → Held s
    → Held (concluded using e t script (act a t s)).state
noscript-ends using (Then Pop (SwitchTo mode.InHead)) Done h t script s at is = left-noscript s at is
noscript-ends using (Then ParseError Pop) (Reprocess mode.InHead) h t script s at is = left-noscript (parse_error s)
    (error-mode s ∙ at) (erred-held s is)
noscript-ends using a e h t script s at is = no h

-- text of an element is over

or-later : (o : Option InsertionMode) (m : InsertionMode) → is_later_original o ≡ true → is_later m ≡ true → is_later (or_mode o m) ≡ true
or-later None m h l = l
or-later (Some original) m h l = h

mode-in : (m : InsertionMode) (o : Option InsertionMode) (xs : List Open) → are_placed m xs ≡ true → are_placed_in m o xs ≡ true
mode-in mode.Text o xs h = no h
mode-in mode.InTableText o xs h = no h
mode-in m o xs h = h

under-placed : (o : Option InsertionMode) (xs : List Open) → are_placed_under o xs ≡ true
    → are_placed_in (or_mode o mode.Text) None (without_current_but_root xs) ≡ true
under-placed None xs h = no h
under-placed (Some m) [] h = no h
under-placed (Some m) (x ∷ xs) h =
    let parts = and_parts (is_own x) _ h in
    rw (own-root x parts.0) (mode-in m None xs (and_parts (is_later m) _ parts.1).1)

text-back : (s : State) → s.mode ≡ mode.Text → Held s → Held (restore_mode (pop_but_root s))
unfolding restore_mode pop_but_root
text-back s e h =
    let firm = firm-part s.open_elems (without_current_but_root s.open_elems) (part-but_root s.open_elems) in
    let fewer = firm.fewer in
    let most = h.most in
    let later = or-later s.orig_mode s.mode h.original (later-at s mode.Text e refl) in
    record {
      listed = h.listed;
      modes = h.modes;
      head = some-later (or_mode s.orig_mode s.mode) s later (held-some s (later-at s mode.Text e refl) h);
      original = refl;
      most = omega arith;
      placed = λ f root. rw e (under-placed s.orig_mode s.open_elems (rw e at (h.placed (omega arith) (λ _. firm.html (root later)))));
    }

abbrev pub text_ok : Action → Conclusion → Bool
text_ok (Then ParseError Pop) ReprocessInOriginal = true
text_ok (Then Pop RestoreMode) Done = true
text_ok (Then Pop RestoreMode) RunScript = true
text_ok a e = false

pub text-ends : (using : InsertionMode → Token → State → Turn) (a : Action) (e : Conclusion) → text_ok a e ≡ true
    → (t : Token) (script : ℕ) (s : State) → s.mode ≡ mode.Text → Held s → Held (concluded using e t script (act a t s)).state
text-ends using (Then ParseError Pop) ReprocessInOriginal h t script s at is = text-back (parse_error s)
    (error-mode s ∙ at) (erred-held s is)
text-ends using (Then Pop RestoreMode) Done h t script s at is = text-back s at is
text-ends using (Then Pop RestoreMode) RunScript h t script s at is = text-back s at is
text-ends using a e h t script s at is = no h

-- text of a table is over

table-placed : (o : Option InsertionMode) (xs : List Open) → comes_from_table o ≡ true → are_general xs ≡ true
    → are_placed_in (or_mode o mode.InTableText) None xs ≡ true
table-placed None xs h g = no h
table-placed (Some m) xs h g = by m h where
  by : (m : InsertionMode) → is_table_mode m ≡ true → are_placed_in m None xs ≡ true
  by mode.InTable h = g
  by mode.InTableBody h = g
  by mode.InRow h = g
  by m h = no h

table-back : (s : State) → s.mode ≡ mode.InTableText → Held s → Held (restore_mode s)
unfolding restore_mode
table-back s e h =
    let later = or-later s.orig_mode s.mode h.original (later-at s mode.InTableText e refl) in
    record {
      listed = h.listed;
      modes = h.modes;
      head = some-later (or_mode s.orig_mode s.mode) s later (held-some s (later-at s mode.InTableText e refl) h);
      original = refl;
      most = h.most;
      placed = λ f root.
          let was : (comes_from_table s.orig_mode && are_general s.open_elems) ≡ true = rw e at (h.placed f (λ _. root later)) in
          let parts = and_parts (comes_from_table s.orig_mode) (are_general s.open_elems) was in
          rw e (table-placed s.orig_mode s.open_elems parts.0 parts.1);
    }

abbrev pub table_text_ok : Action → Conclusion → Bool
table_text_ok InsertPendingText ReprocessInOriginal = true
table_text_ok a e = false

pub table_text-ends : (using : InsertionMode → Token → State → Turn) (kind : Kind) (a : Action) (e : Conclusion)
    → table_text_ok a e ≡ true → (t : Token) → is_of kind t ≡ true → (script : ℕ) (s : State) → s.mode ≡ mode.InTableText → Held s
    → Held (concluded using e t script (act a t s)).state
table_text-ends using kind InsertPendingText ReprocessInOriginal h t f script s at is =
    let aside = act-aside kind InsertPendingText refl t s in
    table-back (insert_pending_text s) (aside.mode ∙ at) (loose-tame s (ap is_loose at) is (insert_pending_text s)
    (act-tame kind InsertPendingText refl t f s is.listed) aside)
table_text-ends using kind a e h t f script s at is = no h
