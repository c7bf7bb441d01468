-- Rows of the modes of framesets leave the parts nested; text of a table is over.
use Rattle.std.proofs.Common.{◌≡◌, ◌∙◌, ℕ, Bool, true, false, List, [], ◌∷◌, Option, Some, None, refl, sym, ap, true≢false}
use Rattle.std.specs.Prelude.{◌&&◌, not}
use Rattle.std.proofs.lemmas.Bool.{and_parts}
use Rattle.markup.specs.Forest.{node_count}
use Rattle.html_tokens.specs.declared.tags.Tag.{Tag}
use Rattle.html_tokens.specs.declared.token.Token.{Token}
use Rattle.html_rules.specs.Actions.{act, restore_mode, or_mode, set_mode, insert_pending_text}
use Rattle.html_rules.specs.Choice.{choose}
use Rattle.html_rules.specs.Conditions.{context_is, holds}
use Rattle.html_rules.specs.Formatting.{reconstruct_active_formatting_elements, reopen}
use Rattle.html_rules.specs.Names.{Html}
use Rattle.html_rules.specs.Places.{insert_element, insert_element_for}
use Rattle.html_rules.specs.Rules.{Turn, concluded}
use Rattle.html_rules.specs.Sets.{is_among, mathml_names_of, names_of, svg_names_of}
use Rattle.html_rules.specs.Shape.{has_root}
use Rattle.html_rules.specs.Stack.{is_open, open_templates, pop_but_root, without_current_but_root}
use Rattle.html_rules.specs.State.{Open, Entry, Element, Marker, State, is_in}
use Rattle.html_rules.specs.Table.{Action, Then, When, InsertElement, AppendText, Pop, Reconstruct, SwitchTo}
use Rattle.html_rules.specs.Table.{FramesetNotOkUnlessWhite, InsertPendingText, Conclusion, Done, ReprocessInOriginal}
use Rattle.html_rules.specs.declared.insertion_mode.InsertionMode.{InsertionMode}
use Rattle.html_rules.specs.declared.insertion_mode.InsertionMode.TheVariants as mode
use Rattle.html_rules.specs.declared.rules.Rules.{Rules}
use Rattle.html_rules.specs.declared.tag_set.TagSet.TheVariants as set
use Rattle.html_rules_laws.specs.Nesting.{Part, Root, Frames, Loose, Ground, IsNested, are_html, base, fits_parts, fits_table}
use Rattle.html_rules_laws.specs.Nesting.{ground_of, is_flow, is_foster, is_frames, is_loose, is_root, may_stand, nested}
use Rattle.html_rules_laws.specs.Nesting.{part_of, parts, top}
use Rattle.html_rules_laws.specs.Ready.{are_formatting}
use Rattle.html_rules_laws.specs.Sound.{is_table_mode}
use Rattle.html_rules_laws.specs.Soundness.{Standing}
use Rattle.html_rules_laws.proofs.Termination.Kinds.{Kind, is_of}
use Rattle.html_rules_laws.proofs.Soundness.Acts.{act-aside}
use Rattle.html_rules_laws.proofs.Soundness.Rows.{quiet-same}
use Rattle.html_rules_laws.proofs.Soundness.Specials.{table_text_ok}
use Rattle.html_rules_laws.proofs.ModesPreserved.Bodies.{flow-direct, flow-fits, flow-parts, is_bodily}
use Rattle.html_rules_laws.proofs.ModesPreserved.Fits.{frames-root, only-nothing, root-html, some-part}
use Rattle.html_rules_laws.proofs.ModesPreserved.Flows.{act-flow, act-framed}
use Rattle.html_rules_laws.proofs.ModesPreserved.Fluid.{base-solid}
use Rattle.html_rules_laws.proofs.Frames.Framed as framed
use Rattle.html_rules_laws.proofs.ModesPreserved.Heads.{started, starts_all}
use Rattle.html_rules_laws.proofs.ModesPreserved.Likes.{like-act, like-insert, like-nested, quiet-framed}
use Rattle.html_rules_laws.proofs.ModesPreserved.Parts.{is_loose_name, name-loose, part-apart, solid-html}
use Rattle.html_rules_laws.proofs.ModesPreserved.Rows.{base-takes, frames-part, frames-template}
use Rattle.html_rules_laws.proofs.ModesPreserved.Smooth.{NoGuard}
use Rattle.html_rules_laws.proofs.ModesPreserved.Stacks.{pushed-templates}
use Rattle.html_rules_laws.proofs.ModesPreserved.Steps.{IsFlow, formatting-loose}
use Rattle.html_rules_laws.proofs.Bools.{both, no}
use Rattle.html_rules_laws.proofs.Frames.KeptBySteps.{reconstruct-keeps}

-- what is open in the modes of framesets
pub record IsInFrames (g : Ground) (xs : List Open) : Type 0 where
  pub ground : not (is_flow g) ≡ true
  pub nested : nested g xs ≡ true
  pub frames : is_frames (top xs) ≡ true

pub in-frames : (g : Ground) (xs : List Open) → (not (is_flow g) && (nested g xs && is_frames (top xs))) ≡ true → IsInFrames g xs
in-frames g xs h =
    let one = and_parts (not (is_flow g)) _ h in
    let two = and_parts (nested g xs) _ one.1 in
    record { ground = one.0; nested = two.0; frames = two.1 }

frames-stand : (g : Ground) (p : Part) → not (is_flow g) ≡ true → is_frames p ≡ true → may_stand g Frames p ≡ true
frames-stand g Root f h = f
frames-stand g Frames f h = refl
frames-stand g p f h = no h

-- a frameset is opened

inner-nested : (tag : Tag) → is_among tag.name (names_of set.Frameset) ≡ true → (s : State)
    → s.mode ≡ mode.InFrameset → Standing s → IsNested s → IsNested (insert_element_for tag s)
unfolding insert_element
inner-nested tag e s at standing h =
    let like = like-insert tag.name tag.attrs tag.had_duplicate_attributes s standing in
    let is = in-frames (ground_of s.context_elem) s.open_elems (rw at at h.fits) in
    like-nested s (insert_element_for tag s)
    (record { context = like.context; modes = like.modes; framed = like.framed; form = like.form; names = like.names })
    (rw (frames-template tag.name e (node_count s.forest) s.opts.rules) refl)
    (rw (
      at,
      frames-part tag.name e (node_count s.forest) s.opts.rules,
      is.ground,
      frames-stand (ground_of s.context_elem)
          (top s.open_elems) is.ground is.frames,
      is.nested,
    ) refl) h

-- a frameset is closed

under-frames : (g : Ground) (xs : List Open) → nested g xs ≡ true → is_frames (top xs) ≡ true
    → ((nested g (without_current_but_root xs) ≡ true) × (is_frames (top (without_current_but_root xs)) ≡ true))
    × (open_templates (without_current_but_root xs) ≡ open_templates xs)
unfolding names_of mathml_names_of svg_names_of
under-frames g [] n h = no h
under-frames g (x ∷ xs) n h = by (part_of x) refl h where
  tests : (may_stand g (part_of x) (top xs) ≡ true) × (nested g xs ≡ true)
  tests = and_parts (may_stand g (part_of x) (top xs)) _ n

  below : (q : Part) → may_stand g Frames q ≡ true → is_frames q ≡ true
  below Root m = refl
  below Frames m = refl
  below q m = no m

  by : (p : Part) → part_of x ≡ p → is_frames p ≡ true → ((nested g (without_current_but_root (x ∷ xs)) ≡ true)
      × (is_frames (top (without_current_but_root (x ∷ xs))) ≡ true))
      × (open_templates (without_current_but_root (x ∷ xs)) ≡ open_templates (x ∷ xs))
  by Root e f = let root : is_in set.Html x ≡ true = root-html x ∙ ap is_root e in rw root ((n, ap is_frames e), refl)
  by Frames e f =
      let bare : is_in set.Html x ≡ false = root-html x ∙ ap is_root e in
      let template : is_in set.Template x ≡ false = part-apart x Frames set.Template refl refl e in
      rw (bare, template) ((tests.1, below (top xs) (rw e at tests.0)), refl)
  by p e f = no f

popped-nested : (s : State) → s.mode ≡ mode.InFrameset → IsNested s → IsNested (pop_but_root s)
unfolding pop_but_root
popped-nested s at h =
    let is = in-frames (ground_of s.context_elem) s.open_elems (rw at at h.fits) in
    let left = under-frames (ground_of s.context_elem) s.open_elems is.nested is.frames in
    like-nested s (pop_but_root s) (record {
      context = refl;
      modes = refl;
      framed = λ e. e;
      form = refl;
      names = λ n name e. e;
    }) left.1 (rw (at, is.ground, left.0.0, left.0.1) refl) h

moved-nested : (s : State) → s.mode ≡ mode.InFrameset → IsNested s → IsNested (set_mode mode.AfterFrameset s)
unfolding set_mode
moved-nested s at h =
    let was : (not (is_flow (ground_of s.context_elem))
    && (nested (ground_of s.context_elem) s.open_elems && is_frames (top s.open_elems))) ≡ true = rw at at h.fits in
    record { fits = was; count = h.count; framed = h.framed; form = h.form }

popped-mode : (s : State) → (pop_but_root s).mode ≡ s.mode
unfolding pop_but_root
popped-mode s = refl

either-nested : (b : Bool) (x y : State) → IsNested x → IsNested y → IsNested (choose b (λ _. x) (λ _. y))
either-nested true x y h k = h
either-nested false x y h k = k

abbrev pub moves_frames : Kind → Action → Conclusion → Bool
moves_frames kind InsertElement Done = starts_all set.Frameset kind
moves_frames kind (Then Pop (When c (SwitchTo mode.AfterFrameset))) Done = true
moves_frames kind a e = false

pub in_frameset-nested : (using : InsertionMode → Token → State → Turn) (kind : Kind) (a : Action) (e : Conclusion)
    → moves_frames kind a e ≡ true → (t : Token) → is_of kind t ≡ true → (script : ℕ) (s : State)
    → s.mode ≡ mode.InFrameset → Standing s → IsNested s → IsNested (concluded using e t script (act a t s)).state
in_frameset-nested using kind InsertElement Done h t k script s at standing n = started set.Frameset kind h t k
    (λ t. IsNested (act InsertElement t s)) (λ tag e. inner-nested tag e s at standing n)
in_frameset-nested using kind (Then Pop (When c (SwitchTo mode.AfterFrameset))) Done h t k script s at standing n =
    let q : State = pop_but_root s in
    let popped = popped-nested s at n in
    either-nested (holds c t q) (set_mode mode.AfterFrameset q) q (moved-nested q (popped-mode s ∙ at) popped) popped
in_frameset-nested using kind a e h t k script s at standing n = no h

-- after the framesets

frames-html : (g : Ground) (xs : List Open) → nested g xs ≡ true → is_frames (top xs) ≡ true → are_html xs ≡ true
frames-html g [] n h = no h
frames-html g (x ∷ xs) n h = both _ _ (solid-html x (frames-solid (part_of x) h))
    (below (part_of x) h tests.0 (frames-html g xs tests.1)) where
      tests : (may_stand g (part_of x) (top xs) ≡ true) × (nested g xs ≡ true)
      tests = and_parts (may_stand g (part_of x) (top xs)) _ n

      frames-solid : (p : Part) → is_frames p ≡ true → is_loose p ≡ false
      frames-solid Root h = refl
      frames-solid Frames h = refl
      frames-solid p h = no h

      empty : (xs : List Open) → nested g xs ≡ true → may_stand g Root (top xs) ≡ true → are_html xs ≡ true
      empty [] n m = refl
      empty (y ∷ ys) n m = absurd (true≢false (sym (only-nothing g (part_of y) m) ∙ some-part y))

      over : (q : Part) → may_stand g Frames q ≡ true → is_frames q ≡ true
      over Root m = refl
      over Frames m = refl
      over q m = no m

      below : (p : Part) → is_frames p ≡ true → may_stand g p (top xs) ≡ true
          → (is_frames (top xs) ≡ true → are_html xs ≡ true) → are_html xs ≡ true
      below Root h m rest = empty xs tests.1 m
      below Frames h m rest = rest (over (top xs) m)
      below p h m rest = no h

ended-nested : (s : State) → s.mode ≡ mode.AfterFrameset → IsNested s → IsNested (set_mode mode.AfterAfterFrameset s)
unfolding set_mode
ended-nested s at h =
    let g : Ground = ground_of s.context_elem in
    let is = in-frames g s.open_elems (rw at at h.fits) in
    record {
      fits = rw (is.ground, frames-html g s.open_elems is.nested is.frames)
          (frames-root g s.open_elems (both _ _ is.nested is.frames));
      count = h.count;
      framed = h.framed;
      form = h.form;
    }

abbrev pub ends_frames : Action → Conclusion → Bool
ends_frames (SwitchTo mode.AfterAfterFrameset) Done = true
ends_frames a e = false

pub after_frameset-nested : (using : InsertionMode → Token → State → Turn) (a : Action) (e : Conclusion)
    → ends_frames a e ≡ true → (t : Token) (script : ℕ) (s : State) → s.mode ≡ mode.AfterFrameset → IsNested s
    → IsNested (concluded using e t script (act a t s)).state
after_frameset-nested using (SwitchTo mode.AfterAfterFrameset) Done h t script s at n = ended-nested s at n
after_frameset-nested using a e h t script s at n = no h

-- white space after all of it opens formatting elements again

record IsOver (xs ys : List Open) : Type 0 where
  html : are_html xs ≡ true → are_html ys ≡ true
  root : has_root xs ≡ true → has_root ys ≡ true
  templates : open_templates ys ≡ open_templates xs

over-same : (xs : List Open) → IsOver xs xs
over-same xs = record { html = λ h. h; root = λ h. h; templates = refl }

over-push : (name : List ℕ) → is_loose_name name parts ≡ true → (n : ℕ) (rules : Rules) (xs ys : List Open) → IsOver xs ys
    → IsOver xs (record { number = n; namespace = Html; name = name; rules = rules } ∷ ys)
over-push name l n rules xs ys o =
    let x : Open = record { number = n; namespace = Html; name = name; rules = rules } in
    let loose = name-loose name l n rules in
    record {
      html = o.html;
      root = λ h. rw (root-html x ∙ ap is_root loose) (o.root h);
      templates = pushed-templates x ys loose ∙ o.templates;
    }

over-either : (xs : List Open) (b : Bool) (x y : State) → IsOver xs x.open_elems → IsOver xs y.open_elems
    → IsOver xs (choose b (λ _. x) (λ _. y)).open_elems
over-either xs true x y h k = h
over-either xs false x y h k = k

reopen-over : (entries : List Entry) → are_formatting entries ≡ true → (s : State) → IsOver s.open_elems (reopen entries s).open_elems
unfolding insert_element
reopen-over [] h s = over-same s.open_elems
reopen-over (Marker ∷ entries) h s = over-same s.open_elems
reopen-over (Element n tag ∷ entries) h s =
    let tests = and_parts (is_among tag.name (names_of set.FormattingEnd)) (are_formatting entries) h in
    over-either s.open_elems (is_open n s.open_elems) _ _ (over-same s.open_elems)
    (over-push tag.name (formatting-loose tag tests.0) (node_count (reopen entries s).forest) (reopen entries s).opts.rules s.open_elems
    (reopen entries s).open_elems (reopen-over entries tests.1 s))

reconstruct-over : (s : State) → are_formatting s.active_formatting ≡ true → IsOver s.open_elems
    (reconstruct_active_formatting_elements s).open_elems
unfolding reconstruct_active_formatting_elements
reconstruct-over s h = reopen-over s.active_formatting h s

abbrev pub is_white_text : Action → Conclusion → Bool
is_white_text (Then Reconstruct (Then FramesetNotOkUnlessWhite AppendText)) Done = true
is_white_text a e = false

white-nested : (kind : Kind) (t : Token) → is_of kind t ≡ true → (s : State) → s.mode ≡ mode.AfterAfterFrameset
    → are_formatting s.active_formatting ≡ true → Standing s → IsNested s
    → IsNested (act (Then Reconstruct (Then FramesetNotOkUnlessWhite AppendText)) t s)
white-nested kind t k s at listed standing n =
    let a : Action = Then Reconstruct (Then FramesetNotOkUnlessWhite AppendText) in
    let q : State = reconstruct_active_formatting_elements s in
    let aside = act-aside kind a refl t s in
    let over = reconstruct-over s listed in
    let same = quiet-same (Then FramesetNotOkUnlessWhite AppendText) refl t q in
    let kept = framed.after s q _ ((reconstruct-keeps framed.framed_kept) s)
    (quiet-framed (Then FramesetNotOkUnlessWhite AppendText) refl t q) in
    let was : (not (is_flow (ground_of s.context_elem)) && (are_html s.open_elems && has_root s.open_elems)) ≡ true = rw at at n.fits in
    let one = and_parts (not (is_flow (ground_of s.context_elem))) _ was in
    let two = and_parts (are_html s.open_elems) _ one.1 in
    like-nested s (act a t s) (like-act kind a refl refl t k s listed standing kept)
    (ap open_templates same ∙ over.templates) (rw (aside.mode ∙ at, same, one.0, over.html two.0) (over.root two.1)) n

pub after_after-nested : (using : InsertionMode → Token → State → Turn) (kind : Kind) (a : Action) (e : Conclusion)
    → is_white_text a e ≡ true → (t : Token) → is_of kind t ≡ true → (script : ℕ) (s : State)
    → s.mode ≡ mode.AfterAfterFrameset → are_formatting s.active_formatting ≡ true → Standing s → IsNested s
    → IsNested (concluded using e t script (act a t s)).state
after_after-nested using kind (Then Reconstruct (Then FramesetNotOkUnlessWhite AppendText)) Done h t k script s at
    listed standing n = white-nested kind t k s at listed standing n
after_after-nested using kind a e h t k script s at listed standing n = no h

-- text of a table is over

pub table-bodily : (m : InsertionMode) → is_table_mode m ≡ true → is_bodily m ≡ true
table-bodily mode.InTable h = refl
table-bodily mode.InTableBody h = refl
table-bodily mode.InRow h = refl
table-bodily m h = no h

table-back : (g : Ground) (template : Bool) (o : Option InsertionMode) (m : InsertionMode) (xs ys : List Open)
    → fits_table g template o xs ≡ true → IsFlow g xs ys → (fits_parts g template (or_mode o m) None ys ≡ true)
    × (open_templates ys ≡ open_templates xs)
table-back g template None m xs ys h f = no h
table-back g template (Some original) m xs ys h f =
    let one = and_parts (is_foster (top xs)) _ h in
    let two = and_parts (is_table_mode original) _ one.1 in
    let bodily = table-bodily original two.0 in
    let direct = flow-direct g template original None xs bodily (flow-parts g template original None xs bodily two.1) in
    let after = f.flow direct.0 (base-takes g template original (base xs) direct.1.0 direct.1.1) in (
      flow-parts g template original None ys bodily
          (flow-fits g template original (base xs) ys bodily direct.1.0 after.0 after.1.0 direct.1.1),
      after.1.1,
    )

told-nested : (kind : Kind) (t : Token) → is_of kind t ≡ true → (s : State) → s.mode ≡ mode.InTableText
    → are_formatting s.active_formatting ≡ true → Standing s → IsNested s → IsNested (restore_mode (insert_pending_text s))
unfolding restore_mode
told-nested kind t k s at listed standing n =
    let g : Ground = ground_of s.context_elem in
    let template : Bool = context_is set.Template s.context_elem in
    let r : State = insert_pending_text s in
    let aside = act-aside kind InsertPendingText refl t s in
    let like = like-act kind InsertPendingText refl refl t k s listed standing (act-framed kind NoGuard Loose InsertPendingText refl t s) in
    let flow = act-flow g kind NoGuard (base s.open_elems) InsertPendingText refl (base-solid s.open_elems) t k s
    refl tt n.form listed standing in
    let was : fits_table g template s.orig_mode s.open_elems ≡ true = rw at at n.fits in
    let back = table-back g template s.orig_mode r.mode s.open_elems r.open_elems was flow in
    like-nested s (restore_mode r) (record {
      context = like.context;
      modes = like.modes;
      framed = like.framed;
      form = like.form;
      names = like.names;
    }) back.1 (rw aside.original back.0) n

pub table_text-nested : (using : InsertionMode → Token → State → Turn) (kind : Kind) (a : Action) (e : Conclusion)
    → table_text_ok a e ≡ true → (t : Token) → is_of kind t ≡ true → (script : ℕ) (s : State)
    → s.mode ≡ mode.InTableText → are_formatting s.active_formatting ≡ true → Standing s → IsNested s
    → IsNested (concluded using e t script (act a t s)).state
table_text-nested using kind InsertPendingText ReprocessInOriginal h t k script s at listed standing n =
    told-nested kind t k s at listed standing n
table_text-nested using kind a e h t k script s at listed standing n = no h
