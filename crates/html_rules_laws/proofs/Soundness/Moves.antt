-- Steps between sound states.
use Rattle.std.proofs.Common.{◌≡◌, ◌∙◌, ℕ, suc, ◌≤◌, Bool, true, false, List, [], ◌∷◌, length, Option, Some, None, refl, sym}
use Rattle.std.proofs.Common.{ap, true≢false, arith, inl, inr}
use Rattle.std.specs.Prelude.{◌||◌, not, is_some}
use Rattle.std.proofs.lemmas.Bool.{and_parts}
use Rattle.markup.specs.Forest.{node_count}
use Rattle.html_tokens.specs.declared.tags.Tag.{Tag}
use Rattle.html_rules.specs.Actions.{save_mode, set_mode, set_template_mode, without_first}
use Rattle.html_rules.specs.Choice.{choose}
use Rattle.html_rules.specs.Conditions.{context_is}
use Rattle.html_rules.specs.ForeignContent.{is_html_element}
use Rattle.html_rules.specs.Names.{Html}
use Rattle.html_rules.specs.Places.{insert_element, insert_element_for, open_element, with_element}
use Rattle.html_rules.specs.Reset.{mode_of, mode_of_context, mode_of_html, mode_of_open, reset_insertion_mode}
use Rattle.html_rules.specs.Sets.{is_among, mathml_names_of, names_of, svg_names_of}
use Rattle.html_rules.specs.Shape.{one_if}
use Rattle.html_rules.specs.Stack.{has_open, left_below, left_from, nothing, open_templates, pop}
use Rattle.html_rules.specs.State.{Open, State, is_in}
use Rattle.html_rules.specs.Templates.{insert_template, may_be_shadow_root}
use Rattle.html_rules.specs.declared.insertion_mode.InsertionMode.{InsertionMode}
use Rattle.html_rules.specs.declared.insertion_mode.InsertionMode.TheVariants as mode
use Rattle.html_rules.specs.declared.rules.Rules.{Rules}
use Rattle.html_rules.specs.declared.tag_set.TagSet.TheVariants as set
use Rattle.html_rules_laws.specs.Held.{HasRoot, Held, wanted}
use Rattle.html_rules_laws.specs.Placing.{are_general, is_in_head, may_stand_over, stand_well}
use Rattle.html_rules_laws.specs.Ready.{are_formatting}
use Rattle.html_rules_laws.specs.Settled.{are_template_modes, is_template_mode}
use Rattle.html_rules_laws.specs.Sound.{are_placed, are_placed_in, asks_root, comes_from_table, has_its_head, is_later}
use Rattle.html_rules_laws.specs.Sound.{is_later_original, is_own}
use Rattle.html_rules_laws.proofs.Frames.Aside.{IsAside, first-modes}
use Rattle.html_rules_laws.proofs.Frames.Firm.{IsOrdinary, html_head, over-plain, part-html}
use Rattle.html_rules_laws.proofs.SetFacts.{in-apart}
use Rattle.html_rules_laws.proofs.TreePreserved.Standing.{part-below}
use Rattle.html_rules_laws.proofs.Frames.Tame.{IsTame}
use Rattle.html_rules_laws.proofs.Bools.{both, or_true}
use Rattle.html_rules_laws.proofs.ResetModes.{choose-passes, element-passes, is_asked, open-passes}

-- modes in which any element may come
abbrev pub is_free : InsertionMode → Bool
is_free mode.Initial = false
is_free mode.BeforeHtml = false
is_free mode.BeforeHead = false
is_free mode.InHead = false
is_free mode.InHeadNoscript = false
is_free mode.Text = false
is_free mode.InTableText = false
is_free m = true

pub free-placed : (m : InsertionMode) → is_free m ≡ true → (o : Option InsertionMode) (xs : List Open)
    → are_placed_in m o xs ≡ are_general xs
free-placed mode.Initial h o xs = absurd (true≢false (sym h))
free-placed mode.BeforeHtml h o xs = absurd (true≢false (sym h))
free-placed mode.BeforeHead h o xs = absurd (true≢false (sym h))
free-placed mode.InHead h o xs = absurd (true≢false (sym h))
free-placed mode.InHeadNoscript h o xs = absurd (true≢false (sym h))
free-placed mode.Text h o xs = absurd (true≢false (sym h))
free-placed mode.InTableText h o xs = absurd (true≢false (sym h))
free-placed m h o xs = refl

pub free-later : (m : InsertionMode) → is_free m ≡ true → is_later m ≡ true
free-later mode.Initial h = absurd (true≢false (sym h))
free-later mode.BeforeHtml h = absurd (true≢false (sym h))
free-later mode.BeforeHead h = absurd (true≢false (sym h))
free-later m h = refl

-- modes in which any element may come, or come back to
abbrev pub is_loose : InsertionMode → Bool
is_loose mode.InTableText = true
is_loose m = is_free m

record IsLoose (m : InsertionMode) (o : Option InsertionMode) (xs : List Open) : Type 0 where
  general : are_general xs ≡ true
  again : (ys : List Open) → are_general ys ≡ true → are_placed_in m o ys ≡ true

free-loose : (m : InsertionMode) → is_free m ≡ true → (o : Option InsertionMode) (xs : List Open)
    → are_placed_in m o xs ≡ true → IsLoose m o xs
free-loose m h o xs p = record { general = sym (free-placed m h o xs) ∙ p; again = λ ys g. free-placed m h o ys ∙ g }

loose-is : (m : InsertionMode) → is_loose m ≡ true → (o : Option InsertionMode) (xs : List Open)
    → are_placed_in m o xs ≡ true → IsLoose m o xs
loose-is mode.InTableText h o xs p = let parts = and_parts (comes_from_table o) (are_general xs) p in
    record { general = parts.1; again = λ ys g. both (comes_from_table o) (are_general ys) parts.0 g }
loose-is m h o xs p = free-loose m h o xs p

-- tame steps keep a state in such modes
abbrev pub HoldsTame : State → Type 0
HoldsTame s = (r : State) → IsTame s r → IsAside s r → Held r

-- what is not the case holds nothing
tame-by : (s r : State) → Held s → IsTame s r → IsAside s r
    → (wanted s ≡ length s.template_modes → HasRoot s → open_templates r.open_elems ≡ open_templates s.open_elems
    → are_placed_in s.mode s.orig_mode r.open_elems ≡ true) → Held r
tame-by s r h tame aside placed =
    let context : one_if (context_is set.Template r.context_elem) ≡ one_if
    (context_is set.Template s.context_elem) = ap (λ c. one_if (context_is set.Template c)) aside.context in
    let modes : length r.template_modes ≡ length s.template_modes = ap length aside.modes in
    let most = h.most in
    let fewer = tame.firm.fewer in
    record {
      listed = tame.listed;
      modes = rw aside.modes h.modes;
      head = rw (aside.mode, aside.head, aside.context) h.head;
      original = rw aside.original h.original;
      most = omega arith;
      placed = λ e root. rw (aside.mode, aside.original)
          (placed (omega arith) (λ later. tame.firm.html (root (rw aside.mode later))) (omega arith));
    }

pub loose-tame : (s : State) → is_loose s.mode ≡ true → Held s → HoldsTame s
loose-tame s l h r tame aside =
    tame-by s r h tame aside (λ e root same.
    let loose = loose-is s.mode l s.orig_mode s.open_elems (h.placed e root) in
    elim (tame.firm.firm loose.general) [ inl stays ↦ loose.again r.open_elems stays | inr less ↦ absurd (omega arith) ])

pub lost-tame : (s : State) → (wanted s ≡ length s.template_modes → HasRoot s → ⊥) → Held s → HoldsTame s
lost-tame s lost h r tame aside = tame-by s r h tame aside (λ e root same. absurd (lost e root))

-- a step that leaves the stack as it is keeps a state in any mode
pub still-tame : (s r : State) → Held s → r.open_elems ≡ s.open_elems → are_formatting r.active_formatting ≡ true → IsAside s r → Held r
still-tame s r h same listed aside =
    let context : one_if (context_is set.Template r.context_elem) ≡ one_if
    (context_is set.Template s.context_elem) = ap (λ c. one_if (context_is set.Template c)) aside.context in
    let modes : length r.template_modes ≡ length s.template_modes = ap length aside.modes in
    let count : open_templates r.open_elems ≡ open_templates s.open_elems = ap open_templates same in
    let most = h.most in
    record {
      listed = listed;
      modes = rw aside.modes h.modes;
      head = rw (aside.mode, aside.head, aside.context) h.head;
      original = rw aside.original h.original;
      most = omega arith;
      placed = λ e root. rw (aside.mode, aside.original, same) (h.placed (omega arith) (λ later. rw same at (root (rw aside.mode later))));
    }

-- to another mode

pub free-moved : (m : InsertionMode) (s : State) → is_free s.mode ≡ true → is_free m ≡ true → Held s → Held (set_mode m s)
unfolding set_mode
free-moved m s f g h = record {
  listed = h.listed;
  modes = h.modes;
  head = later m g (later' s.mode f h.head);
  original = h.original;
  most = h.most;
  placed = λ e root. free-placed m g s.orig_mode s.open_elems ∙ sym (free-placed s.mode f s.orig_mode s.open_elems)
      ∙ h.placed e (λ later. root (free-later m g));
}
  where
    later' : (m : InsertionMode) → is_free m ≡ true → has_its_head m s.head_elem s.context_elem ≡ true
        → (is_some s.head_elem || not (asks_root s.context_elem)) ≡ true
    later' m f h = rw (free-later m f) at h

    later : (m : InsertionMode) → is_free m ≡ true → (is_some s.head_elem || not (asks_root s.context_elem)) ≡ true
        → has_its_head m s.head_elem s.context_elem ≡ true
    later m f h = rw (free-later m f) h

-- another template mode
first-length : (m : InsertionMode) (modes : List InsertionMode) (n : ℕ) → n ≤ length modes
    → (n ≡ length (m ∷ without_first modes) → n ≡ length modes) × (n ≤ length (m ∷ without_first modes))
first-length m [] n h = (λ e. omega arith, omega arith)
first-length m (x ∷ modes) n h = (λ e. e, h)

pub template_mode-held : (m : InsertionMode) (s : State) → is_template_mode m ≡ true → Held s → Held (set_template_mode m s)
unfolding set_template_mode
template_mode-held m s k h =
    let length-is = first-length m s.template_modes (wanted s) h.most in
    record {
      listed = h.listed;
      modes = rw k (first-modes s.template_modes h.modes);
      head = h.head;
      original = h.original;
      most = length-is.1;
      placed = λ e root. h.placed (length-is.0 e) root;
    }

-- text of an element

abbrev pub is_text_mode : InsertionMode → Bool
is_text_mode mode.Text = true
is_text_mode mode.InTableText = true
is_text_mode m = false

pub mode-placed : (m : InsertionMode) → is_text_mode m ≡ false → (o : Option InsertionMode) (xs : List Open)
    → are_placed_in m o xs ≡ are_placed m xs
mode-placed mode.Text h o xs = absurd (true≢false h)
mode-placed mode.InTableText h o xs = absurd (true≢false h)
mode-placed m h o xs = refl

-- an own element comes over what is open, and its text is read
own-plain : (x : Open) → IsOrdinary x → is_html_element x ≡ true → is_own x ≡ true
own-plain x plain html = rw (html, plain.root, plain.template) refl

pub text-held : (s : State) (tag : Tag)
    → ((n : ℕ) (rules : Rules) → IsOrdinary (record { number = n; namespace = Html; name = tag.name; rules = rules }))
    → is_text_mode s.mode ≡ false → is_later s.mode ≡ true → Held s → Held (set_mode mode.Text (save_mode (insert_element_for tag s)))
unfolding set_mode save_mode insert_element
text-held s tag plain text later h =
    let x : Open = record { number = node_count s.forest; namespace = Html; name = tag.name; rules = s.opts.rules } in
    let is = plain (node_count s.forest) s.opts.rules in
    record {
      listed = h.listed;
      modes = h.modes;
      head = rw later at h.head;
      original = later;
      most = rw is.template h.most;
      placed = λ e root. both _ _ (own-plain x is refl)
          (both _ _ later (sym (mode-placed s.mode text s.orig_mode s.open_elems) ∙ h.placed (rw is.template at e)
          (λ later. rw is.root at (root refl))));
    }

-- a template is opened

pub record Topped (tag : Tag) (q r : State) : Type 0 where
  pub number : ℕ
  pub elements : r.open_elems ≡ record { number = number; namespace = Html; name = tag.name; rules = q.opts.rules } ∷ q.open_elems
  pub entries : r.active_formatting ≡ q.active_formatting

topped-choose : (tag : Tag) (q x y : State) (b : Bool) → Topped tag q x → Topped tag q y → Topped tag q (choose b (λ _. x) (λ _. y))
topped-choose tag q x y true h k = h
topped-choose tag q x y false h k = k

pub template-topped : (tag : Tag) (q : State) → Topped tag q (insert_template tag q)
unfolding insert_template insert_element open_element pop
template-topped tag q =
    topped-choose tag q _ _ (may_be_shadow_root tag q)
    (topped-choose tag q _ _ (q.answers.attaches_shadow _ _ _ tag.attrs)
    (record { number = node_count q.forest; elements = refl; entries = refl })
    (record {
      number = node_count
          (with_element q.forest Html tag.name tag.attrs tag.had_duplicate_attributes);
      elements = refl;
      entries = refl;
    }))
    (record { number = node_count q.forest; elements = refl; entries = refl })

template-in : (name : List ℕ) → is_among name (names_of set.Template) ≡ true → (n : ℕ) (rules : Rules) → is_in set.Template
    (record { number = n; namespace = Html; name = name; rules = rules }) ≡ true
template-in name h n rules = h

pub not_html-template : (x : Open) → is_in set.Template x ≡ true → is_in set.Html x ≡ false
unfolding names_of mathml_names_of svg_names_of
not_html-template x h = in-apart set.Template set.Html refl x h

not_head-template : (x : Open) → is_in set.Template x ≡ true → is_in set.Head x ≡ false
unfolding names_of mathml_names_of svg_names_of
not_head-template x h = in-apart set.Template set.Head refl x h

-- a template over elements that stand well
pub template-general : (x : Open) (xs : List Open) → is_in set.Template x ≡ true → stand_well xs ≡ true → are_general (x ∷ xs) ≡ true
template-general x xs t w = rw (not_html-template x t, not_head-template x t, t, w, or_true (not (is_in_head xs))) refl

-- the start tag of a template: a template mode comes with it
pub opened-held : (s q r : State) (tag : Tag) → is_among tag.name (names_of set.Template) ≡ true
    → is_later s.mode ≡ true → (wanted s ≡ length s.template_modes → HasRoot s → stand_well s.open_elems ≡ true) → Held s
    → q.open_elems ≡ s.open_elems → q.template_modes ≡ mode.InTemplate ∷ s.template_modes → q.mode ≡ mode.InTemplate
    → q.head_elem ≡ s.head_elem → q.context_elem ≡ s.context_elem → are_formatting q.active_formatting ≡ true
    → is_later_original q.orig_mode ≡ true
    → Topped tag q r → IsAside q r → Held r
opened-held s q r tag name later well h elements modes at head context listed kept top aside =
    let x : Open = record { number = top.number; namespace = Html; name = tag.name; rules = q.opts.rules } in
    let t : is_in set.Template x ≡ true = name in
    let all : r.open_elems ≡ x ∷ s.open_elems = top.elements ∙ ap (λ xs. x ∷ xs) elements in
    let count : open_templates r.open_elems ≡ suc (open_templates s.open_elems) = ap open_templates all ∙ rw t refl in
    let length_is : length r.template_modes ≡ suc (length s.template_modes) = ap length (aside.modes ∙ modes) in
    let same : one_if (context_is set.Template r.context_elem) ≡ one_if (context_is set.Template s.context_elem) =
    ap (λ c. one_if (context_is set.Template c)) (aside.context ∙ context) in
    let most = h.most in
    record {
      listed = rw top.entries listed;
      modes = rw (aside.modes ∙ modes) h.modes;
      head = rw (aside.mode ∙ at, aside.head ∙ head, aside.context ∙ context) (rw later at h.head);
      original = rw aside.original kept;
      most = omega arith;
      placed = λ e root. rw (aside.mode ∙ at, all)
          (template-general x s.open_elems t
          (well (omega arith) (λ later. rw (all, not_html-template x t) at (root (rw (aside.mode ∙ at) refl)))));
    }

-- the mode is reset

abbrev IsFree : InsertionMode → Type 0
IsFree m = is_free m ≡ true

asked-free : (m : InsertionMode) → is_asked m ≡ true → IsFree m
asked-free mode.InCell h = refl
asked-free mode.InRow h = refl
asked-free mode.InTableBody h = refl
asked-free mode.InCaption h = refl
asked-free mode.InColumnGroup h = refl
asked-free mode.InTable h = refl
asked-free mode.InTemplate h = refl
asked-free mode.InBody h = refl
asked-free mode.InFrameset h = refl
asked-free m h = absurd (true≢false (sym h))

html-free : (o : Option ℕ) → is_some o ≡ true → is_free (mode_of_html o) ≡ true
html-free None h = absurd (true≢false (sym h))
html-free (Some n) h = refl

or_some : (a b : Bool) → (a || not b) ≡ true → b ≡ true → a ≡ true
or_some true b h e = refl
or_some false b h e = absurd (true≢false (sym (rw e at h)))

context-free : (s : State) (o : Option Open) → o ≡ s.context_elem → are_template_modes s.template_modes ≡ true
    → (is_some s.head_elem || not (asks_root s.context_elem)) ≡ true → is_free (mode_of_context s o) ≡ true
context-free s None e h k = html-free s.head_elem (or_some (is_some s.head_elem) (asks_root s.context_elem) k (rw (← e) refl))
context-free s (Some x) e h k = element-passes IsFree asked-free s x (λ _. mode.InBody) h
    (λ html. html-free s.head_elem (or_some (is_some s.head_elem) (asks_root s.context_elem) k (rw (← e) html))) (λ t html. refl)

open-free : (s : State) (xs : List Open) → are_template_modes s.template_modes ≡ true
    → (is_some s.head_elem || not (asks_root s.context_elem)) ≡ true → stand_well xs ≡ true → is_in_head xs ≡ false
    → has_open set.Html xs ≡ true
    → is_free (mode_of_open s xs) ≡ true
open-free s [] h k w g root = refl
open-free s (x ∷ xs) h k w g root =
    let parts = and_parts (may_stand_over x xs) (stand_well xs) w in
    choose-passes IsFree asked-free (is_in set.TdTh x) _ _ (λ e. refl)
    (λ e. choose-passes IsFree asked-free (is_in set.Head x) _ _ (λ head. absurd (no-head head))
    (λ head. choose-passes IsFree asked-free (is_in set.Html x) _ _ (λ e. context-free s s.context_elem refl h k)
    (λ html. element-passes IsFree asked-free s x (λ _. mode_of_open s xs) h
    (λ e. absurd (true≢false (sym e ∙ html))) (λ t html. open-free s xs h k parts.1 (over-plain x xs parts.0 t) (behind html)))))
  where
    behind : is_in set.Html x ≡ false → has_open set.Html xs ≡ true
    behind e = rw e at root

    no-head : is_in set.Head x ≡ true → ⊥
    no-head e = by (is_in set.Html x) refl where
      by : (b : Bool) → is_in set.Html x ≡ b → ⊥
      by true f = true≢false (sym e ∙ html_head x f)
      by false f = true≢false (sym (both _ _ e (behind f)) ∙ g)

not_td-head : (x : Open) → is_in set.Head x ≡ true → is_in set.TdTh x ≡ false
unfolding names_of mathml_names_of svg_names_of
not_td-head x h = in-apart set.Head set.TdTh refl x h

-- elements that stand well are where the mode wants them that they ask for
reset-placed : (s : State) (o : Option InsertionMode) (xs : List Open) → are_template_modes s.template_modes ≡ true
    → (is_some s.head_elem || not (asks_root s.context_elem)) ≡ true → stand_well xs ≡ true → has_open set.Html xs ≡ true
    → are_placed_in (mode_of_open s xs) o xs ≡ true
reset-placed s o xs h k w root = by (is_in_head xs) refl where
  in-mode : (x : Open) (xs : List Open) (b : Bool) → b ≡ true → is_in_head (x ∷ xs) ≡ true → stand_well (x ∷ xs) ≡ true
      → are_placed_in (choose b (λ _. mode.InHead)
      (λ _. choose (is_in set.Html x) (λ _. mode_of_context s s.context_elem)
      (λ _. mode_of s x (λ _. mode_of_open s xs)))) o (x ∷ xs) ≡ true
  in-mode x xs true e g w = both (is_in_head (x ∷ xs)) (stand_well (x ∷ xs)) g w
  in-mode x xs false e g w = absurd (true≢false (sym e))

  in-head : (xs : List Open) → is_in_head xs ≡ true → stand_well xs ≡ true → are_placed_in (mode_of_open s xs) o xs ≡ true
  in-head [] g w = absurd (true≢false (sym g))
  in-head (x ∷ xs) g w = let head = (and_parts (is_in set.Head x) (has_open set.Html xs) g).0 in
      rw (not_td-head x head) (in-mode x xs (is_in set.Head x) head g w)

  by : (b : Bool) → is_in_head xs ≡ b → are_placed_in (mode_of_open s xs) o xs ≡ true
  by true g = in-head xs g w
  by false g = free-placed (mode_of_open s xs) (open-free s xs h k w g root) o xs ∙ both _ _ (ap not g) w

later-some : (m : InsertionMode) (head : Option ℕ) (context : Option Open) → is_later m ≡ true
    → has_its_head m head context ≡ true → (is_some head || not (asks_root context)) ≡ true
later-some m head context l h = rw l at h

some-head : (m : InsertionMode) (head : Option ℕ) (context : Option Open) → is_later m ≡ true
    → (is_some head || not (asks_root context)) ≡ true → has_its_head m head context ≡ true
some-head m head context l h = rw l h

-- a reset gives a later mode
open-later : (s : State) (xs : List Open) → are_template_modes s.template_modes ≡ true
    → (is_some s.head_elem || not (asks_root s.context_elem)) ≡ true → is_later (mode_of_open s xs) ≡ true
open-later s xs h k = open-passes (λ m. is_later m ≡ true) (λ m asked. free-later m (asked-free m asked)) s xs h
    refl (free-later _ (context-free s s.context_elem refl h k))

-- by a step after which the elements stand well
pub reset-held : (q : State) → are_formatting q.active_formatting ≡ true → is_later_original q.orig_mode ≡ true
    → are_template_modes q.template_modes ≡ true → (is_some q.head_elem || not (asks_root q.context_elem)) ≡ true
    → wanted q ≤ length q.template_modes
    → (wanted q ≡ length q.template_modes → has_open set.Html q.open_elems ≡ true → stand_well q.open_elems ≡ true)
    → Held (reset_insertion_mode q)
unfolding reset_insertion_mode
reset-held q listed kept modes some most well =
    let later = open-later q q.open_elems modes some in
    record {
      listed = listed;
      modes = modes;
      head = some-head (mode_of_open q q.open_elems) q.head_elem q.context_elem later some;
      original = kept;
      most = most;
      placed = λ e root. reset-placed q q.orig_mode q.open_elems modes some (well e (root later)) (root later);
    }

pub held-some : (s : State) → is_later s.mode ≡ true → Held s → (is_some s.head_elem || not (asks_root s.context_elem)) ≡ true
held-some s l h = later-some s.mode s.head_elem s.context_elem l h.head

-- a template is closed

below-well : (p : Open → Bool) (xs : List Open) → stand_well xs ≡ true → stand_well (left_below p xs) ≡ true
below-well p [] w = refl
below-well p (x ∷ xs) w = by (p x) (below-well p xs (and_parts (may_stand_over x xs) (stand_well xs) w).1) where
  by : (b : Bool) → stand_well (left_below p xs) ≡ true → stand_well (choose b (λ _. xs) (λ _. left_below p xs)) ≡ true
  by true rest = (and_parts (may_stand_over x xs) (stand_well xs) w).1
  by false rest = rest

pub from-well : (p : Open → Bool) (xs : List Open) → stand_well xs ≡ true → stand_well (left_from p xs) ≡ true
from-well p [] w = refl
from-well p (x ∷ xs) w = by (p x) (from-well p xs (and_parts (may_stand_over x xs) (stand_well xs) w).1) where
  by : (b : Bool) → stand_well (left_from p xs) ≡ true → stand_well (choose b (λ _. x ∷ xs) (λ _. left_from p xs)) ≡ true
  by true rest = w
  by false rest = rest

below-count : (xs : List Open) → has_open set.Template xs ≡ true
    → suc (open_templates (left_below (is_in set.Template) xs)) ≡ open_templates xs
below-count [] h = absurd (true≢false (sym h))
below-count (x ∷ xs) h = by (is_in set.Template x) h (below-count xs) where
  by : (b : Bool) → (b || has_open set.Template xs) ≡ true
      → (has_open set.Template xs ≡ true → suc (open_templates (left_below (is_in set.Template) xs)) ≡ open_templates xs)
      → suc (open_templates (choose b (λ _. xs) (λ _. left_below (is_in set.Template) xs))) ≡ choose b
      (λ _. suc (open_templates xs)) (λ _. open_templates xs)
  by true h rest = refl
  by false h rest = rest h

thorough-template : (x : Open) → is_in set.Template x ≡ true → is_in set.ThoroughImpliedEnd x ≡ false
unfolding names_of mathml_names_of svg_names_of
thorough-template x h = in-apart set.Template set.ThoroughImpliedEnd refl x h

abbrev pub kept_by_implied : Open → Bool
kept_by_implied x = not (is_in set.ThoroughImpliedEnd x) || nothing x

-- no template has an implied end tag
pub implied-count : (xs : List Open) → (open_templates (left_from kept_by_implied xs) ≡ open_templates xs)
    × (has_open set.Template xs ≡ true → has_open set.Template (left_from kept_by_implied xs) ≡ true)
implied-count [] = (refl, λ h. h)
implied-count (x ∷ xs) = by (is_in set.ThoroughImpliedEnd x) (is_in set.Template x) refl refl (implied-count xs) where
  by : (a t : Bool) → is_in set.ThoroughImpliedEnd x ≡ a → is_in set.Template x ≡ t
      → (open_templates (left_from kept_by_implied xs) ≡ open_templates xs)
      × (has_open set.Template xs ≡ true → has_open set.Template (left_from kept_by_implied xs) ≡ true)
      → (open_templates (choose (not a || nothing x) (λ _. x ∷ xs) (λ _. left_from kept_by_implied xs)) ≡ choose t
      (λ _. suc (open_templates xs)) (λ _. open_templates xs))
      × ((t || has_open set.Template xs) ≡ true → has_open set.Template
      (choose (not a || nothing x) (λ _. x ∷ xs) (λ _. left_from kept_by_implied xs)) ≡ true)
  by false t ea et rest = (rw et refl, λ h. rw et h)
  by true true ea et rest = absurd (true≢false (sym ea ∙ thorough-template x et))
  by true false ea et rest = rest

first-shorter : (modes : List InsertionMode) (n : ℕ) → suc n ≤ length modes → (n ≤ length (without_first modes))
    × (n ≡ length (without_first modes) → suc n ≡ length modes)
first-shorter [] n h = absurd (omega arith)
first-shorter (m ∷ modes) n h = (omega arith, λ e. omega arith)

-- from elements zs, of which the topmost template was popped, with all above it
pub closed-held : (s q : State) (zs : List Open) → is_later s.mode ≡ true → Held s
    → (wanted s ≡ length s.template_modes → HasRoot s → stand_well zs ≡ true) → open_templates zs ≡ open_templates
    s.open_elems → has_open set.Template zs ≡ true
    → (has_open set.Html zs ≡ true → has_open set.Html s.open_elems ≡ true)
    → q.open_elems ≡ left_below (is_in set.Template) zs → q.template_modes ≡ without_first s.template_modes
    → q.head_elem ≡ s.head_elem → q.context_elem ≡ s.context_elem → are_formatting q.active_formatting ≡ true
    → is_later_original q.orig_mode ≡ true
    → Held (reset_insertion_mode q)
closed-held s q zs later h well count there html elements modes head context listed kept =
    let fewer : suc (open_templates q.open_elems) ≡ open_templates s.open_elems = ap (λ xs. suc (open_templates xs))
    elements ∙ below-count zs there ∙ count in
    let same : one_if (context_is set.Template q.context_elem) ≡ one_if (context_is set.Template s.context_elem) =
    ap (λ c. one_if (context_is set.Template c)) context in
    let most = h.most in
    let short = first-shorter s.template_modes (wanted q) (omega arith) in
    reset-held q listed kept (rw modes (first-modes s.template_modes h.modes)) (rw (head, context) (held-some s later h)) (rw modes short.0)
    (λ e root. rw elements (below-well (is_in set.Template) zs
    (well (let f = short.1 (rw modes at e) in omega arith) (λ l. html (below-html zs (rw elements at root))))))
  where
    below-html : (zs : List Open) → has_open set.Html (left_below (is_in set.Template) zs) ≡ true → has_open set.Html zs ≡ true
    below-html zs h = part-html zs _ (part-below (is_in set.Template) zs) h
