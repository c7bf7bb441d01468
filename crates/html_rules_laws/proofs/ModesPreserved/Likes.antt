-- Steps after which a state is nested in whatever mode; text of an element comes and is over.
use Rattle.std.proofs.Common.{◌≡◌, ◌∙◌, ℕ, ◌+◌, Bool, true, false, List, [], ◌∷◌, length, Option, Some, None, refl, sym, ap}
use Rattle.std.specs.Prelude.{◌&&◌, not}
use Rattle.std.proofs.lemmas.Bool.{and_parts}
use Rattle.markup.specs.Forest.{data_of, element_name, node_count}
use Rattle.markup.specs.declared.attributes.Attribute.{Attribute}
use Rattle.markup.specs.declared.names.QualName.{QualName}
use Rattle.html_tokens.specs.declared.tags.Tag.{Tag}
use Rattle.html_tokens.specs.declared.token.Token.{Token}
use Rattle.html_tokens.specs.declared.token.Token.TheVariants.{TagToken}
use Rattle.html_rules.specs.Actions.{act, restore_mode, save_mode, or_mode, set_mode}
use Rattle.html_rules.specs.Conditions.{context_is, holds, is_nonempty}
use Rattle.html_rules.specs.Names.{Html}
use Rattle.html_rules.specs.Places.{insert_element, insert_element_for}
use Rattle.html_rules.specs.Shape.{one_if}
use Rattle.html_rules.specs.Stack.{open_templates, pop_but_root, without_current_but_root}
use Rattle.html_rules.specs.State.{Open, State, is_in}
use Rattle.html_rules.specs.Table.{Action, Nothing, Then, When, ParseError, InsertElement, InsertVoid, AppendText}
use Rattle.html_rules.specs.Table.{AppendReplacement, AppendComment, AppendCommentToDocument, AppendCommentToRoot}
use Rattle.html_rules.specs.Table.{AddAttributesToRoot, SetQuirks, FramesetNotOk, FramesetNotOkUnlessWhite, IgnoreLineFeed}
use Rattle.html_rules.specs.Table.{DisableFosterParenting, KeepText, SaveMode, SwitchTo}
use Rattle.html_rules.specs.declared.insertion_mode.InsertionMode.{InsertionMode}
use Rattle.html_rules.specs.declared.insertion_mode.InsertionMode.TheVariants as mode
use Rattle.html_rules.specs.declared.tag_set.TagSet.TheVariants as set
use Rattle.html_rules_laws.specs.Nesting.{Loose, Ground, IsNested, fits_nested, fits_parts, fits_under, ground_of, is_document}
use Rattle.html_rules_laws.specs.Nesting.{is_flow, is_loose, part_of, parts}
use Rattle.html_rules_laws.specs.Ready.{are_formatting}
use Rattle.html_rules_laws.specs.Soundness.{Standing, is_plain_action}
use Rattle.html_rules_laws.specs.Upright.{is_first}
use Rattle.html_rules_laws.proofs.Termination.Kinds.{Kind, Starts, StartsBut, Ends, EndsBut, is_of}
use Rattle.html_rules_laws.proofs.Soundness.Acts.{act-aside, tame_in}
use Rattle.html_rules_laws.proofs.Soundness.Moves.{is_text_mode}
use Rattle.html_rules_laws.proofs.Soundness.Rows.{quiet, quiet-same, quiet-tame, raw_text_only}
use Rattle.html_rules_laws.proofs.TreePreserved.StandingTrees.{inserted-Made}
use Rattle.html_rules_laws.proofs.TreePreserved.Acts.{act-eased}
use Rattle.html_rules_laws.proofs.ModesPreserved.Fits.{loose-count, loose-not_root, root-html}
use Rattle.html_rules_laws.proofs.ModesPreserved.Flows.{act-framed}
use Rattle.html_rules_laws.proofs.ModesPreserved.Fluid.{form-kept}
use Rattle.html_rules_laws.proofs.Frames.Framed as framed
use Rattle.html_rules_laws.proofs.Frames.Framed.{IsFramed}
use Rattle.html_rules_laws.proofs.ModesPreserved.Parts.{is_loose_name, name-loose}
use Rattle.html_rules_laws.proofs.ModesPreserved.Resets.{direct-parts}
use Rattle.html_rules_laws.proofs.ModesPreserved.Smooth.{NoGuard, is_tag_kind, kind-loose, loose_kind}
use Rattle.html_rules_laws.proofs.ModesPreserved.Stacks.{pushed-templates}
use Rattle.html_rules_laws.proofs.Bools.{no}
use Rattle.html_rules_laws.proofs.Frames.KeptBySteps.{either-keeps}

-- what is nested but for the stack and the modes that go with it
pub record IsLike (s r : State) : Type 0 where
  pub context : r.context_elem ≡ s.context_elem
  pub modes : r.template_modes ≡ s.template_modes
  pub framed : r.frameset_ok ≡ true → s.frameset_ok ≡ true
  pub form : r.form_elem ≡ s.form_elem
  pub names : (n : ℕ) (name : QualName) → element_name (data_of s.forest n) ≡ Some name → element_name (data_of r.forest n) ≡ Some name

pub like-after : (s r q : State) → IsLike s r → IsLike r q → IsLike s q
like-after s r q h k = record {
  context = k.context ∙ h.context;
  modes = k.modes ∙ h.modes;
  framed = λ e. h.framed (k.framed e);
  form = k.form ∙ h.form;
  names = λ n name e. k.names n name (h.names n name e);
}

-- whether what is open fits a mode
abbrev pub fits_at : State → InsertionMode → Option InsertionMode → List Open → Bool
fits_at s m o xs = fits_parts (ground_of s.context_elem) (context_is set.Template s.context_elem) m o xs

pub like-nested : (s r : State) → IsLike s r → open_templates r.open_elems ≡ open_templates s.open_elems
    → fits_at s r.mode r.orig_mode r.open_elems ≡ true → IsNested s → IsNested r
like-nested s r like same fits h = record {
  fits = rw like.context fits;
  count = ap (λ n. n + one_if (context_is set.Template r.context_elem)) same
      ∙ ap (λ c. open_templates s.open_elems + one_if (context_is set.Template c)) like.context ∙ h.count ∙ ap length (sym like.modes);
  framed = λ e. same ∙ h.framed (like.framed e);
  form = rw like.form (form-kept s.form_elem s.forest r.forest like.names h.form);
}

pub like-act : (kind : Kind) (a : Action) → tame_in kind a ≡ true → is_plain_action a ≡ true → (t : Token)
    → is_of kind t ≡ true → (s : State) → are_formatting s.active_formatting ≡ true → Standing s
    → IsFramed s (act a t s) → IsLike s (act a t s)
like-act kind a tame plain t k s listed standing kept =
    let aside = act-aside kind a tame t s in
    record {
      context = aside.context;
      modes = aside.modes;
      framed = kept.framed;
      form = kept.form;
      names = (act-eased kind a tame plain t k s listed standing).names;
    }

pub like-insert : (name : List ℕ) (attributes : List Attribute) (dup : Bool) (s : State) → Standing s
    → IsLike s (insert_element Html name attributes dup s)
unfolding insert_element
like-insert name attributes dup s standing =
    let made = inserted-Made s.opts.rules s.foster_parenting s.forest Html name attributes dup s.open_elems standing.tree tt standing.opened in
    record { context = refl; modes = refl; framed = λ e. e; form = refl; names = made.stays.names.names }

pub like-pop : (s : State) → IsLike s (pop_but_root s)
unfolding pop_but_root
like-pop s = record { context = refl; modes = refl; framed = λ e. e; form = refl; names = λ n name e. e }

-- actions that leave the stack as it is

pub quiet-framed : (a : Action) → quiet a ≡ true → (t : Token) (s : State) → IsFramed s (act a t s)
quiet-framed (Then a b) h t s = let tests = and_parts (quiet a) (quiet b) h in framed.after s (act a t s) _
    (quiet-framed a tests.0 t s) (quiet-framed b tests.1 t (act a t s))
quiet-framed (When c a) h t s = either-keeps framed.framed_kept (holds c t s) s (act a t s) s (quiet-framed a h t s) (framed.same s)
quiet-framed Nothing h t s = framed.same s
quiet-framed ParseError h t s = act-framed (Starts []) NoGuard Loose ParseError refl t s
quiet-framed InsertVoid h t s = act-framed (Starts []) NoGuard Loose InsertVoid refl t s
quiet-framed AppendText h t s = act-framed (Starts []) NoGuard Loose AppendText refl t s
quiet-framed AppendReplacement h t s = act-framed (Starts []) NoGuard Loose AppendReplacement refl t s
quiet-framed AppendComment h t s = act-framed (Starts []) NoGuard Loose AppendComment refl t s
quiet-framed AppendCommentToDocument h t s = act-framed (Starts []) NoGuard Loose AppendCommentToDocument refl t s
quiet-framed AppendCommentToRoot h t s = act-framed (Starts []) NoGuard Loose AppendCommentToRoot refl t s
quiet-framed AddAttributesToRoot h t s = act-framed (Starts []) NoGuard Loose AddAttributesToRoot refl t s
quiet-framed SetQuirks h t s = act-framed (Starts []) NoGuard Loose SetQuirks refl t s
quiet-framed FramesetNotOk h t s = act-framed (Starts []) NoGuard Loose FramesetNotOk refl t s
quiet-framed FramesetNotOkUnlessWhite h t s = act-framed (Starts []) NoGuard Loose FramesetNotOkUnlessWhite refl t s
quiet-framed IgnoreLineFeed h t s = act-framed (Starts []) NoGuard Loose IgnoreLineFeed refl t s
quiet-framed DisableFosterParenting h t s = act-framed (Starts []) NoGuard Loose DisableFosterParenting refl t s
quiet-framed KeepText h t s = act-framed (Starts []) NoGuard Loose KeepText refl t s
quiet-framed a h t s = no h

abbrev pub calm : Action → Bool
calm a = quiet a && is_plain_action a

pub calm-like : (a : Action) → calm a ≡ true → (kind : Kind) (t : Token) → is_of kind t ≡ true → (s : State)
    → are_formatting s.active_formatting ≡ true → Standing s → IsLike s (act a t s)
calm-like a h kind t k s listed standing = let tests = and_parts (quiet a) (is_plain_action a) h in
    like-act kind a (quiet-tame kind a tests.0) tests.1 t k s listed standing (quiet-framed a tests.0 t s)

pub calm-nested : (a : Action) → calm a ≡ true → (kind : Kind) (t : Token) → is_of kind t ≡ true → (s : State)
    → are_formatting s.active_formatting ≡ true → Standing s → IsNested s → IsNested (act a t s)
calm-nested a h kind t k s listed standing n =
    let tests = and_parts (quiet a) (is_plain_action a) h in
    let aside = act-aside kind a (quiet-tame kind a tests.0) t s in
    let same = quiet-same a tests.0 t s in
    like-nested s (act a t s) (calm-like a h kind t k s listed standing) (ap open_templates same)
    (rw (aside.mode, aside.original, same) n.fits) n

pub calm-mode : (kind : Kind) (a : Action) → calm a ≡ true → (t : Token) (s : State) → (act a t s).mode ≡ s.mode
calm-mode kind a h t s = (act-aside kind a (quiet-tame kind a (and_parts (quiet a) _ h).0) t s).mode

-- modes that are none of text

pub parts-direct : (m : InsertionMode) → is_text_mode m ≡ false → (g : Ground) (template : Bool)
    (o : Option InsertionMode) (xs : List Open) → fits_parts g template m o xs ≡ true → fits_nested g template m xs ≡ true
parts-direct mode.Text e g template o xs h = no (sym e)
parts-direct mode.InTableText e g template o xs h = no (sym e)
parts-direct m e g template o xs h = h

-- something is open after the root

pub direct-nonempty : (m : InsertionMode) → is_first m ≡ false → (g : Ground) (template : Bool) (xs : List Open)
    → fits_nested g template m xs ≡ true → is_nonempty xs ≡ true
direct-nonempty m e g template (x ∷ xs) h = refl
direct-nonempty m e g template [] h = by m e h where
  by : (m : InsertionMode) → is_first m ≡ false → fits_nested g template m [] ≡ true → false ≡ true
  by mode.Initial e h = sym e
  by mode.BeforeHtml e h = sym e
  by mode.BeforeHead e h = (and_parts (is_document g) _ h).1
  by mode.AfterHead e h = (and_parts (is_document g) _ h).1
  by mode.InFrameset e h = (and_parts (not (is_flow g)) _ h).1
  by mode.AfterFrameset e h = (and_parts (not (is_flow g)) _ h).1
  by mode.AfterAfterFrameset e h = (and_parts (not (is_flow g)) _ h).1
  by m e h = h

-- text of an element comes

pub text-nested : (tag : Tag) → is_loose_name tag.name parts ≡ true → (s : State) → is_first s.mode ≡ false
    → is_text_mode s.mode ≡ false → Standing s → IsNested s → IsNested (set_mode mode.Text (save_mode (insert_element_for tag s)))
unfolding set_mode save_mode insert_element
text-nested tag l s f e standing h =
    let x : Open = record { number = node_count s.forest; namespace = Html; name = tag.name; rules = s.opts.rules } in
    let loose = name-loose tag.name l (node_count s.forest) s.opts.rules in
    let like = like-insert tag.name tag.attrs tag.had_duplicate_attributes s standing in
    let fits = parts-direct s.mode e (ground_of s.context_elem) (context_is set.Template s.context_elem) s.orig_mode s.open_elems h.fits in
    let some = direct-nonempty s.mode f (ground_of s.context_elem) (context_is set.Template s.context_elem) s.open_elems fits in
    like-nested s (set_mode mode.Text (save_mode (insert_element_for tag s)))
    (record { context = like.context; modes = like.modes; framed = like.framed; form = like.form; names = like.names })
    (pushed-templates x s.open_elems loose) (rw (loose, some) fits) h

abbrev pub raw_row : Kind → Action → Bool
raw_row kind a = raw_text_only a && (is_tag_kind kind && loose_kind kind)

pub raw-nested : (kind : Kind) (a : Action) → raw_row kind a ≡ true → (t : Token) → is_of kind t ≡ true
    → (s : State) → is_first s.mode ≡ false → is_text_mode s.mode ≡ false → Standing s → IsNested s → IsNested (act a t s)
raw-nested kind a h t k s f e standing n =
    let one = and_parts (raw_text_only a) _ h in
    let two = and_parts (is_tag_kind kind) (loose_kind kind) one.1 in
    by a kind t one.0 two.0 two.1 k
  where
    by : (a : Action) (kind : Kind) (t : Token) → raw_text_only a ≡ true → is_tag_kind kind ≡ true
        → loose_kind kind ≡ true → is_of kind t ≡ true → IsNested (act a t s)
    by (Then InsertElement (Then SaveMode (SwitchTo mode.Text))) kind (TagToken tag) r g l k =
        text-nested tag (kind-loose kind tag l k) s f e standing n
    by (Then InsertElement (Then SaveMode (SwitchTo mode.Text))) (Starts names) t r g l k = no k
    by (Then InsertElement (Then SaveMode (SwitchTo mode.Text))) (Ends names) t r g l k = no k
    by (Then InsertElement (Then SaveMode (SwitchTo mode.Text))) (StartsBut names) t r g l k = no k
    by (Then InsertElement (Then SaveMode (SwitchTo mode.Text))) (EndsBut names) t r g l k = no k
    by (Then InsertElement (Then SaveMode (SwitchTo mode.Text))) kind t r g l k = no g
    by (Then InsertElement b) kind t r g l k = no r
    by a kind t r g l k = no r

-- and is over

not-root : (x : Open) → is_loose (part_of x) ≡ true → is_in set.Html x ≡ false
not-root x l = root-html x ∙ loose-not_root (part_of x) l

under-fits : (g : Ground) (template : Bool) (o : Option InsertionMode) (m : InsertionMode) (xs : List Open)
    → fits_under g template o xs ≡ true
    → (fits_parts g template (or_mode o m) None (without_current_but_root xs) ≡ true)
    × (open_templates (without_current_but_root xs) ≡ open_templates xs)
under-fits g template None m xs h = no h
under-fits g template (Some original) m [] h = no h
under-fits g template (Some original) m (x ∷ xs) h =
    let one = and_parts (is_loose (part_of x)) _ h in
    let two = and_parts (is_nonempty xs) _ one.1 in
    rw (not-root x one.0) (direct-parts g template original None xs two.1, sym (loose-count x xs one.0))

pub over-nested : (s : State) → s.mode ≡ mode.Text → IsNested s → IsNested (restore_mode (pop_but_root s))
unfolding restore_mode pop_but_root
over-nested s at h =
    let was : fits_under (ground_of s.context_elem) (context_is set.Template s.context_elem) s.orig_mode
    s.open_elems ≡ true = rw at at h.fits in
    let left = under-fits (ground_of s.context_elem) (context_is set.Template s.context_elem) s.orig_mode s.mode s.open_elems was in
    like-nested s (restore_mode (pop_but_root s)) (record {
      context = refl;
      modes = refl;
      framed = λ e. e;
      form = refl;
      names = λ n name e. e;
    }) left.1 left.0 h
