-- The rows of all modes keep a state sound for text.
use Rattle.std.proofs.Common.{◌≡◌, ◌∙◌, Bool, true, false, length, refl}
use Rattle.std.specs.Prelude.{◌||◌, ◌&&◌}
use Rattle.std.proofs.lemmas.Bool.{and_parts}
use Rattle.html_tokens.specs.declared.token.Token.{Token}
use Rattle.html_tokens.specs.declared.token.Token.TheVariants.{TagToken}
use Rattle.html_rules.specs.Actions.{act, for_tag, frameset_not_ok, frameset_not_ok_unless_white, keep_text}
use Rattle.html_rules.specs.Actions.{set_foster_parenting, set_ignore_lf, set_quirks_mode, push_template_mode, set_mode}
use Rattle.html_rules.specs.Actions.{set_template_mode}
use Rattle.html_rules.specs.Choice.{choose}
use Rattle.html_rules.specs.Conditions.{holds}
use Rattle.html_rules.specs.ForeignContent.{is_start_tag}
use Rattle.html_rules.specs.Formatting.{push_marker}
use Rattle.html_rules.specs.Places.{append_comment, append_comment_to_doc, append_comment_to_html, append_text}
use Rattle.html_rules.specs.Places.{insert_and_pop_element_for, put_element}
use Rattle.html_rules.specs.Sets.{names_of}
use Rattle.html_rules.specs.Stack.{add_attributes_to_root, parse_error}
use Rattle.html_rules.specs.State.{State}
use Rattle.html_rules.specs.Table.{Condition, TemplateOpen, Action, Nothing, Then, When, ParseError, InsertElement, InsertVoid}
use Rattle.html_rules.specs.Table.{AppendText, AppendReplacement, AppendComment, AppendCommentToDocument, AppendCommentToRoot}
use Rattle.html_rules.specs.Table.{InsertTemplate, AddAttributesToRoot, PopUntil, Close, ImpliedEndTagsThoroughly, InsertMarker}
use Rattle.html_rules.specs.Table.{ClearToMarker, SwitchTo, SaveMode, ResetMode, PushTemplateMode, SetTemplateMode}
use Rattle.html_rules.specs.Table.{PopTemplateMode, SetQuirks, FramesetNotOk, FramesetNotOkUnlessWhite, IgnoreLineFeed}
use Rattle.html_rules.specs.Table.{DisableFosterParenting, KeepText}
use Rattle.html_rules.specs.Templates.{insert_template}
use Rattle.html_rules.specs.declared.insertion_mode.InsertionMode.{InsertionMode}
use Rattle.html_rules.specs.declared.insertion_mode.InsertionMode.TheVariants as mode
use Rattle.html_rules.specs.declared.tag_set.TagSet.TheVariants as set
use Rattle.html_rules_laws.specs.Held.{HasRoot, Held, wanted}
use Rattle.html_rules_laws.specs.Placing.{stand_well}
use Rattle.html_rules_laws.specs.Settled.{is_template_mode}
use Rattle.html_rules_laws.specs.Sound.{is_later}
use Rattle.html_rules_laws.proofs.Frames.Aside.{aside_kept}
use Rattle.html_rules_laws.proofs.SetFacts.{all_among, among-all}
use Rattle.html_rules_laws.proofs.Termination.Kinds.{Kind, Starts, is_of}
use Rattle.html_rules_laws.proofs.Soundness.Acts.{act-aside, act-tame, plain-of, plain_kind, tame_in}
use Rattle.html_rules_laws.proofs.Soundness.Moves.{is_loose, free-moved, free-later, is_free, is_text_mode, loose-tame}
use Rattle.html_rules_laws.proofs.Soundness.Moves.{opened-held, still-tame, template-topped, template_mode-held, text-held}
use Rattle.html_rules_laws.proofs.Bools.{both, no}
use Rattle.html_rules_laws.proofs.Frames.KeptBySteps.{template-keeps}

-- actions in modes in which any element may come

abbrev pub calm : Kind → Action → Bool
calm kind (Then a b) = calm kind a && calm kind b
calm kind (When c a) = calm kind a
calm kind (SwitchTo m) = is_free m
calm kind (SetTemplateMode m) = is_template_mode m
calm kind a = tame_in kind a

pub record IsCalm (r : State) : Type 0 where
  pub free : is_free r.mode ≡ true
  pub held : Held r

pub free-loose : (m : InsertionMode) → is_free m ≡ true → is_loose m ≡ true
free-loose mode.InTableText h = no h
free-loose m h = h

pub tame-calm : (kind : Kind) (a : Action) → tame_in kind a ≡ true → (t : Token) → is_of kind t ≡ true → (s : State)
    → IsCalm s → IsCalm (act a t s)
tame-calm kind a p t f s is =
    let aside = act-aside kind a p t s in
    record {
      free = rw aside.mode is.free;
      held = loose-tame s (free-loose s.mode is.free) is.held (act a t s)
          (act-tame kind a p t f s is.held.listed) aside;
    }

either-calm : (b : Bool) (x y : State) → IsCalm x → IsCalm y → IsCalm (choose b (λ _. x) (λ _. y))
either-calm true x y h k = h
either-calm false x y h k = k

pub act-calm : (kind : Kind) (a : Action) → calm kind a ≡ true → (t : Token) → is_of kind t ≡ true → (s : State)
    → IsCalm s → IsCalm (act a t s)
unfolding set_mode set_template_mode
act-calm kind (Then a b) p t f s is = let parts = and_parts (calm kind a) (calm kind b) p in
    act-calm kind b parts.1 t f (act a t s) (act-calm kind a parts.0 t f s is)
act-calm kind (When c a) p t f s is = either-calm (holds c t s) (act a t s) s (act-calm kind a p t f s is) is
act-calm kind (SwitchTo m) p t f s is = record { free = p; held = free-moved m s is.free p is.held }
act-calm kind (SetTemplateMode m) p t f s is = record { free = is.free; held = template_mode-held m s p is.held }
act-calm kind a p t f s is = tame-calm kind a p t f s is

-- actions that leave the stack as it is

abbrev pub quiet : Action → Bool
quiet (Then a b) = quiet a && quiet b
quiet (When c a) = quiet a
quiet Nothing = true
quiet ParseError = true
quiet InsertVoid = true
quiet AppendText = true
quiet AppendReplacement = true
quiet AppendComment = true
quiet AppendCommentToDocument = true
quiet AppendCommentToRoot = true
quiet AddAttributesToRoot = true
quiet SetQuirks = true
quiet FramesetNotOk = true
quiet FramesetNotOkUnlessWhite = true
quiet IgnoreLineFeed = true
quiet DisableFosterParenting = true
quiet KeepText = true
quiet a = false

pub quiet-tame : (kind : Kind) (a : Action) → quiet a ≡ true → tame_in kind a ≡ true
quiet-tame kind (Then a b) h = let parts = and_parts (quiet a) (quiet b) h in both _ _ (quiet-tame kind a parts.0)
    (quiet-tame kind b parts.1)
quiet-tame kind (When c a) h = quiet-tame kind a h
quiet-tame kind Nothing h = refl
quiet-tame kind ParseError h = refl
quiet-tame kind InsertVoid h = refl
quiet-tame kind AppendText h = refl
quiet-tame kind AppendReplacement h = refl
quiet-tame kind AppendComment h = refl
quiet-tame kind AppendCommentToDocument h = refl
quiet-tame kind AppendCommentToRoot h = refl
quiet-tame kind AddAttributesToRoot h = refl
quiet-tame kind SetQuirks h = refl
quiet-tame kind FramesetNotOk h = refl
quiet-tame kind FramesetNotOkUnlessWhite h = refl
quiet-tame kind IgnoreLineFeed h = refl
quiet-tame kind DisableFosterParenting h = refl
quiet-tame kind KeepText h = refl
quiet-tame kind a h = no h

either-same : (b : Bool) (x y s : State) → x.open_elems ≡ s.open_elems → y.open_elems ≡ s.open_elems
    → (choose b (λ _. x) (λ _. y)).open_elems ≡ s.open_elems
either-same true x y s h k = h
either-same false x y s h k = k

pub void-same : (t : Token) (s : State) → (for_tag insert_and_pop_element_for t s).open_elems ≡ s.open_elems
unfolding put_element
void-same (TagToken tag) s = refl
void-same t s = refl

pub quiet-same : (a : Action) → quiet a ≡ true → (t : Token) (s : State) → (act a t s).open_elems ≡ s.open_elems
unfolding parse_error append_text append_comment append_comment_to_doc append_comment_to_html add_attributes_to_root
    set_quirks_mode frameset_not_ok frameset_not_ok_unless_white set_ignore_lf set_foster_parenting keep_text
quiet-same (Then a b) h t s = let parts = and_parts (quiet a) (quiet b) h in quiet-same b parts.1 t (act a t s) ∙ quiet-same a parts.0 t s
quiet-same (When c a) h t s = either-same (holds c t s) (act a t s) s s (quiet-same a h t s) refl
quiet-same Nothing h t s = refl
quiet-same ParseError h t s = refl
quiet-same InsertVoid h t s = void-same t s
quiet-same AppendText h t s = refl
quiet-same AppendReplacement h t s = refl
quiet-same AppendComment h t s = refl
quiet-same AppendCommentToDocument h t s = refl
quiet-same AppendCommentToRoot h t s = refl
quiet-same AddAttributesToRoot h t s = refl
quiet-same SetQuirks h t s = refl
quiet-same FramesetNotOk h t s = refl
quiet-same FramesetNotOkUnlessWhite h t s = refl
quiet-same IgnoreLineFeed h t s = refl
quiet-same DisableFosterParenting h t s = refl
quiet-same KeepText h t s = refl
quiet-same a h t s = no h

pub quiet-held : (kind : Kind) (a : Action) → quiet a ≡ true → (t : Token) → is_of kind t ≡ true → (s : State) → Held s → Held (act a t s)
quiet-held kind a h t f s is =
    let p = quiet-tame kind a h in
    still-tame s (act a t s) is (quiet-same a h t s) (act-tame kind a p t f s is.listed).listed (act-aside kind a p t s)

pub quiet-mode : (kind : Kind) (a : Action) → quiet a ≡ true → (t : Token) (s : State) → (act a t s).mode ≡ s.mode
quiet-mode kind a h t s = (act-aside kind a (quiet-tame kind a h) t s).mode

-- text of an element

abbrev pub starts_plain : Kind → Bool
starts_plain (Starts names) = plain_kind (Starts names)
starts_plain kind = false

abbrev pub is_insert : Action → Bool
is_insert InsertElement = true
is_insert a = false

abbrev pub is_to_text : Action → Bool
is_to_text (Then SaveMode (SwitchTo mode.Text)) = true
is_to_text a = false

abbrev pub raw_text : Kind → Action → Bool
raw_text kind (Then a b) = (is_insert a && is_to_text b) || (tame_in kind a && raw_text kind b)
raw_text kind a = false

abbrev pub raw_text_only : Action → Bool
raw_text_only (Then a b) = is_insert a && is_to_text b
raw_text_only a = false

inserted-text : (kind : Kind) (a b : Action) → is_insert a ≡ true → is_to_text b ≡ true → starts_plain kind ≡ true
    → (t : Token) → is_of kind t ≡ true → (s : State) → is_text_mode s.mode ≡ false → is_later s.mode ≡ true
    → Held s → Held (act b t (act a t s))
inserted-text (Starts names) InsertElement (Then SaveMode (SwitchTo mode.Text)) i k p (TagToken tag) f s text later
    h = text-held s tag (plain-of (Starts names) tag p f) text later h
inserted-text (Starts names) InsertElement (Then SaveMode (SwitchTo mode.Text)) i k p t f s text later h = no f
inserted-text kind InsertElement (Then SaveMode (SwitchTo mode.Text)) i k p t f s text later h = no p
inserted-text kind InsertElement b i k p t f s text later h = no k
inserted-text kind a b i k p t f s text later h = no i

pub free-text : (m : InsertionMode) → is_free m ≡ true → is_text_mode m ≡ false
free-text mode.Text h = no h
free-text mode.InTableText h = no h
free-text m h = refl

pub raw-held : (kind : Kind) (a : Action) → raw_text kind a ≡ true → starts_plain kind ≡ true → (t : Token)
    → is_of kind t ≡ true → (s : State) → IsCalm s → Held (act a t s)
raw-held kind (Then a b) h p t f s is = by (is_insert a && is_to_text b) refl h (raw-held kind b) where
  by : (c : Bool) → (is_insert a && is_to_text b) ≡ c → (c || (tame_in kind a && raw_text kind b)) ≡ true
      → (raw_text kind b ≡ true → starts_plain kind ≡ true → (t : Token) → is_of kind t ≡ true → (s : State)
      → IsCalm s → Held (act b t s)) → Held (act b t (act a t s))
  by true e h go = let parts = and_parts (is_insert a) (is_to_text b) e in inserted-text kind a b parts.0 parts.1 p
      t f s (free-text s.mode is.free) (free-later s.mode is.free) is.held
  by false e h go = let parts = and_parts (tame_in kind a) (raw_text kind b) h in go parts.1 p t f (act a t s)
      (tame-calm kind a parts.0 t f s is)
raw-held kind a h p t f s is = no h

pub raw_only-held : (kind : Kind) (a : Action) → raw_text_only a ≡ true → starts_plain kind ≡ true → (t : Token)
    → is_of kind t ≡ true → (s : State) → is_text_mode s.mode ≡ false → is_later s.mode ≡ true → Held s → Held (act a t s)
raw_only-held kind (Then a b) h p t f s text later is = let parts = and_parts (is_insert a) (is_to_text b) h in
    inserted-text kind a b parts.0 parts.1 p t f s text later is
raw_only-held kind a h p t f s text later is = no h

-- templates

abbrev pub starts_template : Kind → Bool
starts_template (Starts names) = all_among names (names_of set.Template)
starts_template kind = false

abbrev pub opens : Action → Bool
opens (Then InsertMarker (Then FramesetNotOk
    (Then (SwitchTo mode.InTemplate) (Then (PushTemplateMode mode.InTemplate) InsertTemplate)))) = true
opens a = false

-- elements stand well where a template may come
abbrev pub StandsWell : State → Type 0
StandsWell s = wanted s ≡ length s.template_modes → HasRoot s → stand_well s.open_elems ≡ true

pub opens-held : (kind : Kind) (a : Action) → opens a ≡ true → starts_template kind ≡ true → (t : Token)
    → is_of kind t ≡ true → (s : State) → is_later s.mode ≡ true → StandsWell s → Held s → Held (act a t s)
unfolding push_marker frameset_not_ok set_mode push_template_mode
opens-held (Starts names)
    (Then InsertMarker (Then FramesetNotOk
    (Then (SwitchTo mode.InTemplate) (Then (PushTemplateMode mode.InTemplate) InsertTemplate)))) o p (TagToken tag) f s later well h =
    let q : State = push_template_mode mode.InTemplate (set_mode mode.InTemplate (frameset_not_ok (push_marker s))) in
    opened-held s q (insert_template tag q) tag
    (among-all tag.name names (names_of set.Template) p (and_parts (is_start_tag tag.kind) _ f).1) later well h
    refl refl refl refl refl h.listed h.original (template-topped tag q) (template-keeps aside_kept tag q)
opens-held (Starts names)
    (Then InsertMarker (Then FramesetNotOk
    (Then (SwitchTo mode.InTemplate) (Then (PushTemplateMode mode.InTemplate) InsertTemplate)))) o p t f s later well h = no f
opens-held kind (Then InsertMarker
    (Then FramesetNotOk (Then (SwitchTo mode.InTemplate)
    (Then (PushTemplateMode mode.InTemplate) InsertTemplate)))) o p t f s later well h = no p
opens-held kind a o p t f s later well h = no o

abbrev pub closes : Condition → Action → Bool
closes TemplateOpen (Then ImpliedEndTagsThoroughly (Then (Close set.Template) (Then ClearToMarker (Then PopTemplateMode ResetMode)))) = true
closes TemplateOpen (Then ParseError (Then (PopUntil set.Template) (Then ClearToMarker (Then PopTemplateMode ResetMode)))) = true
closes condition a = false
