-- The mode "text" comes with the reply that raw text follows, and with no other.
use Rattle.std.proofs.Common.{◌≡◌, ◌∙◌, ℕ, zero, suc, Bool, true, false, List, [], ◌∷◌, Option, Some, None, refl, ap, inl, inr, ◌⊎◌}
use Rattle.std.specs.Prelude.{◌||◌, ◌&&◌, not}
use Rattle.std.proofs.lemmas.Bool.{and_parts}
use Rattle.html_tokens.specs.Sink.{Reply}
use Rattle.html_tokens.specs.declared.replies.TokenSinkResult.TheVariants.{RawData}
use Rattle.html_tokens.specs.declared.token.Token.{Token}
use Rattle.html_rules.specs.Actions.{act, restore_mode, save_mode, or_mode, pop_template_mode, push_head_elem}
use Rattle.html_rules.specs.Actions.{push_template_mode, set_head_elem, set_mode, set_template_mode}
use Rattle.html_rules.specs.Choice.{choose}
use Rattle.html_rules.specs.Conditions.{holds}
use Rattle.html_rules.specs.ForeignContent.{foreign_start, is_foreign}
use Rattle.html_rules.specs.Modes.Foreign.{in_foreign_content}
use Rattle.html_rules.specs.Names.{Html}
use Rattle.html_rules.specs.Places.{create_root}
use Rattle.html_rules.specs.Reset.{mode_of_html, mode_of_open, reset_insertion_mode}
use Rattle.html_rules.specs.Rules.{Ending, Finished, Again, Replied, Settled, Turn, check_acknowledged, concluded, first_fit}
use Rattle.html_rules.specs.Rules.{fits, four_for_each, is_self_closing, most_modes, rows, settle, settled_by, turn}
use Rattle.html_rules.specs.Rules.{turn_by_row, using_rules_for, within}
use Rattle.html_rules.specs.Sets.{names_of}
use Rattle.html_rules.specs.Stack.{parse_error}
use Rattle.html_rules.specs.State.{Open, State, adjusted_current_node, current_number}
use Rattle.html_rules.specs.Table.{Row, Action, Then, When, InsertNew, CreateRoot, CreateNewRoot, InsertTemplate, SetHeadElem}
use Rattle.html_rules.specs.Table.{PushHeadElem, SwitchTo, SaveMode, RestoreMode, ResetMode, PushTemplateMode, SetTemplateMode}
use Rattle.html_rules.specs.Table.{PopTemplateMode, InsertForeign, Conclusion, Done, Acknowledged, Reprocess}
use Rattle.html_rules.specs.Table.{ReprocessInOriginal, ReprocessInMode, Using, UsingThen, UsingCurrentMode, RawText, PlainText}
use Rattle.html_rules.specs.Table.{RunScript, ReportEncoding}
use Rattle.html_rules.specs.Templates.{insert_template}
use Rattle.html_rules.specs.declared.insertion_mode.InsertionMode.{InsertionMode}
use Rattle.html_rules.specs.declared.insertion_mode.InsertionMode.TheVariants as mode
use Rattle.html_rules.specs.declared.tag_set.TagSet.TheVariants as set
use Rattle.html_rules_laws.specs.Settled.{are_template_modes, is_template_mode}
use Rattle.html_rules_laws.proofs.Frames.Aside.{IsAside, aside_kept, first-modes}
use Rattle.html_rules_laws.proofs.FirstFit.{by_fit}
use Rattle.html_rules_laws.proofs.Termination.Kinds.{Texts}
use Rattle.html_rules_laws.proofs.Soundness.Acts.{act-aside, tame_in}
use Rattle.html_rules_laws.proofs.Bools.{no, not_true, or_by}
use Rattle.html_rules_laws.proofs.Frames.KeptBySteps.{for_tag-keeps, foreign-keeps, push_head-keeps, template-keeps}
use Rattle.html_rules_laws.proofs.ResetModes.{context-passes, is_asked, open-passes}
use Rattle.html_rules_laws.proofs.EachMode.{each-mode}

abbrev pub is_text : InsertionMode → Bool
is_text mode.Text = true
is_text m = false

abbrev pub is_text_original : Option InsertionMode → Bool
is_text_original None = false
is_text_original (Some m) = is_text m

-- no text of an element is read, nor will one be without a row that says so
pub record Outside (s : State) : Type 0 where
  pub mode : is_text s.mode ≡ false
  pub original : is_text_original s.orig_mode ≡ false
  pub modes : are_template_modes s.template_modes ≡ true

pub aside-outside : (s r : State) → IsAside s r → Outside s → Outside r
aside-outside s r aside h = record {
  mode = ap is_text aside.mode ∙ h.mode;
  original = ap is_text_original aside.original ∙ h.original;
  modes = rw aside.modes h.modes;
}

-- the mode that is reset

asked-out : (m : InsertionMode) → is_asked m ≡ true → is_text m ≡ false
asked-out mode.Text h = no h
asked-out m h = refl

html-out : (o : Option ℕ) → is_text (mode_of_html o) ≡ false
html-out None = refl
html-out (Some n) = refl

open-out : (s : State) (xs : List Open) → are_template_modes s.template_modes ≡ true → is_text (mode_of_open s xs) ≡ false
open-out s xs h =
    let P : InsertionMode → Type 0 = λ m. is_text m ≡ false in
    open-passes P asked-out s xs h refl (context-passes P asked-out s s.context_elem h (html-out s.head_elem))

-- actions that do not switch to it

abbrev out_in : Action → Bool
out_in (Then a b) = out_in a && out_in b
out_in (When c a) = out_in a
out_in (SwitchTo m) = not (is_text m)
out_in SaveMode = true
out_in RestoreMode = true
out_in ResetMode = true
out_in PopTemplateMode = true
out_in (PushTemplateMode m) = is_template_mode m
out_in (SetTemplateMode m) = is_template_mode m
out_in (InsertNew name) = true
out_in CreateRoot = true
out_in CreateNewRoot = true
out_in InsertTemplate = true
out_in SetHeadElem = true
out_in PushHeadElem = true
out_in InsertForeign = true
out_in a = tame_in Texts a

or-out : (o : Option InsertionMode) (m : InsertionMode) → is_text_original o ≡ false → is_text m ≡ false → is_text (or_mode o m) ≡ false
or-out None m h k = k
or-out (Some original) m h k = h

either-out : (b : Bool) (x y : State) → Outside x → Outside y → Outside (choose b (λ _. x) (λ _. y))
either-out true x y h k = h
either-out false x y h k = k

pub moved-out : (m : InsertionMode) → is_text m ≡ false → (s : State) → Outside s → Outside (set_mode m s)
unfolding set_mode
moved-out m k s h = record { mode = k; original = h.original; modes = h.modes }

pub back-out : (s : State) → is_text s.mode ≡ false → is_text_original s.orig_mode ≡ false
    → are_template_modes s.template_modes ≡ true → Outside (restore_mode s)
unfolding restore_mode
back-out s k o m = record { mode = or-out s.orig_mode s.mode o k; original = refl; modes = m }

pub reset-out : (s : State) → is_text_original s.orig_mode ≡ false → are_template_modes s.template_modes ≡ true
    → Outside (reset_insertion_mode s)
unfolding reset_insertion_mode
reset-out s o m = record { mode = open-out s s.open_elems m; original = o; modes = m }

act-out : (a : Action) → out_in a ≡ true → (t : Token) (s : State) → Outside s → Outside (act a t s)
unfolding save_mode pop_template_mode push_template_mode set_template_mode create_root set_head_elem push_head_elem foreign_start
act-out (Then a b) p t s h = let tests = and_parts (out_in a) (out_in b) p in act-out b tests.1 t (act a t s) (act-out a tests.0 t s h)
act-out (When c a) p t s h = either-out (holds c t s) (act a t s) s (act-out a p t s h) h
act-out (SwitchTo m) p t s h = moved-out m (not_true _ p) s h
act-out SaveMode p t s h = record { mode = h.mode; original = h.mode; modes = h.modes }
act-out RestoreMode p t s h = back-out s h.mode h.original h.modes
act-out ResetMode p t s h = reset-out s h.original h.modes
act-out PopTemplateMode p t s h = record { mode = h.mode; original = h.original; modes = first-modes s.template_modes h.modes }
act-out (PushTemplateMode m) p t s h = record { mode = h.mode; original = h.original; modes = rw p h.modes }
act-out (SetTemplateMode m) p t s h = record { mode = h.mode; original = h.original; modes = rw p (first-modes s.template_modes h.modes) }
act-out (InsertNew name) p t s h = aside-outside s _ (aside_kept.inserts Html name [] false s) h
act-out CreateRoot p t s h = record { mode = h.mode; original = h.original; modes = h.modes }
act-out CreateNewRoot p t s h = record { mode = h.mode; original = h.original; modes = h.modes }
act-out InsertTemplate p t s h = aside-outside s _ (for_tag-keeps aside_kept insert_template t (template-keeps aside_kept) s) h
act-out SetHeadElem p t s h = record { mode = h.mode; original = h.original; modes = h.modes }
act-out PushHeadElem p t s h = aside-outside s _ (push_head-keeps aside_kept s.head_elem s) h
act-out InsertForeign p t s h = aside-outside s _
    (for_tag-keeps aside_kept foreign_start t (λ tag s. foreign-keeps aside_kept (adjusted_current_node s) tag s) s) h
act-out a p t s h = aside-outside s _ (act-aside Texts a p t s) h

-- actions that do, last of all

abbrev to_text : Action → Bool
to_text (Then a b) = out_in a && to_text b
to_text (SwitchTo mode.Text) = true
to_text a = false

text-set : (s : State) → (set_mode mode.Text s).mode ≡ mode.Text
unfolding set_mode
text-set s = refl

act-text : (a : Action) → to_text a ≡ true → (t : Token) (s : State) → (act a t s).mode ≡ mode.Text
act-text (Then a b) p t s = act-text b (and_parts (out_in a) (to_text b) p).1 t (act a t s)
act-text (SwitchTo mode.Text) p t s = text-set s
act-text a p t s = no p

-- rows

abbrev ends_out : Conclusion → Bool
ends_out (Reprocess m) = not (is_text m)
ends_out (UsingThen m after) = tame_in Texts after
ends_out e = true

abbrev is_raw : Conclusion → Bool
is_raw (RawText kind) = true
is_raw e = false

abbrev row_out : Row → Bool
row_out r = (out_in r.does && ends_out r.ends) || (to_text r.does && is_raw r.ends)

abbrev all_out : List Row → Bool
all_out [] = true
all_out (r ∷ rs) = row_out r && all_out rs

modes-out : (m : InsertionMode) → all_out (rows m) ≡ true
unfolding rows names_of
modes-out = each-mode (λ m. all_out (rows m)) refl

-- what a turn ends with where raw text follows

abbrev pub IsRaw : Reply → Type 0
IsRaw (RawData kind) = Unit {0}
IsRaw r = ⊥

abbrev pub IsRawEnd : Ending → Type 0
IsRawEnd (Finished acknowledged) = ⊥
IsRawEnd Again = ⊥
IsRawEnd (Replied r) = IsRaw r

IsOut : Turn → Type 0
IsOut made = Outside made.state ⊎ ((made.state.mode ≡ mode.Text) × IsRawEnd made.ends)

concluded-out : (using : InsertionMode → Token → State → Turn) (t : Token)
    → ((m : InsertionMode) (s : State) → Outside s → IsOut (using m t s)) → (e : Conclusion) → ends_out e ≡ true
    → (script : ℕ) (s : State) → Outside s → IsOut (concluded using e t script s)
unfolding IsOut
concluded-out using t go Done h script s o = inl o
concluded-out using t go Acknowledged h script s o = inl o
concluded-out using t go (Reprocess m) h script s o = inl (moved-out m (not_true _ h) s o)
concluded-out using t go ReprocessInOriginal h script s o = inl (back-out s o.mode o.original o.modes)
concluded-out using t go ReprocessInMode h script s o = inl o
concluded-out using t go (Using m) h script s o = go m s o
concluded-out using t go (UsingThen m after) h script s o =
    let made : Turn = using m t s in
    let aside = act-aside Texts after h t made.state in
    elim (go m s o) [
      | inl out ↦ inl (aside-outside made.state (act after t made.state) aside out)
      | inr raw ↦
          inr (aside.mode ∙ raw.0, raw.1)
    ]
concluded-out using t go UsingCurrentMode h script s o = go s.mode s o
concluded-out using t go (RawText kind) h script s o = inl o
concluded-out using t go PlainText h script s o = inl o
concluded-out using t go RunScript h script s o = inl o
concluded-out using t go ReportEncoding h script s o = inl o

raw-out : (using : InsertionMode → Token → State → Turn) (t : Token) (a : Action) (e : Conclusion)
    → to_text a ≡ true → is_raw e ≡ true → (script : ℕ) (s : State) → IsOut (concluded using e t script (act a t s))
unfolding IsOut
raw-out using t a (RawText kind) h r script s = inr (act-text a h t s, tt)
raw-out using t a e h r script s = no r

row-out : (using : InsertionMode → Token → State → Turn) (t : Token)
    → ((m : InsertionMode) (s : State) → Outside s → IsOut (using m t s)) → (r : Row) → row_out r ≡ true
    → (s : State) → Outside s → IsOut (turn_by_row using r t s)
row-out using t go r h s o =
    or_by (out_in r.does && ends_out r.ends) _ h
    (λ k. let tests = and_parts (out_in r.does) (ends_out r.ends) k in concluded-out using t go r.ends tests.1
    (current_number s.open_elems) (act r.does t s) (act-out r.does tests.0 t s o))
    (λ k. let tests = and_parts (to_text r.does) (is_raw r.ends) k in raw-out using t r.does r.ends tests.0 tests.1
    (current_number s.open_elems) s)

first-out : (using : InsertionMode → Token → State → Turn) (t : Token)
    → ((m : InsertionMode) (s : State) → Outside s → IsOut (using m t s)) → (rs : List Row) → all_out rs ≡ true
    → (s : State) → Outside s → IsOut (turn_by_row using (first_fit rs t s) t s)
unfolding IsOut
first-out using t go [] h s o = inl o
first-out using t go (r ∷ rs) h s o =
    let tests = and_parts (row_out r) (all_out rs) h in
    by_fit (λ r. IsOut (turn_by_row using r t s)) r (first_fit rs t s) (fits r t s)
    (λ fit. row-out using t go r tests.0 s o) (first-out using t go rs tests.1 s o)

using-out : (n : ℕ) (t : Token) (m : InsertionMode) (s : State) → Outside s → IsOut (using_rules_for n m t s)
unfolding using_rules_for IsOut
using-out zero t m s o = inl o
using-out (suc n) t m s o = first-out (using_rules_for n) t (using-out n t) (rows m) (modes-out m) s o

foreign-out : all_out in_foreign_content ≡ true
unfolding names_of
foreign-out = refl

either-turn : (b : Bool) (x y : Turn) → IsOut x → IsOut y → IsOut (choose b (λ _. x) (λ _. y))
either-turn true x y h k = h
either-turn false x y h k = k

turn-out : (t : Token) (s : State) → Outside s → IsOut (turn t s)
unfolding turn
turn-out t s o = either-turn (is_foreign s t) _ _
    (first-out (using_rules_for most_modes) t (using-out most_modes t) in_foreign_content foreign-out s o)
    (using-out most_modes t s.mode s o)

-- a token

abbrev pub IsOutside : Settled → Type 0
IsOutside settled = Outside settled.state ⊎ ((settled.state.mode ≡ mode.Text) × IsRaw settled.reply)

pub error-out : (s : State) → Outside s → Outside (parse_error s)
error-out s o = aside-outside s (parse_error s) (aside_kept.errs s) o

pub check-out : (acknowledged : Bool) (t : Token) (s : State) → Outside s → Outside (check_acknowledged acknowledged t s)
check-out true t s o = o
check-out false t s o = either-out (is_self_closing t) (parse_error s) s (error-out s o) o

settled-out : (again : State → Settled) → ((s : State) → Outside s → IsOutside (again s)) → (e : Ending) (t : Token)
    (s : State) → Outside s ⊎ ((s.mode ≡ mode.Text) × IsRawEnd e) → IsOutside (settled_by again e t s)
settled-out again go (Finished acknowledged) t s h = elim h [ inl o ↦ inl (check-out acknowledged t s o) | inr raw ↦ absurd raw.1 ]
settled-out again go Again t s h = elim h [ inl o ↦ go s o | inr raw ↦ absurd raw.1 ]
settled-out again go (Replied r) t s h = h

within-out : (n : ℕ) (beyond : State → Settled) (t : Token) → ((s : State) → Outside s → IsOutside (beyond s))
    → (s : State) → Outside s → IsOutside (within n beyond t s)
unfolding within IsOut
within-out zero beyond t go s o = go s o
within-out (suc n) beyond t go s o = settled-out (within n beyond t) (within-out n beyond t go) (turn t s).ends t
    (turn t s).state (turn-out t s o)

four-out : (xs : List Open) (t : Token) (s : State) → Outside s → IsOutside (four_for_each xs t s)
unfolding four_for_each
four-out [] t s o = inl o
four-out (x ∷ xs) t s o = within-out 4 (four_for_each xs t) t (four-out xs t) s o

pub settle-out : (t : Token) (s : State) → Outside s → IsOutside (settle t s)
unfolding settle
settle-out t s o = within-out 16 (four_for_each s.open_elems t) t (four-out s.open_elems t) s o
