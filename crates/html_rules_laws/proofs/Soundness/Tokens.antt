-- Every turn keeps a state sound for text.
use Rattle.std.proofs.Common.{◌≡◌, ◌∙◌, ℕ, zero, suc, Bool, true, false, List, [], ◌∷◌, refl, sym, ap, subst, true≢false, codes}
use Rattle.std.specs.Prelude.{◌||◌, ◌&&◌}
use Rattle.std.proofs.lemmas.Bool.{and_parts}
use Rattle.html_tokens.specs.declared.token.Token.{Token}
use Rattle.html_rules.specs.Actions.{act, save_mode, set_mode}
use Rattle.html_rules.specs.Choice.{choose}
use Rattle.html_rules.specs.Conditions.{holds}
use Rattle.html_rules.specs.Modes.Foreign.{in_foreign_content}
use Rattle.html_rules.specs.Rules.{Turn, concluded, rows, turn_by_row, using_rules_for}
use Rattle.html_rules.specs.Sets.{mathml_names_of, names_of, svg_names_of}
use Rattle.html_rules.specs.State.{State, current_number}
use Rattle.html_rules.specs.Table.{Row, Condition, Action, Then, ParseError, SaveMode, PushHeadElem, RemoveHeadElem}
use Rattle.html_rules.specs.Table.{InsertForeign, Conclusion, Done, Acknowledged, Reprocess, ReprocessInOriginal}
use Rattle.html_rules.specs.Table.{ReprocessInMode, Using, UsingThen, UsingCurrentMode, RawText, PlainText, RunScript}
use Rattle.html_rules.specs.Table.{ReportEncoding}
use Rattle.html_rules.specs.declared.insertion_mode.InsertionMode.{InsertionMode}
use Rattle.html_rules.specs.declared.insertion_mode.InsertionMode.TheVariants as mode
use Rattle.html_rules_laws.specs.Held.{Held}
use Rattle.html_rules_laws.specs.Placing.{is_in_head}
use Rattle.html_rules_laws.specs.Sound.{is_later, is_table_mode}
use Rattle.html_rules_laws.proofs.Termination.Kinds.{Kind, Starts, StartsBut, EndsBut, Texts, Nulls, TheEnd, Others, is_of}
use Rattle.html_rules_laws.proofs.Soundness.Acts.{act-aside, tame_in}
use Rattle.html_rules_laws.proofs.Soundness.HeadAgain.{bare-held, head_again-held, head_row}
use Rattle.html_rules_laws.proofs.Soundness.Moves.{free-later, free-moved, free-placed, held-some, is_free, is_text_mode}
use Rattle.html_rules_laws.proofs.Soundness.Rows.{IsCalm, StandsWell, act-calm, calm, closes, opens, opens-held, quiet}
use Rattle.html_rules_laws.proofs.Soundness.Rows.{quiet-held, quiet-mode, raw-held, raw_only-held, raw_text, raw_text_only}
use Rattle.html_rules_laws.proofs.Soundness.Rows.{starts_plain, starts_template, tame-calm}
use Rattle.html_rules_laws.proofs.Soundness.Scan.{scan, scan-holds}
use Rattle.html_rules_laws.proofs.Soundness.Specials.{before_head-held, before_head_ok, before_html-held, before_html_ok}
use Rattle.html_rules_laws.proofs.Soundness.Specials.{calm-well, closes-held, in_head-held, in_head_ok, noscript-ends}
use Rattle.html_rules_laws.proofs.Soundness.Specials.{noscript_ok, resets, resets-held, table_text-ends, table_text_ok}
use Rattle.html_rules_laws.proofs.Soundness.Specials.{text-ends, text_ok}
use Rattle.html_rules_laws.proofs.Bools.{both, no, or_by}
use Rattle.html_rules_laws.proofs.EachMode.{each-mode}

-- what is tested of rows

abbrev quiet_ends : (Kind → InsertionMode → Bool) → InsertionMode → Kind → Conclusion → Bool
quiet_ends uses m kind (Using to) = uses kind to
quiet_ends uses m kind (UsingThen to a) = quiet a && uses kind to
quiet_ends uses m kind UsingCurrentMode = uses kind m
quiet_ends uses m kind (Reprocess to) = false
quiet_ends uses m kind ReprocessInOriginal = false
quiet_ends uses m kind ReprocessInMode = false
quiet_ends uses m kind e = true

abbrev is_keep : Action → Bool
is_keep SaveMode = true
is_keep a = false

abbrev is_table_text : InsertionMode → Bool
is_table_text mode.InTableText = true
is_table_text m = false

abbrev is_after_head : InsertionMode → Bool
is_after_head mode.AfterHead = true
is_after_head m = false

abbrev opens_head : Action → InsertionMode → Action → Bool
opens_head (Then ParseError PushHeadElem) mode.InHead RemoveHeadElem = true
opens_head a m b = false

abbrev head_rows : Kind → Row → Bool
head_rows kind r = head_row kind r.does r.ends

abbrev free_row : (Kind → InsertionMode → Bool) → InsertionMode → Kind → Condition → Action → Conclusion → Bool
free_row uses m kind c a Done = calm kind a || (closes c a || ((opens a && starts_template kind) || resets kind a))
free_row uses m kind c a (Reprocess to) = (calm kind a && is_free to) || (is_keep a && (is_table_mode m && is_table_text to))
free_row uses m kind c a ReprocessInOriginal = false
free_row uses m kind c a ReprocessInMode = closes c a || resets kind a
free_row uses m kind c a (Using to) = tame_in kind a && uses kind to
free_row uses m kind c a (UsingThen to b) = (tame_in kind a && (quiet b && uses kind to))
    || (is_after_head m && (opens_head a to b && scan head_rows kind (rows mode.InHead)))
free_row uses m kind c a UsingCurrentMode = tame_in kind a && uses kind m
free_row uses m kind c a (RawText raw) = raw_text kind a && starts_plain kind
free_row uses m kind c a e = calm kind a

abbrev is_raw : Conclusion → Bool
is_raw (RawText raw) = true
is_raw e = false

abbrev is_done : Conclusion → Bool
is_done Done = true
is_done e = false

abbrev to_html : Conclusion → Bool
to_html (Reprocess mode.BeforeHtml) = true
to_html e = false

abbrev raw_row : Kind → Action → Conclusion → Bool
raw_row kind a e = is_raw e && (raw_text_only a && starts_plain kind)

abbrev template_row : Kind → Condition → Action → Conclusion → Bool
template_row kind c a e = is_done e && (closes c a || (opens a && starts_template kind))

abbrev special_row : InsertionMode → Kind → Condition → Action → Conclusion → Bool
special_row mode.Initial kind c a e = quiet a && to_html e
special_row mode.BeforeHtml kind c a e = before_html_ok a e
special_row mode.BeforeHead kind c a e = before_head_ok kind a e
special_row mode.InHead kind c a e = in_head_ok kind a e || (raw_row kind a e || template_row kind c a e)
special_row mode.InHeadNoscript kind c a e = noscript_ok a e || raw_row kind a e
special_row mode.Text kind c a e = text_ok a e
special_row mode.InTableText kind c a e = table_text_ok a e
special_row m kind c a e = false

abbrev row_sound : (Kind → InsertionMode → Bool) → InsertionMode → Kind → Row → Bool
row_sound uses m kind r =
    (quiet r.does && quiet_ends uses m kind r.ends)
    || choose (is_free m) (λ _. free_row uses m kind r.when r.does r.ends) (λ _. special_row m kind r.when r.does r.ends)

unfoldable pub uses_sound : ℕ → InsertionMode → Kind → InsertionMode → Bool
uses_sound zero m kind to = true
uses_sound (suc n) m kind to = scan (row_sound (uses_sound n m) m) kind (rows to)

abbrev pub is_insert_foreign : Action → Bool
is_insert_foreign InsertForeign = true
is_insert_foreign a = false

abbrev pub foreign_row : (Kind → InsertionMode → Bool) → InsertionMode → Kind → Action → Conclusion → Bool
foreign_row uses m kind a Done = tame_in kind a
foreign_row uses m kind a Acknowledged = tame_in kind a || is_insert_foreign a
foreign_row uses m kind a UsingCurrentMode = tame_in kind a && uses kind m
foreign_row uses m kind a e = false

abbrev pub foreign_sound : (Kind → InsertionMode → Bool) → InsertionMode → Kind → Row → Bool
foreign_sound uses m kind r = foreign_row uses m kind r.does r.ends

unfoldable pub mode_sound : InsertionMode → Kind → Bool
mode_sound m kind = uses_sound 4 m kind m && scan (foreign_sound (uses_sound 4 m) m) kind in_foreign_content

-- the kinds of all tokens

abbrev pub root_names : List (List ℕ)
root_names = codes "html" ∷ []

abbrev pub head_names : List (List ℕ)
head_names = codes "head" ∷ []

abbrev pub template_names : List (List ℕ)
template_names = codes "template" ∷ []

abbrev pub named_apart : List (List ℕ)
named_apart = codes "html" ∷ codes "head" ∷ codes "template" ∷ []

abbrev pub each_kind : (Kind → Bool) → Bool
each_kind p = p (Starts root_names)
    && (p (Starts head_names)
    && (p (Starts template_names) && (p (StartsBut named_apart) && (p (EndsBut []) && (p Texts && (p Nulls && (p TheEnd && p Others)))))))

pub modes_sound : (m : InsertionMode) → each_kind (mode_sound m) ≡ true
unfolding mode_sound uses_sound rows names_of mathml_names_of svg_names_of
modes_sound = each-mode (λ m. each_kind (mode_sound m)) refl

-- rows

abbrev pub Holder : (Kind → InsertionMode → Bool) → (InsertionMode → Token → State → Turn) → InsertionMode → Token → Type 0
Holder uses using m t = (kind : Kind) (to : InsertionMode) → uses kind to ≡ true → is_of kind t ≡ true → (s : State)
    → Held s → s.mode ≡ m → Held (using to t s).state

-- where the head was opened again
abbrev pub HeadCase : (InsertionMode → Token → State → Turn) → Token → Type 0
HeadCase using t = (kind : Kind) → scan head_rows kind (rows mode.InHead) ≡ true → is_of kind t ≡ true → (s : State)
    → IsCalm s → s.mode ≡ mode.AfterHead → Held (act RemoveHeadElem t (using mode.InHead t (act (Then ParseError PushHeadElem) t s)).state)

quiet-ends : (uses : Kind → InsertionMode → Bool) (using : InsertionMode → Token → State → Turn) (m : InsertionMode)
    (t : Token) → Holder uses using m t → (kind : Kind) (a : Action) (e : Conclusion) → quiet a ≡ true
    → quiet_ends uses m kind e ≡ true → is_of kind t ≡ true
    → (s : State) → Held s → s.mode ≡ m → (script : ℕ) → Held (concluded using e t script (act a t s)).state
quiet-ends uses using m t go kind a (Using to) q h f s is e script = go kind to h f (act a t s)
    (quiet-held kind a q t f s is) (quiet-mode kind a q t s ∙ e)
quiet-ends uses using m t go kind a (UsingThen to b) q h f s is e script =
    let parts = and_parts (quiet b) (uses kind to) h in
    quiet-held kind b parts.0 t f _ (go kind to parts.1 f (act a t s) (quiet-held kind a q t f s is) (quiet-mode kind a q t s ∙ e))
quiet-ends uses using m t go kind a UsingCurrentMode q h f s is e script =
    let same : (act a t s).mode ≡ m = quiet-mode kind a q t s ∙ e in
    go kind (act a t s).mode (subst (λ m. uses kind m ≡ true) (sym same) h) f (act a t s) (quiet-held kind a q t f s is) same
quiet-ends uses using m t go kind a (Reprocess to) q h f s is e script = no h
quiet-ends uses using m t go kind a ReprocessInOriginal q h f s is e script = no h
quiet-ends uses using m t go kind a ReprocessInMode q h f s is e script = no h
quiet-ends uses using m t go kind a Done q h f s is e script = quiet-held kind a q t f s is
quiet-ends uses using m t go kind a Acknowledged q h f s is e script = quiet-held kind a q t f s is
quiet-ends uses using m t go kind a (RawText raw) q h f s is e script = quiet-held kind a q t f s is
quiet-ends uses using m t go kind a PlainText q h f s is e script = quiet-held kind a q t f s is
quiet-ends uses using m t go kind a RunScript q h f s is e script = quiet-held kind a q t f s is
quiet-ends uses using m t go kind a ReportEncoding q h f s is e script = quiet-held kind a q t f s is

table-general : (m : InsertionMode) → is_table_mode m ≡ true → is_free m ≡ true
table-general mode.InTable h = refl
table-general mode.InTableBody h = refl
table-general mode.InRow h = refl
table-general m h = no h

keep-held : (a : Action) (to : InsertionMode) → is_keep a ≡ true → is_table_text to ≡ true → (t : Token) (s : State)
    → is_table_mode s.mode ≡ true → Held s → Held (set_mode to (act a t s))
unfolding set_mode save_mode
keep-held SaveMode mode.InTableText k l t s table h =
    let free = table-general s.mode table in
    record {
      listed = h.listed;
      modes = h.modes;
      head = held-some s (free-later s.mode free) h;
      original = free-later s.mode free;
      most = h.most;
      placed = λ e root. both _ _ table (sym (free-placed s.mode free s.orig_mode s.open_elems) ∙ h.placed e (λ _. root refl));
    }
keep-held SaveMode to k l t s table h = no l
keep-held a to k l t s table h = no k

after-head : (m : InsertionMode) → is_after_head m ≡ true → m ≡ mode.AfterHead
after-head mode.AfterHead h = refl
after-head m h = no h

reopened : (using : InsertionMode → Token → State → Turn) (t : Token) → HeadCase using t
    → (kind : Kind) (a : Action) (to : InsertionMode) (b : Action) → opens_head a to b ≡ true → scan head_rows kind
    (rows mode.InHead) ≡ true → is_of kind t ≡ true → (s : State) → IsCalm s → s.mode ≡ mode.AfterHead
    → Held (act b t (using to t (act a t s)).state)
reopened using t again kind (Then ParseError PushHeadElem) mode.InHead RemoveHeadElem o h f s is e = again kind h f s is e
reopened using t again kind a to b o h f s is e = no o

free-ends : (uses : Kind → InsertionMode → Bool) (using : InsertionMode → Token → State → Turn) (m : InsertionMode)
    (t : Token) → Holder uses using m t → HeadCase using t → (kind : Kind) (c : Condition) (a : Action)
    (e : Conclusion) → free_row uses m kind c a e ≡ true → is_of kind t ≡ true
    → (s : State) → holds c t s ≡ true → IsCalm s → s.mode ≡ m → (script : ℕ) → Held (concluded using e t script (act a t s)).state
free-ends uses using m t go again kind c a Done h f s o is e script =
    or_by (calm kind a) _ h (λ k. (act-calm kind a k t f s is).held)
    (λ h. or_by (closes c a) _ h (λ k. closes-held c a k t s o (free-later s.mode is.free) (calm-well s is) is.held)
    (λ h. or_by (opens a && starts_template kind) _ h
    (λ k. let parts = and_parts (opens a) (starts_template kind) k in opens-held kind a parts.0 parts.1 t f s
    (free-later s.mode is.free) (calm-well s is) is.held)
    (λ k. resets-held kind a k t f s is)))
free-ends uses using m t go again kind c a (Reprocess to) h f s o is e script =
    or_by (calm kind a && is_free to) _ h
    (λ k. let parts = and_parts (calm kind a) (is_free to) k in let made = act-calm kind a parts.0 t f s is in
    free-moved to (act a t s) made.free parts.1 made.held)
    (λ k. let parts = and_parts (is_keep a) _ k in let more = and_parts (is_table_mode m) (is_table_text to) parts.1
    in keep-held a to parts.0 more.1 t s (subst (λ m. is_table_mode m ≡ true) (sym e) more.0) is.held)
free-ends uses using m t go again kind c a ReprocessInOriginal h f s o is e script = no h
free-ends uses using m t go again kind c a ReprocessInMode h f s o is e script =
    or_by (closes c a) _ h (λ k. closes-held c a k t s o (free-later s.mode is.free) (calm-well s is) is.held)
    (λ k. resets-held kind a k t f s is)
free-ends uses using m t go again kind c a (Using to) h f s o is e script =
    let parts = and_parts (tame_in kind a) (uses kind to) h in
    go kind to parts.1 f (act a t s) (tame-calm kind a parts.0 t f s is).held ((act-aside kind a parts.0 t s).mode ∙ e)
free-ends uses using m t go again kind c a (UsingThen to b) h f s o is e script =
    or_by (tame_in kind a && (quiet b && uses kind to)) _ h
    (λ k. let parts = and_parts (tame_in kind a) _ k in let more = and_parts (quiet b) (uses kind to) parts.1 in
    quiet-held kind b more.0 t f _ (go kind to more.1 f (act a t s) (tame-calm kind a parts.0 t f s is).held
    ((act-aside kind a parts.0 t s).mode ∙ e)))
    (λ k. let parts = and_parts (is_after_head m) _ k in let more = and_parts (opens_head a to b) _ parts.1 in
    reopened using t again kind a to b more.0 more.1 f s is (e ∙ after-head m parts.0))
free-ends uses using m t go again kind c a UsingCurrentMode h f s o is e script =
    let parts = and_parts (tame_in kind a) (uses kind m) h in
    let same : (act a t s).mode ≡ m = (act-aside kind a parts.0 t s).mode ∙ e in
    go kind (act a t s).mode (subst (λ m. uses kind m ≡ true) (sym same) parts.1) f (act a t s)
    (tame-calm kind a parts.0 t f s is).held same
free-ends uses using m t go again kind c a (RawText raw) h f s o is e script = let parts =
    and_parts (raw_text kind a) (starts_plain kind) h in raw-held kind a parts.0 parts.1 t f s is
free-ends uses using m t go again kind c a Acknowledged h f s o is e script = (act-calm kind a h t f s is).held
free-ends uses using m t go again kind c a PlainText h f s o is e script = (act-calm kind a h t f s is).held
free-ends uses using m t go again kind c a RunScript h f s o is e script = (act-calm kind a h t f s is).held
free-ends uses using m t go again kind c a ReportEncoding h f s o is e script = (act-calm kind a h t f s is).held

-- rows of the other modes

pub initial-held : (s : State) → s.mode ≡ mode.Initial → Held s → Held (set_mode mode.BeforeHtml s)
unfolding set_mode
initial-held s e h = record {
  listed = h.listed;
  modes = h.modes;
  head = rw e at h.head;
  original = h.original;
  most = h.most;
  placed = λ f root. rw e at (h.placed f (λ later. absurd (true≢false (sym later ∙ ap is_later e))));
}

initial-ends : (using : InsertionMode → Token → State → Turn) (kind : Kind) (a : Action) (e : Conclusion)
    → to_html e ≡ true → quiet a ≡ true → (t : Token) → is_of kind t ≡ true → (script : ℕ) (s : State)
    → s.mode ≡ mode.Initial → Held s → Held (concluded using e t script (act a t s)).state
initial-ends using kind a (Reprocess mode.BeforeHtml) h q t f script s at is = initial-held (act a t s)
    (quiet-mode kind a q t s ∙ at) (quiet-held kind a q t f s is)
initial-ends using kind a e h q t f script s at is = no h

raw-ends : (using : InsertionMode → Token → State → Turn) (kind : Kind) (a : Action) (e : Conclusion)
    → raw_row kind a e ≡ true → (t : Token) → is_of kind t ≡ true → (script : ℕ) (s : State)
    → is_text_mode s.mode ≡ false → is_later s.mode ≡ true → Held s → Held (concluded using e t script (act a t s)).state
raw-ends using kind a (RawText raw) h t f script s text later is = let parts = and_parts (raw_text_only a)
    (starts_plain kind) h in raw_only-held kind a parts.0 parts.1 t f s text later is
raw-ends using kind a e h t f script s text later is = no h

template-ends : (using : InsertionMode → Token → State → Turn) (kind : Kind) (c : Condition) (a : Action)
    (e : Conclusion) → template_row kind c a e ≡ true → (t : Token) → is_of kind t ≡ true → (script : ℕ) (s : State)
    → holds c t s ≡ true → is_later s.mode ≡ true → StandsWell s → Held s → Held (concluded using e t script (act a t s)).state
template-ends using kind c a Done h t f script s o later well is =
    or_by (closes c a) _ h (λ k. closes-held c a k t s o later well is)
    (λ k. let parts = and_parts (opens a) (starts_template kind) k in opens-held kind a parts.0 parts.1 t f s later well is)
template-ends using kind c a e h t f script s o later well is = no h

head-well : (s : State) → s.mode ≡ mode.InHead → Held s → StandsWell s
head-well s e h f root = (and_parts (is_in_head s.open_elems) _ (rw e at (h.placed f root))).1

special-ends : (using : InsertionMode → Token → State → Turn) (m : InsertionMode) (kind : Kind) (c : Condition)
    (a : Action) (e : Conclusion) → special_row m kind c a e ≡ true → (t : Token) → is_of kind t ≡ true
    → (s : State) → holds c t s ≡ true → Held s → s.mode ≡ m → (script : ℕ)
    → Held (concluded using e t script (act a t s)).state
special-ends using mode.Initial kind c a e h t f s o is at script = let parts = and_parts (quiet a) (to_html e) h in
    initial-ends using kind a e parts.1 parts.0 t f script s at is
special-ends using mode.BeforeHtml kind c a e h t f s o is at script = before_html-held using a e h t script s at is
special-ends using mode.BeforeHead kind c a e h t f s o is at script = before_head-held using kind a e h t f script s at is
special-ends using mode.InHead kind c a e h t f s o is at script =
    or_by (in_head_ok kind a e) _ h (λ k. in_head-held using kind a e k t f script s at is)
    (λ h. or_by (raw_row kind a e) _ h (λ k. raw-ends using kind a e k t f script s (ap is_text_mode at) (ap is_later at) is)
    (λ k. template-ends using kind c a e k t f script s o (ap is_later at) (head-well s at is) is))
special-ends using mode.InHeadNoscript kind c a e h t f s o is at script =
    or_by (noscript_ok a e) _ h (λ k. noscript-ends using a e k t script s at is)
    (λ k. raw-ends using kind a e k t f script s (ap is_text_mode at) (ap is_later at) is)
special-ends using mode.Text kind c a e h t f s o is at script = text-ends using a e h t script s at is
special-ends using mode.InTableText kind c a e h t f s o is at script = table_text-ends using kind a e h t f script s at is
special-ends using m kind c a e h t f s o is at script = no h

row-held : (uses : Kind → InsertionMode → Bool) (using : InsertionMode → Token → State → Turn) (m : InsertionMode)
    (t : Token) → Holder uses using m t → HeadCase using t → (kind : Kind) (r : Row)
    → row_sound uses m kind r ≡ true → is_of kind t ≡ true → (s : State) → holds r.when t s ≡ true → Held s → s.mode ≡ m
    → Held (turn_by_row using r t s).state
row-held uses using m t go again kind r h f s o is e =
    or_by (quiet r.does && quiet_ends uses m kind r.ends) _ h
    (λ k. let parts = and_parts (quiet r.does) _ k in quiet-ends uses using m t go kind r.does r.ends parts.0
    parts.1 f s is e (current_number s.open_elems))
    (by (is_free m) refl)
  where
    by : (b : Bool) → is_free m ≡ b → choose b (λ _. free_row uses m kind r.when r.does r.ends)
        (λ _. special_row m kind r.when r.does r.ends) ≡ true → Held (turn_by_row using r t s).state
    by true g h = free-ends uses using m t go again kind r.when r.does r.ends h f s o
        (record { free = ap is_free e ∙ g; held = is }) e (current_number s.open_elems)
    by false g h = special-ends using m kind r.when r.does r.ends h t f s o is e (current_number s.open_elems)

head-case : (n : ℕ) (t : Token) → HeadCase (using_rules_for n) t
unfolding using_rules_for
head-case zero t kind h f s is e = bare-held s is kind t f
head-case (suc n) t kind h f s is e =
    let q : State = act (Then ParseError PushHeadElem) t s in
    scan-holds head_rows (λ r. Held (act RemoveHeadElem t (turn_by_row (using_rules_for n) r t q).state)) t q
    (λ inner r k g fits o. head_again-held s is e kind inner r.does r.ends k (using_rules_for n) t f g (current_number q.open_elems))
    (bare-held s is kind t f) (rows mode.InHead) kind h f

pub uses-held : (n : ℕ) (m : InsertionMode) (t : Token) → Holder (uses_sound n m) (using_rules_for n) m t
unfolding uses_sound using_rules_for
uses-held zero m t kind to h f s is e = is
uses-held (suc n) m t kind to h f s is e =
    scan-holds (row_sound (uses_sound n m) m) (λ r. Held (turn_by_row (using_rules_for n) r t s).state) t s
    (λ inner r k g fits o. row-held (uses_sound n m) (using_rules_for n) m t (uses-held n m t) (head-case n t) inner r k g s o is e)
    is (rows to) kind h f
