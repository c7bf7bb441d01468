-- A run of text is taken at once as it is taken character by character.
use Rattle.std.proofs.Common.{◌≡◌, ◌∙◌, ℕ, Bool, true, false, List, [], ◌∷◌, ◌++◌, append_assoc, Option, Some, None, refl, sym}
use Rattle.std.proofs.Common.{ap, subst, inl, inr, ◌⊎◌}
use Rattle.std.specs.Prelude.{◌&&◌, ◌||◌, not, is_some}
use Rattle.std.proofs.lemmas.Bool.{eq-eqb}
use Rattle.markup.specs.Forest.{Forest, IsPlace, Place, node_count, put_text}
use Rattle.markup.proofs.TextPieces.{put_text-append}
use Rattle.html_tokens.specs.declared.tags.Tag.{Tag}
use Rattle.html_tokens.specs.declared.token.Token.{Token}
use Rattle.html_tokens.specs.declared.token.Token.TheVariants.{CharacterTokens}
use Rattle.html_rules.specs.Actions.{act, append_in_body, frameset_not_ok_unless_white, keep_text}
use Rattle.html_rules.specs.Choice.{choose}
use Rattle.html_rules.specs.Encodings.{is_space}
use Rattle.html_rules.specs.ForeignContent.{is_foreign, is_foreign_at, is_html_element}
use Rattle.html_rules.specs.Formatting.{list_current, reconstruct_active_formatting_elements, reopen}
use Rattle.html_rules.specs.Names.{Html}
use Rattle.html_rules.specs.Places.{append_text, insert_element, insert_element_for, place_for}
use Rattle.html_rules.specs.Rules.{Finished, Settled, four_for_each, most_modes, rows, settle, settled_by, turn, turn_of}
use Rattle.html_rules.specs.Rules.{using_rules_for, within}
use Rattle.html_rules.specs.Stack.{is_open}
use Rattle.html_rules.specs.State.{Open, Entry, Element, Marker, State, adjusted_by, adjusted_current_node, current_node, is_in}
use Rattle.html_rules.specs.Step.{followed_by, text_taken}
use Rattle.html_rules.specs.Table.{Reconstruct}
use Rattle.html_rules.specs.Tokens.{is_white}
use Rattle.html_rules.specs.declared.insertion_mode.InsertionMode as modes
use Rattle.html_rules.specs.declared.insertion_mode.InsertionMode.TheVariants as mode
use Rattle.html_rules.specs.declared.tag_set.TagSet.TheVariants as set
use Rattle.html_rules_laws.specs.Soundness.{Standing, is_plain_action}
use Rattle.html_rules_laws.proofs.TreePreserved.ActionsStanding.{actions-Standing}
use Rattle.html_rules_laws.proofs.TreePreserved.StandingTrees.{current-Place}
use Rattle.html_rules_laws.proofs.Bools.{no}
use Rattle.html_tree_builder.specs.Running.{run_action, run_at, run_in, run_of, takes_text}
use Rattle.html_tree_builder.specs.declared.runs.Run.{Run}
use Rattle.html_tree_builder.specs.declared.runs.Run.TheVariants.{InBody, Raw, Waiting, Foreign, Dropped}

-- text that is put twice

-- without foster parenting the place goes by the current node alone
place-same : (foster : Bool) → foster ≡ false → (f g : Forest) (xs : List Open) (o : Option Open)
    → place_for foster f xs o ≡ place_for foster g xs o
place-same foster e f g xs None = refl
place-same foster e f g xs (Some x) = rw e refl

appended-twice : (a b : List ℕ) (s : State) → s.foster_parenting ≡ false → Standing s
    → append_text b (append_text a s) ≡ append_text (a ++ b) s
unfolding append_text
appended-twice a b s e h =
    let place : Place = place_for s.foster_parenting s.forest s.open_elems (current_node s.open_elems) in
    let f : Forest = put_text s.forest place a in
    let at : IsPlace s.forest place = current-Place s.foster_parenting s.forest s.open_elems h.tree h.opened in
    ap (λ g. record s { forest = g })
    (ap (λ p. put_text f p b) (place-same s.foster_parenting e f s.forest s.open_elems (current_node s.open_elems))
    ∙ put_text-append s.forest place a b h.tree.forest at)

pub white-append : (a b : List ℕ) → is_white (a ++ b) ≡ (is_white a && is_white b)
white-append [] b = refl
white-append (c ∷ cs) b = ap (λ w. is_space c && w) (white-append cs b) ∙ by (is_space c) where
  by : (x : Bool) → (x && (is_white cs && is_white b)) ≡ ((x && is_white cs) && is_white b)
  by true = refl
  by false = refl

and-assoc : (x y z : Bool) → ((x && y) && z) ≡ (x && (y && z))
and-assoc true y z = refl
and-assoc false y z = refl

not_ok-twice : (a b : List ℕ) (s : State) → frameset_not_ok_unless_white b (frameset_not_ok_unless_white a s) ≡
    frameset_not_ok_unless_white (a ++ b) s
unfolding frameset_not_ok_unless_white
not_ok-twice a b s = ap (λ ok. record s { frameset_ok = ok }) (and-assoc s.frameset_ok (is_white a) (is_white b)
    ∙ ap (λ w. s.frameset_ok && w) (sym (white-append a b)))

-- the flag is set aside from what is put
not_ok-put : (a b : List ℕ) (s : State) → frameset_not_ok_unless_white b (append_text a s) ≡ append_text a
    (frameset_not_ok_unless_white b s)
unfolding frameset_not_ok_unless_white append_text
not_ok-put a b s = refl

-- what is put in a body once formatting elements are open, and in foreign content
abbrev pub put_white : List ℕ → State → State
put_white text s = append_text text (frameset_not_ok_unless_white text s)

white-Standing : (a : List ℕ) (s : State) → Standing s → Standing (frameset_not_ok_unless_white a s)
unfolding frameset_not_ok_unless_white
white-Standing a s h = h

white-foster : (a : List ℕ) (s : State) → (frameset_not_ok_unless_white a s).foster_parenting ≡ s.foster_parenting
unfolding frameset_not_ok_unless_white
white-foster a s = refl

put-twice : (a b : List ℕ) (s : State) → s.foster_parenting ≡ false → Standing s → put_white b (put_white a s) ≡ put_white (a ++ b) s
put-twice a b s e h =
    ap (append_text b) (not_ok-put a b (frameset_not_ok_unless_white a s))
    ∙ ap (λ r. append_text b (append_text a r)) (not_ok-twice a b s)
    ∙ appended-twice a b (frameset_not_ok_unless_white (a ++ b) s) (white-foster (a ++ b) s ∙ e) (white-Standing (a ++ b) s h)

-- formatting elements that were opened again

-- nothing is to be opened again
abbrev pub are_reopened : List Entry → List Open → Bool
are_reopened [] xs = true
are_reopened (Marker ∷ entries) xs = true
are_reopened (Element n tag ∷ entries) xs = is_open n xs

reopened-by : (entries : List Entry) (s : State) → s.active_formatting ≡ entries
    → are_reopened entries s.open_elems ≡ true → reopen entries s ≡ s
reopened-by [] s e h = ap (λ entries. record s { active_formatting = entries }) (sym e)
reopened-by (Marker ∷ entries) s e h = ap (λ entries. record s { active_formatting = entries }) (sym e)
reopened-by (Element n tag ∷ entries) s e h = rw h (ap (λ entries. record s { active_formatting = entries }) (sym e))

reopened-same : (s : State) → are_reopened s.active_formatting s.open_elems ≡ true → reconstruct_active_formatting_elements s ≡ s
unfolding reconstruct_active_formatting_elements
reopened-same s h = reopened-by s.active_formatting s refl h

-- whether text is taken by the rules of the mode, by the adjusted current node
abbrev pub takes_at : Option Open → Bool
takes_at None = false
takes_at (Some x) = takes_text x

pub inserted-takes : (c : Option Open) (x : Open) (xs : List Open) → is_html_element x ≡ true
    → takes_at (adjusted_by c xs) ≡ true → takes_at (adjusted_by c (x ∷ xs)) ≡ true
inserted-takes c x [] e h = no h
inserted-takes None x (y ∷ ys) e h = rw e refl
inserted-takes (Some c) x (y ∷ ys) e h = rw e refl

-- what is opened again leaves text to the rules of the mode
pub record Reopened (s r : State) : Type 0 where
  pub mode : r.mode ≡ s.mode
  pub foster : r.foster_parenting ≡ s.foster_parenting
  pub context : r.context_elem ≡ s.context_elem
  pub takes : takes_at (adjusted_by s.context_elem s.open_elems) ≡ true → takes_at (adjusted_by s.context_elem r.open_elems) ≡ true
  pub done : are_reopened r.active_formatting r.open_elems ≡ true

reopened-either : (b : Bool) (s x y : State) → (b ≡ true → Reopened s x) → Reopened s y → Reopened s (choose b (λ _. x) (λ _. y))
reopened-either true s x y h k = h refl
reopened-either false s x y h k = k

one-reopened : (tag : Tag) (s r : State) → Reopened s r → Reopened s (list_current tag (insert_element_for tag r))
unfolding insert_element
one-reopened tag s r h = record {
  mode = h.mode;
  foster = h.foster;
  context = h.context;
  takes = λ e. inserted-takes s.context_elem (record {
    number = node_count r.forest;
    namespace = Html;
    name = tag.name;
    rules = r.opts.rules;
  }) r.open_elems refl (h.takes e);
  done = rw (eq-eqb (node_count r.forest) (node_count r.forest) refl) refl;
}

reopen-Reopened : (entries : List Entry) (s : State) → Reopened s (reopen entries s)
reopen-Reopened [] s = record { mode = refl; foster = refl; context = refl; takes = λ e. e; done = refl }
reopen-Reopened (Marker ∷ entries) s = record { mode = refl; foster = refl; context = refl; takes = λ e. e; done = refl }
reopen-Reopened (Element n tag ∷ entries) s =
    reopened-either (is_open n s.open_elems) s (record s { active_formatting = Element n tag ∷ entries })
    (list_current tag (insert_element_for tag (reopen entries s)))
    (λ there. record { mode = refl; foster = refl; context = refl; takes = λ e. e; done = there })
    (one-reopened tag s (reopen entries s) (reopen-Reopened entries s))

pub reconstruct-Reopened : (s : State) → Reopened s (reconstruct_active_formatting_elements s)
unfolding reconstruct_active_formatting_elements
reconstruct-Reopened s = reopen-Reopened s.active_formatting s

put-reopened : (a : List ℕ) (s : State) → are_reopened s.active_formatting s.open_elems ≡ true
    → are_reopened (put_white a s).active_formatting (put_white a s).open_elems ≡ true
unfolding append_text frameset_not_ok_unless_white
put-reopened a s h = h

-- what a run is

-- by the rules of the mode
record IsOwn (run : Run) (s : State) : Type 0 where
  foster : s.foster_parenting ≡ false
  takes : takes_at (adjusted_current_node s) ≡ true
  mode : run_in s.mode ≡ Some run

-- by those of foreign content
abbrev foreign_at : Option Open → Bool
foreign_at None = false
foreign_at (Some x) = not (takes_text x) && not (is_in set.AnnotationXml x)

record IsForeign (s : State) : Type 0 where
  foster : s.foster_parenting ≡ false
  foreign : foreign_at (adjusted_current_node s) ≡ true

abbrev IsRun : Run → State → Type 0
IsRun run s = IsOwn run s ⊎ ((run ≡ Foreign) × IsForeign s)

run-is : (run : Run) (s : State) → run_of s ≡ Some run → IsRun run s
run-is run s e = by s.foster_parenting (adjusted_current_node s) refl refl e where
  inside : (x : Open) (b d : Bool) → takes_text x ≡ b → is_in set.AnnotationXml x ≡ d
      → choose b (λ _. run_in s.mode) (λ _. choose d (λ _. None) (λ _. Some Foreign)) ≡ Some run
      → ((takes_text x ≡ true) × (run_in s.mode ≡ Some run))
      ⊎ ((run ≡ Foreign) × ((not (takes_text x) && not (is_in set.AnnotationXml x)) ≡ true))
  inside x true d t a e = inl (t, e)
  inside x false true t a e = absurd (cc)
  inside x false false t a e = inr (cc, rw (t, a) refl)

  by : (b : Bool) (o : Option Open) → s.foster_parenting ≡ b → adjusted_current_node s ≡ o → choose b (λ _. None)
      (λ _. run_at o s.mode) ≡ Some run → IsRun run s
  by true o f a e = absurd (cc)
  by false None f a e = absurd (cc)
  by false (Some x) f a e = elim (inside x (takes_text x) (is_in set.AnnotationXml x) refl refl e) [
    | inl own ↦ inl (record { foster = f; takes = ap takes_at a ∙ own.0; mode = own.1 })
    | inr foreign ↦ inr (foreign.0, record { foster = f; foreign = ap foreign_at a ∙ foreign.1 })
  ]

-- one turn

is-html : (a m v k : Bool) → (a || m || v) ≡ true → (not a && not ((m && true) || (v && true) || k)) ≡ false
is-html true m v k h = refl
is-html false true v k h = refl
is-html false false true k h = refl
is-html false false false k h = no h

is-other : (a m v x k : Bool) → (not (a || m || v) && not x) ≡ true → (not a && not ((m && true) || (v && true) || (x && k))) ≡ true
is-other false false false false k h = refl
is-other true m v x k h = no h
is-other false true v x k h = no h
is-other false false true x k h = no h
is-other false false false true k h = no h

pub own-at : (text : List ℕ) (s : State) (o : Option Open) → takes_at o ≡ true → is_foreign_at s o (CharacterTokens text) ≡ false
own-at text s None h = no h
own-at text s (Some x) h = is-html (is_html_element x) (is_in set.MathmlTextIntegrationPoint x) (is_in set.SvgHtmlIntegrationPoint x) _ h

other-at : (text : List ℕ) (s : State) (o : Option Open) → foreign_at o ≡ true → is_foreign_at s o (CharacterTokens text) ≡ true
other-at text s None h = no h
other-at text s (Some x) h = is-other (is_html_element x) (is_in set.MathmlTextIntegrationPoint x)
    (is_in set.SvgHtmlIntegrationPoint x) (is_in set.AnnotationXml x) _ h

abbrev pub taken_by_run : Option Run → Token → State → State
taken_by_run None t s = s
taken_by_run (Some run) t s = act (run_action run) t s

mode-turn : (m : modes.InsertionMode) (text : List ℕ) (s : State) → is_some (run_in m) ≡ true
    → using_rules_for most_modes m (CharacterTokens text) s ≡ turn_of (taken_by_run (run_in m) (CharacterTokens text) s) (Finished false)
unfolding using_rules_for rows
mode-turn mode.InBody text s h = refl
mode-turn mode.InCaption text s h = refl
mode-turn mode.InCell text s h = refl
mode-turn mode.InTemplate text s h = refl
mode-turn mode.Text text s h = refl
mode-turn mode.InTableText text s h = refl
mode-turn m text s h = no h

own-turn : (run : Run) (text : List ℕ) (s : State) → IsOwn run s → turn (CharacterTokens text) s ≡ turn_of
    (act (run_action run) (CharacterTokens text) s) (Finished false)
unfolding turn is_foreign
own-turn run text s h =
    let t : Token = CharacterTokens text in
    rw (own-at text s (adjusted_current_node s) h.takes) (mode-turn s.mode text s (ap is_some h.mode)
    ∙ ap (λ o. turn_of (taken_by_run o t s) (Finished false)) h.mode)

foreign-turn : (text : List ℕ) (s : State) → IsForeign s → turn (CharacterTokens text) s ≡ turn_of
    (act (run_action Foreign) (CharacterTokens text) s) (Finished false)
unfolding turn is_foreign
foreign-turn text s h = rw (other-at text s (adjusted_current_node s) h.foreign) refl

run-turn : (run : Run) (text : List ℕ) (s : State) → IsRun run s → turn (CharacterTokens text) s ≡ turn_of
    (act (run_action run) (CharacterTokens text) s) (Finished false)
run-turn run text s is = elim is [ inl own ↦ own-turn run text s own | inr foreign ↦ rw foreign.0 (foreign-turn text s foreign.1) ]

pub settled-as : (text : List ℕ) (s r : State) → turn (CharacterTokens text) s ≡ turn_of r (Finished false)
    → (settle (CharacterTokens text) s).state ≡ r
unfolding settle within
settled-as text s r e =
    let t : Token = CharacterTokens text in
    ap (λ made. (settled_by (within 15 (four_for_each s.open_elems t) t) made.ends t made.state).state) e

-- a character of a run
run-settled : (run : Run) (text : List ℕ) (s : State) → IsRun run s → (settle (CharacterTokens text) s).state ≡ act
    (run_action run) (CharacterTokens text) s
run-settled run text s is = settled-as text s (act (run_action run) (CharacterTokens text) s) (run-turn run text s is)

-- what is left is a run of the same kind

put-Run : (a : List ℕ) (run : Run) (s : State) → IsRun run s → IsRun run (put_white a s)
unfolding append_text frameset_not_ok_unless_white
put-Run a run s is = elim is [
  | inl own ↦ inl (record { foster = own.foster; takes = own.takes; mode = own.mode })
  | inr foreign ↦ inr (foreign.0, record { foster = foreign.1.foster; foreign = foreign.1.foreign })
]

reconstruct-Own : (run : Run) (s : State) → IsOwn run s → IsOwn run (reconstruct_active_formatting_elements s)
reconstruct-Own run s h =
    let is = reconstruct-Reopened s in
    record { foster = is.foster ∙ h.foster; takes = rw is.context (is.takes h.takes); mode = ap run_in is.mode ∙ h.mode }

body-Run : (a : List ℕ) (s : State) → IsRun InBody s → IsRun InBody (append_in_body a s)
body-Run a s is = elim is [
  | inl own ↦ put-Run a InBody (reconstruct_active_formatting_elements s) (inl (reconstruct-Own InBody s own))
  | inr foreign ↦ absurd (let e = foreign.0 in cc)
]

raw-Run : (a : List ℕ) (run : Run) (s : State) → IsRun run s → IsRun run (append_text a s)
unfolding append_text
raw-Run a run s is = elim is [
  | inl own ↦ inl (record { foster = own.foster; takes = own.takes; mode = own.mode })
  | inr foreign ↦ inr (foreign.0, record { foster = foreign.1.foster; foreign = foreign.1.foreign })
]

kept-Run : (a : List ℕ) (run : Run) (s : State) → IsRun run s → IsRun run (keep_text a s)
unfolding keep_text
kept-Run a run s is = elim is [
  | inl own ↦ inl (record { foster = own.foster; takes = own.takes; mode = own.mode })
  | inr foreign ↦ inr (foreign.0, record { foster = foreign.1.foster; foreign = foreign.1.foreign })
]

stays-Run : (run : Run) (a : List ℕ) (s : State) → IsRun run s → IsRun run (act (run_action run) (CharacterTokens a) s)
stays-Run InBody a s is = body-Run a s is
stays-Run Raw a s is = raw-Run a Raw s is
stays-Run Waiting a s is = kept-Run a Waiting s is
stays-Run Foreign a s is = put-Run a Foreign s is
stays-Run Dropped a s is = is

-- two texts of a run are taken as one

run-foster : (run : Run) (s : State) → IsRun run s → s.foster_parenting ≡ false
run-foster run s is = elim is [ inl own ↦ own.foster | inr foreign ↦ foreign.1.foster ]

pub reconstruct-Standing : (s : State) → Standing s → Standing (reconstruct_active_formatting_elements s)
reconstruct-Standing s h = actions-Standing.plain Reconstruct refl (CharacterTokens []) s h

body-twice : (a b : List ℕ) (s : State) → s.foster_parenting ≡ false → Standing s
    → append_in_body b (append_in_body a s) ≡ append_in_body (a ++ b) s
body-twice a b s e h =
    let r : State = reconstruct_active_formatting_elements s in
    let is = reconstruct-Reopened s in
    ap (put_white b) (reopened-same (put_white a r) (put-reopened a r is.done)) ∙ put-twice a b r (is.foster ∙ e) (reconstruct-Standing s h)

kept-twice : (a b : List ℕ) (s : State) → keep_text b (keep_text a s) ≡ keep_text (a ++ b) s
unfolding keep_text
kept-twice a b s = ap (λ text. record s { pending_table_text = text }) (append_assoc s.pending_table_text a b)

pub run-twice : (run : Run) (a b : List ℕ) (s : State) → s.foster_parenting ≡ false → Standing s
    → act (run_action run) (CharacterTokens b) (act (run_action run) (CharacterTokens a) s) ≡ act (run_action run)
    (CharacterTokens (a ++ b)) s
run-twice InBody a b s e h = body-twice a b s e h
run-twice Raw a b s e h = appended-twice a b s e h
run-twice Waiting a b s e h = kept-twice a b s
run-twice Foreign a b s e h = put-twice a b s e h
run-twice Dropped a b s e h = refl

pub run-plain : (run : Run) → is_plain_action (run_action run) ≡ true
run-plain InBody = refl
run-plain Raw = refl
run-plain Waiting = refl
run-plain Foreign = refl
run-plain Dropped = refl

taken-by : (run : Run) (c : ℕ) (cs : List ℕ) (before : Settled) → IsRun run before.state → Standing before.state
    → (text_taken (c ∷ cs) before).state ≡ act (run_action run) (CharacterTokens (c ∷ cs)) before.state
taken-by run c [] before is h = run-settled run (c ∷ []) before.state is
taken-by run c (d ∷ ds) before is h =
    let one : Token = CharacterTokens (c ∷ []) in
    let s : State = before.state in
    let r : State = act (run_action run) one s in
    let same : (settle one s).state ≡ r = run-settled run (c ∷ []) s is in
    taken-by run d ds (followed_by before (settle one s))
    (subst (IsRun run) (sym same) (stays-Run run (c ∷ []) s is))
    (subst Standing (sym same) (actions-Standing.plain (run_action run) (run-plain run) one s h))
    ∙ ap (act (run_action run) (CharacterTokens (d ∷ ds))) same
    ∙ run-twice run (c ∷ []) (d ∷ ds) s (run-foster run s is) h

-- a text that is a run is taken at once
pub text-run : (run : Run) (c : ℕ) (cs : List ℕ) (before : Settled) → run_of before.state ≡ Some run
    → Standing before.state → (text_taken (c ∷ cs) before).state ≡ act (run_action run) (CharacterTokens (c ∷ cs)) before.state
text-run run c cs before e h = taken-by run c cs before (run-is run before.state e) h
