-- White space where other text is no run is taken at once as it is taken character by character.
use Rattle.std.proofs.Common.{◌≡◌, ◌∙◌, ℕ, Bool, true, false, List, [], ◌∷◌, ◌++◌, append_assoc, length, length-append, Option}
use Rattle.std.proofs.Common.{Some, None, refl, sym, ap, ap₂, subst, inl, inr, ◌⊎◌, arith}
use Rattle.std.specs.Prelude.{◌&&◌, is_some}
use Rattle.std.specs.Str.{IsUtf8, chars}
use Rattle.std.proofs.lemmas.Bool.{and_parts}
use Rattle.html_tokens.specs.declared.token.Token.{Token}
use Rattle.html_tokens.specs.declared.token.Token.TheVariants.{CharacterTokens}
use Rattle.html_rules.specs.Actions.{act, append_in_body, frameset_not_ok_unless_white, keep_text}
use Rattle.html_rules.specs.Choice.{choose}
use Rattle.html_rules.specs.Encodings.{is_space}
use Rattle.html_rules.specs.ForeignContent.{is_foreign, is_foreign_at}
use Rattle.html_rules.specs.Formatting.{reconstruct_active_formatting_elements}
use Rattle.html_rules.specs.Places.{append_text}
use Rattle.html_rules.specs.Rules.{Finished, Settled, most_modes, rows, settle, turn, turn_of, using_rules_for}
use Rattle.html_rules.specs.State.{Open, State, adjusted_current_node}
use Rattle.html_rules.specs.Step.{followed_by, text_taken}
use Rattle.html_rules.specs.Tokens.{is_white}
use Rattle.html_rules.specs.declared.insertion_mode.InsertionMode as modes
use Rattle.html_rules.specs.declared.insertion_mode.InsertionMode.TheVariants as mode
use Rattle.html_rules_laws.specs.Soundness.{Standing}
use Rattle.html_rules_laws.proofs.TreePreserved.ActionsStanding.{actions-Standing}
use Rattle.html_rules_laws.proofs.Bools.{no}
use Rattle.html_tree_builder.specs.Running.{run_action, takes_text, white_at, white_before, white_in, white_run_of}
use Rattle.html_tree_builder.specs.Texts.{HasWhiteFront, IsSplit}
use Rattle.html_tree_builder.specs.declared.runs.Run.{Run}
use Rattle.html_tree_builder.specs.declared.runs.Run.TheVariants.{InBody, Raw, Waiting, Foreign, Dropped}
use Rattle.html_tree_builder.proofs.TextRuns.{own-at, put_white, reconstruct-Reopened, run-plain, run-twice, settled-as}
use Rattle.html_tree_builder.proofs.TextRuns.{taken_by_run, takes_at, white-append}

-- white space at the front of a text

pub white-begun : (whole white : List ℕ) → IsUtf8 whole → white ≡ [] → HasWhiteFront whole white whole
white-begun whole white u e = rw e (record { characters = refl; white = refl; text = u; shorter = omega arith })

pub white-more : (whole rest one behind white more : List ℕ) → IsSplit rest one behind
    → HasWhiteFront whole white rest → true ≡ is_white (chars one) → more ≡ white ++ chars one → HasWhiteFront whole more behind
white-more whole rest one behind white more is h o e =
    let first : more ≡ white ++ (is.first ∷ []) = e ∙ ap (λ cs. white ++ cs) is.character in
    record {
      characters = h.characters ∙ ap (λ cs. white ++ cs) is.characters
          ∙ sym (append_assoc white (is.first ∷ []) (chars behind)) ∙ ap (λ w. w ++ chars behind) (sym first);
      white = ap is_white e ∙ white-append white (chars one) ∙ ap₂ (λ a b. a && b) h.white (sym o);
      text = is.text;
      shorter = omega (arith, ap length first, length-append white (is.first ∷ []), is.shorter, h.shorter);
    }

-- what a run of white space is

-- by the rules of the mode
record IsOwn (run : Run) (s : State) : Type 0 where
  foster : s.foster_parenting ≡ false
  takes : takes_at (adjusted_current_node s) ≡ true
  mode : white_in s.mode ≡ Some run

-- where no element is open
record IsBefore (run : Run) (s : State) : Type 0 where
  foster : s.foster_parenting ≡ false
  none : adjusted_current_node s ≡ None
  mode : white_before s.mode ≡ Some run

abbrev IsWhiteRun : Run → State → Type 0
IsWhiteRun run s = IsOwn run s ⊎ ((run ≡ Dropped) × IsBefore run s)

before-dropped : (m : modes.InsertionMode) (run : Run) → white_before m ≡ Some run → run ≡ Dropped
before-dropped mode.Initial run e = cc
before-dropped mode.BeforeHtml run e = cc
before-dropped m run e = absurd (cc)

before-in : (m : modes.InsertionMode) (run : Run) → white_before m ≡ Some run → white_in m ≡ Some run
before-in mode.Initial run e = e
before-in mode.BeforeHtml run e = e
before-in m run e = absurd (cc)

run-is : (run : Run) (s : State) → white_run_of s ≡ Some run → IsWhiteRun run s
run-is run s e = by s.foster_parenting (adjusted_current_node s) refl refl e where
  inside : (x : Open) (b : Bool) → takes_text x ≡ b → choose b (λ _. white_in s.mode) (λ _. None) ≡ Some run
      → (takes_text x ≡ true) × (white_in s.mode ≡ Some run)
  inside x true t e = (t, e)
  inside x false t e = absurd (cc)

  by : (b : Bool) (o : Option Open) → s.foster_parenting ≡ b → adjusted_current_node s ≡ o → choose b (λ _. None)
      (λ _. white_at o s.mode) ≡ Some run → IsWhiteRun run s
  by true o f a e = absurd (cc)
  by false None f a e = inr (before-dropped s.mode run e, record { foster = f; none = a; mode = e })
  by false (Some x) f a e =
      let own = inside x (takes_text x) refl e in
      inl (record { foster = f; takes = ap takes_at a ∙ own.0; mode = own.1 })

-- one turn

mode-turn : (m : modes.InsertionMode) (text : List ℕ) (s : State) → is_white text ≡ true → is_some (white_in m) ≡ true
    → using_rules_for most_modes m (CharacterTokens text) s ≡ turn_of (taken_by_run (white_in m) (CharacterTokens text) s) (Finished false)
unfolding using_rules_for rows
mode-turn mode.Initial text s w h = rw w refl
mode-turn mode.BeforeHtml text s w h = rw w refl
mode-turn mode.BeforeHead text s w h = rw w refl
mode-turn mode.InHead text s w h = rw w refl
mode-turn mode.InHeadNoscript text s w h = rw w (rw w refl)
mode-turn mode.AfterHead text s w h = rw w refl
mode-turn mode.InColumnGroup text s w h = rw w refl
mode-turn mode.InFrameset text s w h = rw w refl
mode-turn mode.AfterFrameset text s w h = rw w refl
mode-turn mode.AfterBody text s w h = rw w refl
mode-turn mode.AfterAfterBody text s w h = rw w refl
mode-turn mode.AfterAfterFrameset text s w h = rw w refl
mode-turn m text s w h = no h

none-foreign : (text : List ℕ) (s : State) (o : Option Open) → o ≡ None → is_foreign_at s o (CharacterTokens text) ≡ false
none-foreign text s o e = rw e refl

turn-in : (run : Run) (text : List ℕ) (s : State) → is_foreign_at s (adjusted_current_node s)
    (CharacterTokens text) ≡ false → white_in s.mode ≡ Some run → is_white text ≡ true
    → turn (CharacterTokens text) s ≡ turn_of (act (run_action run) (CharacterTokens text) s) (Finished false)
unfolding turn is_foreign
turn-in run text s f m w =
    let t : Token = CharacterTokens text in
    rw f (mode-turn s.mode text s w (ap is_some m) ∙ ap (λ o. turn_of (taken_by_run o t s) (Finished false)) m)

run-turn : (run : Run) (text : List ℕ) (s : State) → IsWhiteRun run s → is_white text ≡ true
    → turn (CharacterTokens text) s ≡ turn_of (act (run_action run) (CharacterTokens text) s) (Finished false)
run-turn run text s is w = elim is [
  | inl own ↦ turn-in run text s (own-at text s (adjusted_current_node s) own.takes) own.mode w
  | inr before ↦ turn-in run text s (none-foreign text s (adjusted_current_node s) before.1.none) (before-in s.mode run before.1.mode) w
]

run-settled : (run : Run) (text : List ℕ) (s : State) → IsWhiteRun run s → is_white text ≡ true
    → (settle (CharacterTokens text) s).state ≡ act (run_action run) (CharacterTokens text) s
run-settled run text s is w = settled-as text s (act (run_action run) (CharacterTokens text) s) (run-turn run text s is w)

-- what is left is a run of the same kind

put-Run : (a : List ℕ) (run : Run) (s : State) → IsWhiteRun run s → IsWhiteRun run (put_white a s)
unfolding append_text frameset_not_ok_unless_white
put-Run a run s is = elim is [
  | inl own ↦ inl (record { foster = own.foster; takes = own.takes; mode = own.mode })
  | inr before ↦ inr (before.0, record { foster = before.1.foster; none = before.1.none; mode = before.1.mode })
]

reconstruct-Own : (run : Run) (s : State) → IsOwn run s → IsOwn run (reconstruct_active_formatting_elements s)
reconstruct-Own run s h =
    let is = reconstruct-Reopened s in
    record { foster = is.foster ∙ h.foster; takes = rw is.context (is.takes h.takes); mode = ap white_in is.mode ∙ h.mode }

body-Run : (a : List ℕ) (s : State) → IsWhiteRun InBody s → IsWhiteRun InBody (append_in_body a s)
body-Run a s is = elim is [
  | inl own ↦ put-Run a InBody (reconstruct_active_formatting_elements s) (inl (reconstruct-Own InBody s own))
  | inr before ↦ absurd (let e = before.0 in cc)
]

raw-Run : (a : List ℕ) (run : Run) (s : State) → IsWhiteRun run s → IsWhiteRun run (append_text a s)
unfolding append_text
raw-Run a run s is = elim is [
  | inl own ↦ inl (record { foster = own.foster; takes = own.takes; mode = own.mode })
  | inr before ↦ inr (before.0, record { foster = before.1.foster; none = before.1.none; mode = before.1.mode })
]

kept-Run : (a : List ℕ) (run : Run) (s : State) → IsWhiteRun run s → IsWhiteRun run (keep_text a s)
unfolding keep_text
kept-Run a run s is = elim is [
  | inl own ↦ inl (record { foster = own.foster; takes = own.takes; mode = own.mode })
  | inr before ↦ inr (before.0, record { foster = before.1.foster; none = before.1.none; mode = before.1.mode })
]

stays-Run : (run : Run) (a : List ℕ) (s : State) → IsWhiteRun run s → IsWhiteRun run (act (run_action run) (CharacterTokens a) s)
stays-Run InBody a s is = body-Run a s is
stays-Run Raw a s is = raw-Run a Raw s is
stays-Run Waiting a s is = kept-Run a Waiting s is
stays-Run Foreign a s is = put-Run a Foreign s is
stays-Run Dropped a s is = is

run-foster : (run : Run) (s : State) → IsWhiteRun run s → s.foster_parenting ≡ false
run-foster run s is = elim is [ inl own ↦ own.foster | inr before ↦ before.1.foster ]

taken-by : (run : Run) (c : ℕ) (cs : List ℕ) (before : Settled) → is_white (c ∷ cs) ≡ true
    → IsWhiteRun run before.state → Standing before.state
    → (text_taken (c ∷ cs) before).state ≡ act (run_action run) (CharacterTokens (c ∷ cs)) before.state
taken-by run c [] before w is h = run-settled run (c ∷ []) before.state is w
taken-by run c (d ∷ ds) before w is h =
    let one : Token = CharacterTokens (c ∷ []) in
    let s : State = before.state in
    let r : State = act (run_action run) one s in
    let parts = and_parts (is_space c) (is_white (d ∷ ds)) w in
    let alone : is_white (c ∷ []) ≡ true = ap (λ b. b && true) parts.0 in
    let same : (settle one s).state ≡ r = run-settled run (c ∷ []) s is alone in
    taken-by run d ds (followed_by before (settle one s)) parts.1
    (subst (IsWhiteRun run) (sym same) (stays-Run run (c ∷ []) s is))
    (subst Standing (sym same) (actions-Standing.plain (run_action run) (run-plain run) one s h))
    ∙ ap (act (run_action run) (CharacterTokens (d ∷ ds))) same
    ∙ run-twice run (c ∷ []) (d ∷ ds) s (run-foster run s is) h

-- white space that is a run is taken at once
pub white-run : (run : Run) (c : ℕ) (cs : List ℕ) (before : Settled) → is_white (c ∷ cs) ≡ true
    → white_run_of before.state ≡ Some run → Standing before.state
    → (text_taken (c ∷ cs) before).state ≡ act (run_action run) (CharacterTokens (c ∷ cs)) before.state
white-run run c cs before w e h = taken-by run c cs before w (run-is run before.state e) h

-- the run that a construction finds

pub white-found : (foster : Bool) (o : Option Open) (x : Open) (m own : modes.InsertionMode) (r : Option Run)
    → foster ≡ false → o ≡ Some x → true ≡ takes_text x → m ≡ own → r ≡ white_in m → r ≡ choose foster (λ _. None) (λ _. white_at o own)
white-found foster o x m own r f a t same is = rw (f, a, ← t, ← same) is

pub other-found : (foster : Bool) (o : Option Open) (x : Open) (own : modes.InsertionMode) → foster ≡ false
    → o ≡ Some x → false ≡ takes_text x → None ≡ choose foster (λ _. None) (λ _. white_at o own)
other-found foster o x own f a t = rw (f, a, ← t) refl
