-- What every action keeps of a state, turns and tokens keep.
use Rattle.std.proofs.Common.{◌≡◌, ℕ, zero, suc, Bool, true, false, List, [], ◌∷◌}
use Rattle.std.specs.Prelude.{◌&&◌}
use Rattle.std.proofs.lemmas.Bool.{and_parts}
use Rattle.html_tokens.specs.declared.token.Token.{Token}
use Rattle.html_rules.specs.Actions.{act, restore_mode, set_mode}
use Rattle.html_rules.specs.Choice.{choose}
use Rattle.html_rules.specs.ForeignContent.{is_foreign}
use Rattle.html_rules.specs.Modes.Foreign.{in_foreign_content}
use Rattle.html_rules.specs.Rules.{Ending, Finished, Again, Replied, Settled, Turn, check_acknowledged, concluded, first_fit}
use Rattle.html_rules.specs.Rules.{fits, four_for_each, is_self_closing, most_modes, rows, settle, settled_by, turn}
use Rattle.html_rules.specs.Rules.{turn_by_row, using_rules_for, within}
use Rattle.html_rules.specs.Stack.{parse_error}
use Rattle.html_rules.specs.State.{Open, State, current_number}
use Rattle.html_rules.specs.Table.{Row, Action, Nothing, Conclusion, Done, Acknowledged, Reprocess, ReprocessInOriginal}
use Rattle.html_rules.specs.Table.{ReprocessInMode, Using, UsingThen, UsingCurrentMode, RawText, PlainText, RunScript}
use Rattle.html_rules.specs.Table.{ReportEncoding}
use Rattle.html_rules.specs.declared.insertion_mode.InsertionMode.{InsertionMode}
use Rattle.html_rules_laws.proofs.FirstFit.{by_fit}

-- whether all actions of rows pass a test
abbrev pub then_passes : (Action → Bool) → Conclusion → Bool
then_passes test (UsingThen m after) = test after
then_passes test conclusion = true

abbrev pub all_pass : (Action → Bool) → List Row → Bool
all_pass test [] = true
all_pass test (r ∷ rs) = (test r.does && then_passes test r.ends) && all_pass test rs

-- a relation of states, from before an action to after it, that actions which pass a test, other modes and parse errors keep
pub record IsKept (R : State → State → Type 0) (test : Action → Bool) : Type 1 where
  pub same : (s : State) → R s s
  pub after : (s r q : State) → R s r → R r q → R s q
  pub acts : (a : Action) → test a ≡ true → (t : Token) (s : State) → R s (act a t s)
  pub moves : (m : InsertionMode) (s : State) → R s (set_mode m s)
  pub returns : (s : State) → R s (restore_mode s)
  pub errs : (s : State) → R s (parse_error s)
  pub modes : (m : InsertionMode) → all_pass test (rows m) ≡ true
  pub foreign : all_pass test in_foreign_content ≡ true
  pub nothing : test Nothing ≡ true

module _ (R : State → State → Type 0) (test : Action → Bool) (is : IsKept R test) where
  concluded-kept : (using : InsertionMode → Token → State → Turn) (t : Token)
      → ((m : InsertionMode) (s : State) → R s (using m t s).state) → (e : Conclusion) → then_passes test e ≡ true
      → (script : ℕ) (s : State) → R s (concluded using e t script s).state
  concluded-kept using t go Done h script s = is.same s
  concluded-kept using t go Acknowledged h script s = is.same s
  concluded-kept using t go (Reprocess m) h script s = is.moves m s
  concluded-kept using t go ReprocessInOriginal h script s = is.returns s
  concluded-kept using t go ReprocessInMode h script s = is.same s
  concluded-kept using t go (Using m) h script s = go m s
  concluded-kept using t go (UsingThen m a) h script s = is.after s (using m t s).state _ (go m s) (is.acts a h t (using m t s).state)
  concluded-kept using t go UsingCurrentMode h script s = go s.mode s
  concluded-kept using t go (RawText kind) h script s = is.same s
  concluded-kept using t go PlainText h script s = is.same s
  concluded-kept using t go RunScript h script s = is.same s
  concluded-kept using t go ReportEncoding h script s = is.same s

  first-kept : (using : InsertionMode → Token → State → Turn) (t : Token)
      → ((m : InsertionMode) (s : State) → R s (using m t s).state) → (rs : List Row) → all_pass test rs ≡ true
      → (s : State) → R s (turn_by_row using (first_fit rs t s) t s).state
  first-kept using t go [] h s = is.acts Nothing is.nothing t s
  first-kept using t go (r ∷ rs) h s =
      let parts = and_parts (test r.does && then_passes test r.ends) (all_pass test rs) h in
      let own = and_parts (test r.does) (then_passes test r.ends) parts.0 in
      by_fit (λ r. R s (turn_by_row using r t s).state) r (first_fit rs t s) (fits r t s)
      (λ fit. is.after s (act r.does t s) _ (is.acts r.does own.0 t s)
      (concluded-kept using t go r.ends own.1 (current_number s.open_elems) (act r.does t s)))
      (first-kept using t go rs parts.1 s)

  using-kept : (n : ℕ) (t : Token) (m : InsertionMode) (s : State) → R s (using_rules_for n m t s).state
  unfolding using_rules_for
  using-kept zero t m s = is.same s
  using-kept (suc n) t m s = first-kept (using_rules_for n) t (using-kept n t) (rows m) (is.modes m) s

  either-kept : (b : Bool) (s : State) (x y : Turn) → R s x.state → R s y.state → R s (choose b (λ _. x) (λ _. y)).state
  either-kept true s x y h k = h
  either-kept false s x y h k = k

  pub turn-kept : (t : Token) (s : State) → R s (turn t s).state
  unfolding turn
  turn-kept t s = either-kept (is_foreign s t) s _ _
      (first-kept (using_rules_for most_modes) t (using-kept most_modes t) in_foreign_content is.foreign s)
      (using-kept most_modes t s.mode s)

  check-kept : (acknowledged : Bool) (t : Token) (s : State) → R s (check_acknowledged acknowledged t s)
  check-kept true t s = is.same s
  check-kept false t s = by (is_self_closing t) where
    by : (b : Bool) → R s (choose b (λ _. parse_error s) (λ _. s))
    by true = is.errs s
    by false = is.same s

  settled-kept : (again : State → Settled) → ((s : State) → R s (again s).state) → (e : Ending) (t : Token)
      (s : State) → R s (settled_by again e t s).state
  settled-kept again go (Finished acknowledged) t s = check-kept acknowledged t s
  settled-kept again go Again t s = go s
  settled-kept again go (Replied r) t s = is.same s

  within-kept : (n : ℕ) (beyond : State → Settled) (t : Token) → ((s : State) → R s (beyond s).state) → (s : State)
      → R s (within n beyond t s).state
  unfolding within
  within-kept zero beyond t go s = go s
  within-kept (suc n) beyond t go s = is.after s (turn t s).state _ (turn-kept t s)
      (settled-kept (within n beyond t) (within-kept n beyond t go) (turn t s).ends t (turn t s).state)

  four-kept : (xs : List Open) (t : Token) (s : State) → R s (four_for_each xs t s).state
  unfolding four_for_each
  four-kept [] t s = is.same s
  four-kept (x ∷ xs) t s = within-kept 4 (four_for_each xs t) t (four-kept xs t) s

  pub settle-kept : (t : Token) (s : State) → R s (settle t s).state
  unfolding settle
  settle-kept t s = within-kept 16 (four_for_each s.open_elems t) t (four-kept s.open_elems t) s
