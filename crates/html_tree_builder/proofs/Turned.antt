-- What a turn comes to, step by step.
use Rattle.std.proofs.Common.{◌≡◌, ◌∙◌, ℕ, ◌-◌, suc, true, false, Result, refl, sym, ap, subst, arith}
use Rattle.std.specs.Prelude.{IfOk}
use Rattle.html_tokens.specs.declared.token.Token.{Token}
use Rattle.html_rules.specs.Actions.{act}
use Rattle.html_rules.specs.ForeignContent.{is_foreign}
use Rattle.html_rules.specs.Modes.Foreign.{in_foreign_content}
use Rattle.html_rules.specs.Rules.{Finished, Turn, concluded, first_fit, most_modes, rows, turn, turn_by_row, turn_of, using_rules_for}
use Rattle.html_rules.specs.State.{State, current_number}
use Rattle.html_rules.specs.Table.{Row, Nothing, Done, Acknowledged, Using}
use Rattle.html_rules.specs.declared.insertion_mode.InsertionMode.{InsertionMode}
use Rattle.html_tree_builder.specs.Turning.{MayConclude, MayTakeRow, MayUse}

-- no mode's rules are left
pub used-none : (n : ℕ) (m : InsertionMode) (t : Token) (s : State) → n ≡ 0 → turn_of s (Finished false) ≡ using_rules_for n m t s
unfolding using_rules_for
used-none n m t s e = rw e refl

one-less : (n : ℕ) → (n ≡ 0 → ⊥) → suc (n - 1) ≡ n
one-less n h = omega arith

-- the row of a mode
pub used-row : (n : ℕ) (m : InsertionMode) (t : Token) (s : State) (r : Row) → (n ≡ 0 → ⊥)
    → r ≡ first_fit (rows m) t s → turn_by_row (using_rules_for (n - 1)) r t s ≡ using_rules_for n m t s
unfolding using_rules_for
used-row n m t s r some is = ap (λ r. turn_by_row (using_rules_for (n - 1)) r t s) is ∙ ap (λ n. using_rules_for n m t s) (one-less n some)

pub may-use-row : (n : ℕ) (m : InsertionMode) (t : Token) (s : State) (r : Row) → (n ≡ 0 → ⊥)
    → r ≡ first_fit (rows m) t s → MayUse n m t s → MayTakeRow (MayUse (n - 1)) (using_rules_for (n - 1)) r t s
unfolding MayUse
may-use-row n m t s r some is may =
    let row : MayUse (suc (n - 1)) m t s = subst (λ n. MayUse n m t s) (sym (one-less n some)) may in
    subst (λ r. MayTakeRow (MayUse (n - 1)) (using_rules_for (n - 1)) r t s) (sym is) row

-- the same, where one mode more is left than a number says
pub used-at : (n : ℕ) (m : InsertionMode) (t : Token) (s : State) (r : Row) → r ≡ first_fit (rows m) t s
    → turn_by_row (using_rules_for n) r t s ≡ using_rules_for (suc n) m t s
unfolding using_rules_for
used-at n m t s r is = ap (λ r. turn_by_row (using_rules_for n) r t s) is

pub may-use-at : (n : ℕ) (m : InsertionMode) (t : Token) (s : State) (r : Row) → r ≡ first_fit (rows m) t s
    → MayUse (suc n) m t s → MayTakeRow (MayUse n) (using_rules_for n) r t s
unfolding MayUse
may-use-at n m t s r is may = subst (λ r. MayTakeRow (MayUse n) (using_rules_for n) r t s) (sym is) may

-- what a row makes of a token, where its actions and its end are done one by one
pub turned-row : (n : ℕ) (r : Row) (t : Token) (s u : State) (script : ℕ) (x : Turn)
    → script ≡ current_number s.open_elems → u ≡ act r.does t s → concluded (using_rules_for n) r.ends t script
    u ≡ x → x ≡ turn_by_row (using_rules_for n) r t s
turned-row n r t s u script x number acted is = sym is
    ∙ (ap (λ number. concluded (using_rules_for n) r.ends t number u) number
    ∙ ap (concluded (using_rules_for n) r.ends t (current_number s.open_elems)) acted)

-- what an answer comes to is the same as something
pub comes-to : {T E A : Type 0} (f : T → A) (r : Result T E) (x y : A) → x ≡ y → IfOk r (λ v. f v ≡ x) → IfOk r (λ v. f v ≡ y)
comes-to f r x y e = subst (λ z. IfOk r (λ v. f v ≡ z)) e

-- the row of foreign content
pub turned-foreign : (t : Token) (s : State) (r : Row) → true ≡ is_foreign s t → r ≡ first_fit in_foreign_content t
    s → turn_by_row (using_rules_for most_modes) r t s ≡ turn t s
unfolding turn
turned-foreign t s r f is = rw (is, ← f) refl

-- the rules of the mode
pub turned-mode : (t : Token) (s : State) → false ≡ is_foreign s t → using_rules_for most_modes s.mode t s ≡ turn t s
unfolding turn
turned-mode t s f = rw (← f) refl

-- a row that only uses the rules of another mode
pub used-rest : (n : ℕ) (m : InsertionMode) (t : Token) (s : State) (r : Row) → r.does ≡ Nothing → r.ends ≡ Using m
    → using_rules_for n m t s ≡ turn_by_row (using_rules_for n) r t s
used-rest n m t s r does ends = rw (does, ends) refl

pub may-use-rest : (n : ℕ) (m : InsertionMode) (t : Token) (s : State) (r : Row) → r.does ≡ Nothing
    → r.ends ≡ Using m → MayTakeRow (MayUse n) (using_rules_for n) r t s → MayUse n m t s
may-use-rest n m t s r does ends may =
    let ended = subst (λ ends. MayConclude (MayUse n) (using_rules_for n) ends t (act r.does t s)) ends may.1 in
    subst (λ does. MayUse n m t (act does t s)) does ended

-- a row that ends the token
pub done-turn : (using : InsertionMode → Token → State → Turn) (r : Row) (t : Token) (s u : State) → r.ends ≡ Done
    → u ≡ act r.does t s → turn_of u (Finished false) ≡ turn_by_row using r t s
done-turn using r t s u ends acted = rw ends (ap (λ u. turn_of u (Finished false)) acted)

pub acknowledged-turn : (using : InsertionMode → Token → State → Turn) (r : Row) (t : Token) (s u : State)
    → r.ends ≡ Acknowledged → u ≡ act r.does t s → turn_of u (Finished true) ≡ turn_by_row using r t s
acknowledged-turn using r t s u ends acted = rw ends (ap (λ u. turn_of u (Finished true)) acted)
