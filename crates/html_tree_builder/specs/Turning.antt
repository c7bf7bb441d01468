-- What a turn asks of a state: that each action that it takes may be taken.
use Rattle.std.specs.Prelude.{◌≡◌, ℕ, zero, suc, true, false}
use Rattle.html_tokens.specs.declared.token.Token.{Token}
use Rattle.html_rules.specs.Actions.{act}
use Rattle.html_rules.specs.ForeignContent.{is_foreign}
use Rattle.html_rules.specs.Modes.Foreign.{in_foreign_content}
use Rattle.html_rules.specs.Rules.{Turn, first_fit, most_modes, rows, turn, turn_by_row, using_rules_for}
use Rattle.html_rules.specs.State.{State}
use Rattle.html_rules.specs.Table.{Row, Conclusion, Using, UsingThen, UsingCurrentMode}
use Rattle.html_rules.specs.declared.insertion_mode.InsertionMode.{InsertionMode}
use Rattle.html_modes.specs.Tables.{action_of}
use Rattle.html_tree_builder.specs.Acting.{MayAct}
use Rattle.html_tree_builder.specs.declared.conclusions.Next.{Next}
use Rattle.html_tree_builder.specs.declared.conclusions.Next.TheVariants as next

-- what comes after a row's actions may be done, where `may` says when the rules of another mode may be used, and `using` is what they
-- make of a token
abbrev pub MayConclude : (InsertionMode → Token → State → Type 0) → (InsertionMode → Token → State → Turn)
    → Conclusion → Token → State → Type 0
MayConclude may using (Using m) t s = may m t s
MayConclude may using (UsingThen m after) t s = may m t s × MayAct after t (using m t s).state
MayConclude may using UsingCurrentMode t s = may s.mode t s
MayConclude may using _ t s = Unit {0}

-- the same of what is next
abbrev pub MayGoOn : {H : Type 0} → (InsertionMode → Token → State → Type 0)
    → (InsertionMode → Token → State → Turn) → Next H → Token → State → Type 0
MayGoOn may using (next.Ends ending) t s = Unit {0}
MayGoOn may using (next.Using m) t s = may m t s
MayGoOn may using (next.UsingThen m after) t s = may m t s × MayAct (action_of after.now) t (using m t s).state

-- a row may be taken
abbrev pub MayTakeRow : (InsertionMode → Token → State → Type 0) → (InsertionMode → Token → State → Turn) → Row → Token → State → Type 0
MayTakeRow may using r t s = MayAct r.does t s × MayConclude may using r.ends t (act r.does t s)

-- the rules of a mode may be used, where at most so many modes use one another's rules
unfoldable pub MayUse : ℕ → InsertionMode → Token → State → Type 0
MayUse zero m t s = Unit {0}
MayUse (suc n) m t s = MayTakeRow (MayUse n) (using_rules_for n) (first_fit (rows m) t s) t s

-- a turn may be taken
pub record MayTurn (t : Token) (s : State) : Type 0 where
  pub foreign : is_foreign s t ≡ true → MayTakeRow (MayUse most_modes) (using_rules_for most_modes) (first_fit in_foreign_content t s) t s
  pub mode : is_foreign s t ≡ false → MayUse most_modes s.mode t s

-- a row is the first that a token takes in a turn, where the rules of so many modes may be used after it
pub record IsRowOfTurn (left : ℕ) (r : Row) (t : Token) (s : State) : Type 0 where
  pub turned : turn_by_row (using_rules_for left) r t s ≡ turn t s
  pub may : MayTurn t s → MayTakeRow (MayUse left) (using_rules_for left) r t s
