-- The run that a construction finds.
use Rattle.std.proofs.Common.{◌≡◌, false, Option, Some}
use Rattle.markup.specs.Forest.{Forest}
use Rattle.html_rules.specs.State.{Answers, Open, adjusted_by}
use Rattle.html_rules.specs.declared.insertion_mode.InsertionMode.{InsertionMode}
use Rattle.html_tree_builder.specs.Running.{run_at, run_of}
use Rattle.html_tree_builder.specs.States.{Building, state_of}
use Rattle.html_tree_builder.specs.declared.runs.Run.{Run}

-- where foster parenting is not enabled, it goes by the adjusted current node and the mode
pub run-found : (a : Answers) (b : Building) (f : Forest) (x : Open) (m : InsertionMode) (r : Option Run)
    → b.foster_parenting ≡ false → adjusted_by b.context_elem b.stack.open_elems ≡ Some x → m ≡ b.mode
    → r ≡ run_at (Some x) m → r ≡ run_of (state_of a b f)
run-found a b f x m r foster adjusted mode is = rw (foster, adjusted, ← mode) is
