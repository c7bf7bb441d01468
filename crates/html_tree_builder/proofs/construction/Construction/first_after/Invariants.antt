use Rattle.std.proofs.Common.{◌≡◌, ◌-◌, drop, length}
use Rattle.markup.specs.Forest.{Forest}
use Rattle.html_rules.specs.Rules.{first_fit, rows}
use Rattle.html_rules.specs.State.{Answers}
use Rattle.html_tree_builder.specs.States.{state_of}
use Rattle.html_tree_builder.specs.Told.{token_of}
use Rattle.html_tree_builder.proofs.construction.Construction.first_after.Given as goal

abbrev pub invariant-loop-row : goal.invariant-loop-row
invariant-loop-row g l = (a : Answers) (f : Forest) → first_fit (drop l.fn.passed (rows l.mode))
    (token_of l.told.content) (state_of a l.self f) ≡ first_fit (drop l.place (rows l.mode)) (token_of l.told.content) (state_of a l.self f)

abbrev pub decreases-loop-row : goal.decreases-loop-row
decreases-loop-row g l = length (rows l.mode) - l.place
