use Rattle.markup.specs.Forest.{Forest}
use Rattle.html_rules.specs.State.{Answers}
use Rattle.html_tree_builder.specs.States.{state_of}
use Rattle.html_tree_builder.specs.Told.{token_of}
use Rattle.html_tree_builder.proofs.FirstFit.{IsPassed}
use Rattle.html_tree_builder.proofs.construction.Construction.find.Given as goal

abbrev pub invariant-loop-row : goal.invariant-loop-row
invariant-loop-row g l = (a : Answers) (f : Forest) → IsPassed l.rows l.row-index (token_of l.told.content) (state_of a l.self f)
