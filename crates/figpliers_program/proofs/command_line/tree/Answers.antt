use Rattle.std.proofs.lemmas.Result.{IfOk-weaker}
use Rattle.figpliers_program.specs.CommandLine.{tree_command}
use Rattle.figpliers_program.proofs.Building.{app-after, local-after}
use Rattle.figpliers_program.proofs.command_line.tree.Goals as goal

pub returns-clause-app : goal.returns-clause-app
unfolding tree_command
returns-clause-app c = IfOk-weaker c.arg.result _ _ (λ made adds. app-after _ made _ _ _ adds c.option-fragment.ensures.plain.0
    c.in_ok-over_pages.ensures.app c.option-fragment.ensures.rule) c.arg.ensures

pub returns-clause-local : goal.returns-clause-local
returns-clause-local c = IfOk-weaker c.arg.result _ _ (λ made adds. local-after _ made _ adds c.option-fragment.ensures.plain.0
    c.in_ok-over_pages.ensures.local) c.arg.ensures
