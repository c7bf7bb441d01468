use Rattle.std.proofs.Common.{◌∙◌, ap}
use Rattle.std.proofs.lemmas.Result.{IfOk-weaker}
use Rattle.figpliers_program.specs.CommandLine.{figpliers, with_plain}
use Rattle.figpliers_program.proofs.Building.{command-after}
use Rattle.figpliers_program.proofs.command_line.command_line.Goals as goal

pub returns : goal.returns
unfolding figpliers
returns c = IfOk-weaker c.subcommand-6.result _ _ (λ made adds. command-after _ made _ _ _ adds c.in_ok-clean.ensures.local
    (command-after _ _ _ _ _ c.in_ok-subcommand-4.ensures c.in_ok-normal.ensures.local
    (command-after _ _ _ _ _ c.in_ok-subcommand-3.ensures c.in_ok-select.ensures.local
    (c.in_ok-with_plain.ensures ∙ ap with_plain
    (command-after _ _ _ _ _ c.in_ok-command.ensures c.in_ok-links.ensures.local
    (command-after _ _ _ _ _ c.in_ok-subcommand-2.ensures c.in_ok-tree.ensures.local
    (command-after _ _ _ _ _ c.in_ok-subcommand.ensures c.in_ok-errors.ensures.local c.in_ok-program.ensures.app c.in_ok-errors.ensures.app)
    c.in_ok-tree.ensures.app)
    c.in_ok-links.ensures.app))
    c.in_ok-select.ensures.app)
    c.in_ok-normal.ensures.app)
    c.in_ok-clean.ensures.app) c.subcommand-6.ensures
