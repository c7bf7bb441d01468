use Rattle.std.proofs.Common.{refl}
use Rattle.std.proofs.lemmas.Result.{IfOk-weaker}
use Rattle.figpliers_program.proofs.Building.{command-after}
use Rattle.figpliers_program.proofs.command_line.with_plain.Goals as goal

pub returns : goal.returns
returns c = IfOk-weaker c.subcommand-3.result _ _ (λ made adds. command-after _ made _ _ _ adds c.in_ok-check.ensures.local
    (command-after _ _ _ _ _ c.in_ok-subcommand-2.ensures c.in_ok-text.ensures.local
    (command-after _ _ _ _ _ c.in_ok-subcommand.ensures c.in_ok-markdown.ensures.local refl c.in_ok-markdown.ensures.app)
    c.in_ok-text.ensures.app)
    c.in_ok-check.ensures.app) c.subcommand-3.ensures
