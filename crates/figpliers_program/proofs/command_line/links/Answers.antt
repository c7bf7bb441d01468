use Rattle.std.proofs.Common.{◌∙◌, ap}
use Rattle.std.proofs.lemmas.Result.{IfOk-weaker}
use Rattle.figpliers_program.specs.CommandLine.{links_command, with_listing, with_naming}
use Rattle.figpliers_program.proofs.command_line.links.Goals as goal

pub returns-clause-app : goal.returns-clause-app
unfolding links_command
returns-clause-app c = IfOk-weaker c.names.result _ _ (λ made is. is ∙ ap with_naming (c.in_ok-lists.ensures.app
    ∙ ap with_listing c.in_ok-command.ensures.app)) c.names.ensures.app

pub returns-clause-local : goal.returns-clause-local
returns-clause-local c = c.names.ensures.local (c.in_ok-lists.ensures.local c.in_ok-command.ensures.local)
