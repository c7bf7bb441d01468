use Rattle.std.proofs.Common.{◌∙◌, ap}
use Rattle.std.proofs.lemmas.Result.{IfOk-weaker}
use Rattle.clap.specs.Simple.{app_of_fields}
use Rattle.clap.specs.declared.builder.action.ArgAction.TheVariants.{Append}
use Rattle.figpliers_program.specs.CommandLine.{select_command, with_pages, with_shows}
use Rattle.figpliers_program.proofs.Building.{app-after, local-after}
use Rattle.figpliers_program.proofs.command_line.select.Goals as goal

pub returns-clause-app : goal.returns-clause-app
unfolding select_command
returns-clause-app c = IfOk-weaker c.reads_pages.result _ _ (λ made is. is ∙ ap (with_pages Append) (c.in_ok-shows.ensures.app
    ∙ ap with_shows
    (app-after _ _ _ _ _ c.in_ok-command.ensures c.selector.ensures.plain.0 (ap app_of_fields c.about.ensures ∙ c.new.ensures.app)
    c.selector.ensures.rule))) c.reads_pages.ensures.app

pub returns-clause-local : goal.returns-clause-local
returns-clause-local c = c.reads_pages.ensures.local (c.in_ok-shows.ensures.local (local-after _ _ _ c.in_ok-command.ensures
    c.selector.ensures.plain.0 (ap (λ fields. fields.has_globals) c.about.ensures ∙ c.new.ensures.local)))
