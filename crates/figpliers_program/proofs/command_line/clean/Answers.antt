use Rattle.std.proofs.Common.{◌∙◌, ap}
use Rattle.std.proofs.lemmas.Result.{IfOk-weaker}
use Rattle.clap.specs.Simple.{app_of_fields}
use Rattle.figpliers_program.specs.CommandLine.{clean_command, with_extras, with_policy}
use Rattle.figpliers_program.proofs.Building.{app-after, local-after}
use Rattle.figpliers_program.proofs.command_line.clean.Goals as goal

pub returns-clause-app : goal.returns-clause-app
unfolding clean_command
returns-clause-app c = IfOk-weaker c.arg-2.result _ _ (λ made adds. app-after _ made _ _ _ adds c.cleaned_pages.ensures.plain.0
    (app-after _ _ _ _ _ c.in_ok-arg.ensures c.output.ensures.plain.0
    (c.in_ok-with_extras.ensures.app ∙ ap with_extras (c.in_ok-command.ensures.app
    ∙ ap with_policy (ap app_of_fields c.about-command.ensures ∙ c.new.ensures.app)))
    c.output.ensures.rule)
    c.cleaned_pages.ensures.rule) c.arg-2.ensures

pub returns-clause-local : goal.returns-clause-local
returns-clause-local c = IfOk-weaker c.arg-2.result _ _ (λ made adds. local-after _ made _ adds c.cleaned_pages.ensures.plain.0
    (local-after _ _ _ c.in_ok-arg.ensures c.output.ensures.plain.0 (c.in_ok-with_extras.ensures.local
    (c.in_ok-command.ensures.local (ap (λ fields. fields.has_globals) c.about-command.ensures ∙ c.new.ensures.local))))) c.arg-2.ensures
