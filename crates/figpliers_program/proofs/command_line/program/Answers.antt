use Rattle.std.proofs.Common.{◌∙◌, ap, true}
use Rattle.clap.specs.Simple.{Shape, app_of_fields, on_top}
use Rattle.figpliers_program.proofs.command_line.program.Goals as goal

pub returns-clause-app : goal.returns-clause-app
returns-clause-app c = ap app_of_fields c.subcommand_required.ensures
    ∙ ap (on_top (λ (s : Shape). record s { subcommand_required = true }))
    (ap app_of_fields c.after_help.ensures ∙ ap app_of_fields c.about.ensures ∙ ap app_of_fields c.in_ok-command.ensures.0
    ∙ ap app_of_fields c.propagate_version.ensures
    ∙ ap (on_top (λ (s : Shape). record s { propagate_version = true }))
    (ap app_of_fields c.version.ensures ∙ ap (on_top (λ (s : Shape). record s { has_version = true })) c.new.ensures.app))

pub returns-clause-local : goal.returns-clause-local
returns-clause-local c = ap (λ fields. fields.has_globals) c.subcommand_required.ensures
    ∙ ap (λ fields. fields.has_globals) c.after_help.ensures ∙ ap (λ fields. fields.has_globals) c.about.ensures
    ∙ ap (λ fields. fields.has_globals) c.in_ok-command.ensures.0 ∙ ap (λ fields. fields.has_globals) c.propagate_version.ensures
    ∙ ap (λ fields. fields.has_globals) c.version.ensures ∙ c.new.ensures.local
