use Rattle.std.proofs.Common.{◌∙◌, ap}
use Rattle.std.proofs.lemmas.Result.{IfOk-weaker}
use Rattle.clap.specs.Simple.{app_of_fields}
use Rattle.figpliers_program.specs.CommandLine.{with_pages}
use Rattle.figpliers_program.proofs.command_line.over_pages.Goals as goal

pub returns-clause-app : goal.returns-clause-app
returns-clause-app c = IfOk-weaker c.reads_pages.result _ _ (λ made is. is
    ∙ ap (with_pages c.args.action) (ap app_of_fields c.about.ensures ∙ c.new.ensures.app)) c.reads_pages.ensures.app

pub returns-clause-local : goal.returns-clause-local
returns-clause-local c = c.reads_pages.ensures.local (ap (λ fields. fields.has_globals) c.about.ensures ∙ c.new.ensures.local)
