use Rattle.std.proofs.lemmas.Result.{IfOk-weaker}
use Rattle.figpliers_program.proofs.Building.{app-after, local-after}
use Rattle.figpliers_program.proofs.command_line.reads_pages.Goals as goal

pub returns-clause-app : goal.returns-clause-app
returns-clause-app c = IfOk-weaker c.arg-2.result _ _ (λ made adds. app-after _ made _ _ _ adds c.pages.ensures.plain.0
    (app-after _ _ _ _ _ c.in_ok-arg.ensures c.output.ensures.plain.0 c.in_ok-reads.ensures.app c.output.ensures.rule)
    c.pages.ensures.rule) c.arg-2.ensures

pub returns-clause-local : goal.returns-clause-local
returns-clause-local c = λ local. IfOk-weaker c.arg-2.result _ _ (λ made adds. local-after _ made _ adds c.pages.ensures.plain.0
    (local-after _ _ _ c.in_ok-arg.ensures c.output.ensures.plain.0 (c.in_ok-reads.ensures.local local))) c.arg-2.ensures
