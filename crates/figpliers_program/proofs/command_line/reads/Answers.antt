use Rattle.std.proofs.Common.{refl}
use Rattle.std.proofs.lemmas.Result.{IfOk-weaker}
use Rattle.figpliers_program.proofs.Building.{app-after, local-after}
use Rattle.figpliers_program.proofs.command_line.reads.Goals as goal

pub returns-clause-app : goal.returns-clause-app
returns-clause-app c = IfOk-weaker c.arg-3.result _ _ (λ made adds. app-after _ made _ _ _ adds c.flag-lossy.ensures.plain.0
    (app-after _ _ _ _ _ c.in_ok-arg-2.ensures c.flag-utf_8.ensures.plain.0
    (app-after _ _ _ _ _ c.in_ok-arg.ensures c.option-encoding.ensures.plain.0 refl c.option-encoding.ensures.rule)
    c.flag-utf_8.ensures.rule)
    c.flag-lossy.ensures.rule) c.arg-3.ensures

pub returns-clause-local : goal.returns-clause-local
returns-clause-local c = λ local. IfOk-weaker c.arg-3.result _ _ (λ made adds. local-after _ made _ adds c.flag-lossy.ensures.plain.0
    (local-after _ _ _ c.in_ok-arg-2.ensures c.flag-utf_8.ensures.plain.0
    (local-after _ _ _ c.in_ok-arg.ensures c.option-encoding.ensures.plain.0 local)))
    c.arg-3.ensures
