use Rattle.std.proofs.Common.{refl}
use Rattle.std.proofs.lemmas.Result.{IfOk-weaker}
use Rattle.figpliers_program.proofs.Building.{app-after, local-after}
use Rattle.figpliers_program.proofs.command_line.with_policy.Goals as goal

pub returns-clause-app : goal.returns-clause-app
returns-clause-app c = IfOk-weaker c.arg-4.result _ _ (λ made adds. app-after _ made _ _ _ adds c.option-table.ensures.plain.0
    (app-after _ _ _ _ _ c.in_ok-arg-3.ensures c.flag-document.ensures.plain.0
    (app-after _ _ _ _ _ c.in_ok-arg-2.ensures c.option-printed.ensures.plain.0
    (app-after _ _ _ _ _ c.in_ok-arg.ensures c.option-policy.ensures.plain.0 refl c.option-policy.ensures.rule)
    c.option-printed.ensures.rule)
    c.flag-document.ensures.rule)
    c.option-table.ensures.rule) c.arg-4.ensures

pub returns-clause-local : goal.returns-clause-local
returns-clause-local c = λ local. IfOk-weaker c.arg-4.result _ _ (λ made adds. local-after _ made _ adds c.option-table.ensures.plain.0
    (local-after _ _ _ c.in_ok-arg-3.ensures c.flag-document.ensures.plain.0
    (local-after _ _ _ c.in_ok-arg-2.ensures c.option-printed.ensures.plain.0
    (local-after _ _ _ c.in_ok-arg.ensures c.option-policy.ensures.plain.0 local))))
    c.arg-4.ensures
