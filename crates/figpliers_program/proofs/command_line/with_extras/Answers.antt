use Rattle.std.proofs.Common.{refl}
use Rattle.std.proofs.lemmas.Result.{IfOk-weaker}
use Rattle.figpliers_program.proofs.Building.{app-after, local-after}
use Rattle.figpliers_program.proofs.command_line.with_extras.Goals as goal

pub returns-clause-app : goal.returns-clause-app
returns-clause-app c = IfOk-weaker c.arg-5.result _ _ (λ made adds. app-after _ made _ _ _ adds c.several-scheme.ensures.plain.0
    (app-after _ _ _ _ _ c.in_ok-arg-4.ensures c.several-added.ensures.plain.0
    (app-after _ _ _ _ _ c.in_ok-arg-3.ensures c.several-beginning.ensures.plain.0
    (app-after _ _ _ _ _ c.in_ok-arg-2.ensures c.several-attribute.ensures.plain.0
    (app-after _ _ _ _ _ c.in_ok-arg.ensures c.several-element.ensures.plain.0 refl c.several-element.ensures.rule)
    c.several-attribute.ensures.rule)
    c.several-beginning.ensures.rule)
    c.several-added.ensures.rule)
    c.several-scheme.ensures.rule) c.arg-5.ensures

pub returns-clause-local : goal.returns-clause-local
returns-clause-local c = λ local. IfOk-weaker c.arg-5.result _ _ (λ made adds. local-after _ made _ adds c.several-scheme.ensures.plain.0
    (local-after _ _ _ c.in_ok-arg-4.ensures c.several-added.ensures.plain.0
    (local-after _ _ _ c.in_ok-arg-3.ensures c.several-beginning.ensures.plain.0
    (local-after _ _ _ c.in_ok-arg-2.ensures c.several-attribute.ensures.plain.0
    (local-after _ _ _ c.in_ok-arg.ensures c.several-element.ensures.plain.0 local)))))
    c.arg-5.ensures
