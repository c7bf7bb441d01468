use Rattle.std.proofs.lemmas.Result.{IfOk-weaker}
use Rattle.html_faithful_judge.specs.Mades.{made_as}
use Rattle.html_faithful_judge.proofs.MadeByRows.{taken-as}
use Rattle.html_faithful_judge.proofs.made.Made.take.Goals as goal

pub returns-clause-ok : goal.returns-clause-ok
returns-clause-ok c =
    IfOk-weaker c.by_rows.result _ _
    (λ goes_on h. taken-as _ (made_as c.args.self.now).spot _ _ _ c.restart.ensures c.table-table.ensures h) c.by_rows.ensures.ok
