use Rattle.std.proofs.lemmas.Result.{IfOk-weaker}
use Rattle.html_normal.proofs.Meanings.{read-again}
use Rattle.html_normal.proofs.whole.normalise.Goals as goal

pub returns-clause-ok : goal.returns-clause-ok
returns-clause-ok g c = IfOk-weaker c.normalise_with.result _ _
    (λ report given whole told. read-again _ _ _ _ _ _ report (given whole told)) c.normalise_with.ensures.ok
