use Rattle.std.proofs.lemmas.Result.{IfOk-weaker}
use Rattle.html_faithful_judge.specs.Mades.{made_as}
use Rattle.html_faithful_judge.proofs.Doing.{set-as}
use Rattle.html_faithful_judge.proofs.made.Made.set_template_mode.Goals as goal

pub returns-clause-ok : goal.returns-clause-ok
returns-clause-ok c =
    IfOk-weaker c.push_template_mode.result _ _
    (λ goes_on h t. set-as c.args.mode (made_as c.args.self.now) _ _ (c.pop_template_mode.ensures t) (h t)) c.push_template_mode.ensures.ok
