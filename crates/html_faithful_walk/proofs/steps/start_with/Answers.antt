use Rattle.std.proofs.Common.{◌∙◌, sym}
use Rattle.std.specs.Prelude.{Some}
use Rattle.std.proofs.lemmas.Result.{IfOk-weaker}
use Rattle.html_faithful_judge.specs.Spots.{spot_of}
use Rattle.html_faithful_walk.proofs.Taken.{started-as}
use Rattle.html_faithful_walk.proofs.steps.start_with.Goals as goal

pub returns-in-Some-clause-ok : goal.returns-in-Some-clause-ok
returns-in-Some-clause-ok c =
    IfOk-weaker c.start_by.result _ _
    (λ goes_on h. started-as c.args.name.now c.args.attributes.now c.args.template (spot_of c.args.made.now.spot) (Some c.in-Some.tag)
    (sym c.in-Some.is ∙ c.in_ok-tag.ensures.ok) ∙ h) c.start_by.ensures.ok
