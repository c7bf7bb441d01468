use Rattle.std.proofs.Common.{◌∙◌, ap, true}
use Rattle.std.proofs.lemmas.Result.{IfOk-weaker}
use Rattle.html_faithful_judge.specs.Spots.{spot_of}
use Rattle.html_faithful_walk.specs.Walking.{finish_by}
use Rattle.html_faithful_walk.proofs.Inside.{leave-by, leave-odd}
use Rattle.html_faithful_walk.proofs.judge.Judge.leave.Goals as goal

pub returns-then-not-branch-clause-ok : goal.returns-then-not-branch-clause-ok
returns-then-not-branch-clause-ok c scripting =
    leave-odd scripting c.args.self.now.stand (spot_of c.args.self.now.made.spot) (spot_of c.args.self.now.made.spot) _
    c.args.after.finishes c.in_ok-may_end.ensures.ok c.if-not-branch.true

pub returns-in-Some-clause-ok : goal.returns-in-Some-clause-ok
returns-in-Some-clause-ok c =
    IfOk-weaker c.finish.result _ _
    (λ goes_on h scripting. leave-by scripting c.args.self.now.stand (spot_of c.args.self.now.made.spot) (spot_of c.finish.new.made.spot) _
    goes_on c.args.after.finishes c.in_ok-may_end.ensures.ok c.if-not-branch.false
    (ap (λ o. finish_by o (spot_of c.args.self.now.made.spot)) c.in-Some.is ∙ h)) c.finish.ensures.ok

pub returns-in-None-clause-ok : goal.returns-in-None-clause-ok
returns-in-None-clause-ok c scripting =
    leave-by scripting c.args.self.now.stand (spot_of c.args.self.now.made.spot) (spot_of c.args.self.now.made.spot) _ true
    c.args.after.finishes c.in_ok-may_end.ensures.ok c.if-not-branch.false
    (ap (λ o. finish_by o (spot_of c.args.self.now.made.spot)) c.in-None.is)
