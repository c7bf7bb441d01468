use Rattle.std.proofs.Common.{◌∙◌, sym, ap, subst}
use Rattle.std.proofs.lemmas.Result.{IfOk-weaker}
use Rattle.html_forest.specs.Views.{attributes}
use Rattle.html_faithful.specs.Harmless.{Made}
use Rattle.html_faithful.specs.Walk.{started}
use Rattle.html_faithful_judge.specs.Mades.{made_as}
use Rattle.html_faithful_judge.specs.Spots.{spot_of}
use Rattle.html_faithful_walk.specs.Firsts.{IsEnteredBy, point_of}
use Rattle.html_faithful_walk.specs.Steps.{parent_of}
use Rattle.html_faithful_walk.specs.Walking.{Enters}
use Rattle.html_faithful_walk.proofs.CommonTags.{begun-as, unstarted}
use Rattle.html_faithful_walk.proofs.Points as points
use Rattle.html_faithful_walk.proofs.Stands.{element-entered, element-odd, element-unstarted}
use Rattle.html_faithful_walk.proofs.judge.Judge.element.Goals as goal

pub returns-then-not-may_hold-clause-ok : goal.returns-then-not-may_hold-clause-ok
returns-then-not-may_hold-clause-ok c =
    element-odd c.args.scripting c.args.name.now (attributes c.args.attrs) c.args.template c.args.self.now.stand c.args.self.now.stand
    (spot_of c.args.self.now.made.spot) (spot_of c.args.self.now.made.spot) (sym c.may_hold.ensures ∙ c.if-not-may_hold.true)

pub returns-then-not-branch-clause-ok : goal.returns-then-not-branch-clause-ok
returns-then-not-branch-clause-ok c =
    element-unstarted c.args.scripting c.args.name.now (attributes c.args.attrs) c.args.template c.args.self.now.stand c.args.self.now.stand
    (spot_of c.args.self.now.made.spot) (spot_of c.args.self.now.made.spot) (sym c.may_hold.ensures ∙ c.if-not-may_hold.false)
    (ap (λ attributes. started c.args.name.now attributes c.args.template (spot_of c.args.self.now.made.spot)) (sym c.as_slice.ensures)
    ∙ unstarted _ _ _ c.in_ok-start.ensures.ok c.if-not-branch.true)

pub returns-then-not-branch-clause-read : goal.returns-then-not-branch-clause-read
returns-then-not-branch-clause-read c =
    points.element-unstarted c.args.scripting c.args.name.now (attributes c.args.attrs) c.args.template c.args.self.now.stand
    (spot_of c.args.self.now.made.spot) (sym c.may_hold.ensures ∙ c.if-not-may_hold.false)
    (ap (λ attributes. started c.args.name.now attributes c.args.template (spot_of c.args.self.now.made.spot)) (sym c.as_slice.ensures)
    ∙ unstarted _ _ _ c.in_ok-start.ensures.ok c.if-not-branch.true)

pub returns-clause-ok : goal.returns-clause-ok
returns-clause-ok c =
    let begun = begun-as _ _ _ c.in_ok-start.ensures.ok c.if-not-branch.false in
    IfOk-weaker c.enter.result _ _
    (λ after h. element-entered c.args.scripting c.args.name (attributes c.args.attrs) c.args.template c.args.self.now.stand
    c.enter.new.self.stand (spot_of c.args.self.now.made.spot) (spot_of c.enter.new.self.made.spot) begun.first after
    (sym c.may_hold.ensures ∙ c.if-not-may_hold.false)
    (ap (λ attributes. started c.args.name.now attributes c.args.template (spot_of c.args.self.now.made.spot)) (sym c.as_slice.ensures)
    ∙ begun.is)
    (subst (λ made. Enters c.args.scripting c.args.name made c.args.self.now.stand c.enter.new.self.stand after) (sym begun.same) h)
    (ap (λ m. spot_of m.spot) c.enter.ensures.same ∙ ap (λ (made : Made). made.spot) (sym begun.same))) c.enter.ensures.ok

pub returns-clause-read : goal.returns-clause-read
returns-clause-read c =
    let begun = begun-as _ _ _ c.in_ok-start.ensures.ok c.if-not-branch.false in
    IfOk-weaker c.enter.result _ _
    (λ after h. points.element-entered c.args.scripting c.args.name.now (attributes c.args.attrs) c.args.template c.args.self.now.stand
    (spot_of c.args.self.now.made.spot) begun.first (point_of c.enter.new.self.stand (spot_of c.enter.new.self.made.spot)) after
    (sym c.may_hold.ensures ∙ c.if-not-may_hold.false)
    (ap (λ attributes. started c.args.name.now attributes c.args.template (spot_of c.args.self.now.made.spot)) (sym c.as_slice.ensures)
    ∙ begun.is)
    (subst (λ made. IsEnteredBy c.args.scripting c.args.name.now made (parent_of c.args.self.now.stand.parent)
    (point_of c.enter.new.self.stand (spot_of c.enter.new.self.made.spot)) after) (sym begun.same)
    (subst (λ p. IsEnteredBy c.args.scripting c.args.name.now (made_as c.start.new.made) (parent_of c.args.self.now.stand.parent)
    (point_of c.enter.new.self.stand p) after) (sym (ap (λ m. spot_of m.spot) c.enter.ensures.same)) h))) c.enter.ensures.read
