use Rattle.std.proofs.Common.{◌∙◌, refl, sym, ap}
use Rattle.html_inner_text.specs.declared.writer.Writer.{Writer}
use Rattle.html_inner_text.proofs.Walking.{ended, left-less, left-same, none-left}
use Rattle.html_inner_text.proofs.walk.rendered_text.Goals as goal

pub loop-child-smaller : goal.loop-child-smaller
loop-child-smaller c =
    let walk = c.loop-child.walk in
    left-less c.args.forest.now c.keeps.ensures.is_forest c.keeps.ensures.contents walk
    (record walk { rest = c.next.new.self; around = c.pop.new.self }) c.leave.new.self c.in-Some-pop.level
    c.in-None.ensures.steps.0 c.in-Some-pop.ensures.items c.in_ok-leave-in-Some-pop.ensures.ok

pub loop-child-preserved : goal.loop-child-preserved
loop-child-preserved c =
    let walk = c.loop-child.walk in
    left-same c.args.forest.now c.keeps.ensures.is_forest c.keeps.ensures.contents walk
    (record walk { rest = c.next.new.self; around = c.pop.new.self }) c.leave.new.self c.in-Some-pop.level
    c.in-None.ensures.steps.0 c.in-Some-pop.ensures.items refl refl c.in_ok-leave-in-Some-pop.ensures.ok
    ∙ c.loop-child.invariant

pub returns-in-None-pop-clause-ok : goal.returns-in-None-pop-clause-ok
returns-in-None-pop-clause-ok c =
    let walk = c.loop-child.walk in
    c.finish.ensures
    ∙ ap (λ (w : Writer). w.text)
    (sym (ended c.args.forest.now c.keeps.ensures.is_forest c.keeps.ensures.contents walk c.in-None.ensures.steps.0
    (none-left walk.around.items (sym walk.around.ok.0 ∙ c.in-None-pop.ensures.cases.0)))
    ∙ c.loop-child.invariant)
