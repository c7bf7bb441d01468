use Rattle.std.proofs.Common.{◌∙◌, ap, arith}
use Rattle.html_walks.proofs.Levels.{level-fits, lowest, lowest-is}
use Rattle.html_walks.proofs.heights.height.Goals as goal

pub loop-step-init : goal.loop-step-init
loop-step-init c =
    ap (lowest 0 0) (c.into_iter-step-iterator.ensures.into_iter_gives ∙ c.walk-step-items.ensures)
    ∙ lowest-is c.args.forest.now c.args.id

pub overflow_add-level : goal.overflow_add-level
overflow_add-level c =
    let less = level-fits c.args.forest.now c.keeps.ensures.is_forest c.keeps.ensures.count c.args.id c.in-Enter.field-0
    c.loop-step.level c.loop-step.most c.in-Some.step c.loop-step.step-iterator c.next.new.self c.in-Some.ensures.steps
    c.in-Enter.is c.loop-step.invariant in
    omega (arith, less)
