use Rattle.std.proofs.Common.{◌∙◌, sym, ap}
use Rattle.html_forest.proofs.Judging.{ended, ascent-odd, ascent-kept, ascent-less, none-left}
use Rattle.html_forest.proofs.plain.is_plain.Goals as goal

pub returns-then-not-ascend-clause-ok : goal.returns-then-not-ascend-clause-ok
returns-then-not-ascend-clause-ok c =
    ascent-odd c.args.forest.now c.requires.tree (
      c.loop-id.judge.stand,
      c.loop-id.judge.rest,
      c.loop-id.judge.waiting.items,
    ) (
      c.ascend.new.self.stand,
      c.ascend.new.self.rest,
      c.ascend.new.self.waiting.items,
    ) c.pop.new.self.items c.in-Some-pop.level _ _
    c.in-None.ensures.steps.0 c.in-Some-pop.ensures.items c.ascend.ensures.stand c.if-not-ascend.true c.loop-id.invariant

pub loop-id-smaller : goal.loop-id-smaller
loop-id-smaller c =
    ascent-less c.args.forest.now c.requires.tree (
      c.loop-id.judge.stand,
      c.loop-id.judge.rest,
      c.loop-id.judge.waiting.items,
    ) (
      c.ascend.new.self.stand,
      c.ascend.new.self.rest,
      c.ascend.new.self.waiting.items,
    ) c.pop.new.self.items c.in-Some-pop.level
    c.in-None.ensures.steps.0 c.in-Some-pop.ensures.items c.ascend.ensures.rest (ap (λ waiting. waiting.items) c.ascend.ensures.waiting)

pub loop-id-preserved : goal.loop-id-preserved
loop-id-preserved c =
    ascent-kept c.args.forest.now c.requires.tree (
      c.loop-id.judge.stand,
      c.loop-id.judge.rest,
      c.loop-id.judge.waiting.items,
    ) (
      c.ascend.new.self.stand,
      c.ascend.new.self.rest,
      c.ascend.new.self.waiting.items,
    ) c.pop.new.self.items c.in-Some-pop.level _ _
    c.in-None.ensures.steps.0 c.in-Some-pop.ensures.items c.ascend.ensures.stand c.ascend.ensures.rest
    (ap (λ waiting. waiting.items) c.ascend.ensures.waiting) c.if-not-ascend.false c.loop-id.invariant

pub returns-in-None-pop-clause-ok : goal.returns-in-None-pop-clause-ok
returns-in-None-pop-clause-ok c =
    c.may_end.ensures
    ∙ (sym (ended c.args.forest.now c.requires.tree (
      c.loop-id.judge.stand,
      c.loop-id.judge.rest,
      c.loop-id.judge.waiting.items,
    ) c.in-None.ensures.steps.0
    (none-left c.loop-id.judge.waiting.items (sym c.loop-id.judge.waiting.ok.0 ∙ c.in-None-pop.ensures.cases.0)))
    ∙ c.loop-id.invariant)
