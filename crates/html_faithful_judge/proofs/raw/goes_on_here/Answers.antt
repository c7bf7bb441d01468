use Rattle.std.proofs.Common.{◌∙◌, sym}
use Rattle.html_faithful_judge.proofs.RawBytes.{no-sign, sign-ends, sign-goes}
use Rattle.html_faithful_judge.proofs.raw.goes_on_here.Goals as goal

pub returns-then-ends_here : goal.returns-then-ends_here
returns-then-ends_here c =
    sym (c.loop-at.invariant
    ∙ sign-ends c.loop-at.kind c.args.name.now c.loop-at.rest.now c.in-Some.at c.ends_here.result c.in-Some.ensures
    c.ends_here.ensures c.if-ends_here.true)

pub loop-at-preserved : goal.loop-at-preserved
loop-at-preserved c =
    c.loop-at.invariant
    ∙ sign-goes c.loop-at.kind c.next_kind-kind.result c.args.name.now c.loop-at.rest.now c.in-Some.at c.ends_here.result
    c.in-Some.ensures c.ends_here.ensures c.if-ends_here.false c.next_kind-kind.ensures

pub returns : goal.returns
returns c = c.ends_at_tag.ensures ∙ sym (c.loop-at.invariant ∙ no-sign c.loop-at.kind c.args.name.now c.loop-at.rest.now c.in_default.ensures)
