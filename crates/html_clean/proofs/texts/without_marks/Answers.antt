use Rattle.std.proofs.Common.{◌∙◌, ap, map-id, sym}
use Rattle.std.proofs.lemmas.Iterator.{YieldsList-from_chars}
use Rattle.std.proofs.lemmas.Iterator.Consumers.{YieldsList-end}
use Rattle.html_clean.specs.Policies.{without_marks}
use Rattle.html_clean.proofs.KeptTexts.{mark-pushed, mark-skipped}
use Rattle.html_clean.proofs.texts.without_marks.Goals as goal

pub loop-c-preserved-in-Continue-1 : goal.loop-c-preserved-in-Continue-1
loop-c-preserved-in-Continue-1 c =
    c.in_ok-push.ensures.ok ∙ mark-pushed c.loop-c.yielded c.in-Some.c c.loop-c.made c.loop-c.invariant
    (sym c.may_follow.ensures ∙ c.if-may_follow.true)

pub loop-c-preserved : goal.loop-c-preserved
loop-c-preserved c = mark-skipped c.loop-c.yielded c.in-Some.c c.loop-c.made c.loop-c.invariant
    (sym c.may_follow.ensures ∙ c.if-may_follow.false)

pub returns-clause-ok : goal.returns-clause-ok
returns-clause-ok c =
    let all = YieldsList-end (YieldsList-from_chars c.args.text.now c.utf8.text cc) c.loop-c.yielded _
    c.loop-c.yielded_by _ _ c.in-None.is c.next.ensures.steps in
    c.loop-c.invariant ∙ ap without_marks (sym (map-id c.loop-c.yielded) ∙ all.0)
