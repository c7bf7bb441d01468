use Rattle.std.proofs.Common.{arith}
use Rattle.html_faithful_judge.proofs.Turns.{comment-all, comment-even, comment-odd}
use Rattle.html_faithful_judge.proofs.texts.has_no_end.Goals as goal

pub returns-then-ends_comment : goal.returns-then-ends_comment
returns-then-ends_comment c text e =
    comment-odd c.args.whole.now text c.args.count c.loop-i.i _ e c.requires c.loop-i-test.true (c.loop-i.invariant text e)
    c.ends_comment.ensures c.if-ends_comment.true

pub loop-i-preserved : goal.loop-i-preserved
loop-i-preserved c text e =
    comment-even c.args.whole.now text c.args.count c.loop-i.i _ e c.requires c.loop-i-test.true (c.loop-i.invariant text e)
    c.ends_comment.ensures c.if-ends_comment.false

pub returns : goal.returns
returns c text e = comment-all c.args.whole.now text c.args.count c.loop-i.i e c.requires (omega arith) (c.loop-i.invariant text e)
