use Rattle.std.proofs.Common.{◌∙◌, ap, sym}
use Rattle.std.proofs.lemmas.Result.{IfOk-weaker}
use Rattle.html_faithful.specs.Forms.{is_comment_text}
use Rattle.html_faithful_judge.specs.Spots.{spot_of}
use Rattle.html_faithful_walk.proofs.Stands.{comment-begins, comment-odd, comment-put}
use Rattle.html_faithful_walk.proofs.judge.Judge.comment.Goals as goal

pub returns-then-not-branch-clause-ok : goal.returns-then-not-branch-clause-ok
returns-then-not-branch-clause-ok c =
    comment-odd _ c.args.self.now.stand c.args.self.now.stand (spot_of c.args.self.now.made.spot) (spot_of c.args.self.now.made.spot)
    (ap is_comment_text (sym c.as_str.ensures) ∙ (sym c.in_ok-is_comment_text.ensures.ok ∙ c.if-not-branch.true))

pub returns-in-Start-clause-ok : goal.returns-in-Start-clause-ok
returns-in-Start-clause-ok c =
    comment-begins _ c.args.self.now.stand _
    (ap is_comment_text (sym c.as_str.ensures) ∙ (sym c.in_ok-is_comment_text.ensures.ok ∙ c.if-not-branch.false)) c.in-Start.is

pub returns-in-Any-clause-ok : goal.returns-in-Any-clause-ok
returns-in-Any-clause-ok c =
    IfOk-weaker c.take_comment.result _ _
    (λ goes_on h. comment-put _ c.args.self.now.stand _ _ _ goes_on
    (ap is_comment_text (sym c.as_str.ensures) ∙ (sym c.in_ok-is_comment_text.ensures.ok ∙ c.if-not-branch.false)) c.in-Any.is h
    c.take_comment.ensures.stand) c.take_comment.ensures.ok
