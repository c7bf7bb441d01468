use Rattle.std.proofs.Common.{◌∙◌, sym}
use Rattle.std.specs.Str.{chars}
use Rattle.html_faithful_judge.specs.Spots.{spot_of}
use Rattle.html_faithful_walk.specs.Steps.{parent_of}
use Rattle.html_faithful_walk.proofs.AnyText.{comment-stays}
use Rattle.html_faithful_walk.proofs.texts.put_comment.Goals as goal

pub returns-then-takes_comment-clause-ok : goal.returns-then-takes_comment-clause-ok
returns-then-takes_comment-clause-ok c =
    comment-stays (parent_of c.args.parent) (chars c.args.text.now) (spot_of c.args.made.now.spot)
    (sym c.is_current-current.ensures ∙ c.if-not-current.false) (sym c.takes_comment.ensures ∙ c.if-takes_comment.true)
