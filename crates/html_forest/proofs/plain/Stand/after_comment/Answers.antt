use Rattle.std.proofs.Common.{◌∙◌, sym}
use Rattle.html_forest.specs.Views.{characters}
use Rattle.html_forest.proofs.Judging.{comment-goes_on, comment-ends}
use Rattle.html_forest.proofs.plain.Stand.after_comment.Goals as goal

pub returns-then-takes_comment : goal.returns-then-takes_comment
returns-then-takes_comment c = comment-goes_on c.args.self (characters c.args.text) (sym c.takes_comment.ensures ∙ c.if-takes_comment.true)

pub returns-else-takes_comment : goal.returns-else-takes_comment
returns-else-takes_comment c = comment-ends c.args.self (characters c.args.text) (sym c.takes_comment.ensures ∙ c.if-takes_comment.false)
