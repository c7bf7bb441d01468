use Rattle.std.proofs.Common.{◌∙◌, sym}
use Rattle.html_forest.specs.Views.{characters}
use Rattle.html_forest.proofs.Judging.{doctype-goes_on, doctype-ends}
use Rattle.html_forest.proofs.plain.Stand.after_doctype.Goals as goal

pub returns-then-opens : goal.returns-then-opens
returns-then-opens c = doctype-goes_on c.args.self (characters c.args.name) (characters c.args.public_id)
    (characters c.args.system_id) (sym c.opens.ensures ∙ c.if-opens.true)

pub returns-else-opens : goal.returns-else-opens
returns-else-opens c = doctype-ends c.args.self (characters c.args.name) (characters c.args.public_id)
    (characters c.args.system_id) (sym c.opens.ensures ∙ c.if-opens.false)
