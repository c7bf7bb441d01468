use Rattle.std.proofs.Common.{◌∙◌, true, sym, ap}
use Rattle.html_plain.specs.Grammar.{is_plain}
use Rattle.html_forest.specs.Views.{characters}
use Rattle.html_forest.proofs.Judging.{text-goes_on, text-ends}
use Rattle.html_forest.proofs.plain.Stand.place_after_text.Goals as goal

pub returns-then-takes : goal.returns-then-takes
returns-then-takes c = λ rest. text-goes_on c.args.self (characters c.args.text)
    (sym c.takes.ensures ∙ c.if-takes.true) rest ∙ ap (λ place. is_plain place true rest) (sym c.place_after_text.ensures)

pub returns-else-takes : goal.returns-else-takes
returns-else-takes c = text-ends c.args.self (characters c.args.text) (sym c.takes.ensures ∙ c.if-takes.false)
