use Rattle.std.proofs.Common.{◌∙◌, sym, subst, Some}
use Rattle.html_forest.specs.Judging.{IsAround}
use Rattle.html_forest.specs.Views.{attributes}
use Rattle.html_forest.proofs.Judging.{element-goes_on, element-ends, no-element}
use Rattle.html_forest.proofs.plain.Stand.around.Goals as goal

pub returns-then-branch-clause-ok : goal.returns-then-branch-clause-ok
returns-then-branch-clause-ok c =
    subst (λ around. IsAround c.args.self c.args.name.now (attributes c.args.attrs) (Some around)) (sym c.around_element.ensures)
    (element-goes_on c.args.self c.args.name.now (attributes c.args.attrs) c.in-Some.element
    (sym c.of.ensures ∙ c.in-Some.is) (sym c.in_ok-holds-in-Some.ensures.ok ∙ c.if-branch.true))

pub returns-else-branch-clause-ok : goal.returns-else-branch-clause-ok
returns-else-branch-clause-ok c = element-ends c.args.self c.args.name.now (attributes c.args.attrs)
    c.in-Some.element (sym c.of.ensures ∙ c.in-Some.is) (sym c.in_ok-holds-in-Some.ensures.ok ∙ c.if-branch.false)

pub returns-in-None-clause-ok : goal.returns-in-None-clause-ok
returns-in-None-clause-ok c = no-element c.args.self c.args.name.now (attributes c.args.attrs) (sym c.of.ensures ∙ c.in-None.is)
