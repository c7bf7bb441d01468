use Rattle.std.proofs.Common.{◌≡◌, ◌∙◌, ◌∷◌, ◌≤◌, List, Some, true, suc, arith, sym, ap, add-one}
use Rattle.markup.specs.Forest.{children_of, node_count}
use Rattle.html_forest.specs.Links.{first_of}
use Rattle.html_walks.specs.Walk.{is_deep}
use Rattle.html_walks.specs.declared.steps.Step.{Step}
use Rattle.html_walks.specs.declared.steps.Step.TheVariants.{Enter}
use Rattle.html_walks.proofs.Fitting.{deep-fits}
use Rattle.html_walks.proofs.Stepping.{childless-steps, inside, inside-steps}
use Rattle.html_walks.proofs.steps.inward.Goals as goal

pub overflow_add-result : goal.overflow_add-result
overflow_add-result c =
    let f = c.args.forest.now in
    let is = c.keeps.ensures.is_forest in
    let first : first_of (children_of f c.args.id) ≡ Some c.in-Some.child = sym c.first_child.ensures ∙ c.in-Some.is in
    let deep : is_deep f c.args.top (suc c.args.depth) c.in-Some.child ≡ true =
    inside f is c.args.top c.args.depth c.args.id c.in-Some.child c.requires first in
    let fit : suc c.args.depth ≤ node_count f = deep-fits f is c.args.top (suc c.args.depth) c.in-Some.child deep in
    omega (arith, fit, c.keeps.ensures.count)

pub returns-in-Some-clause-at : goal.returns-in-Some-clause-at
returns-in-Some-clause-at c =
    rw add-one (inside c.args.forest.now c.keeps.ensures.is_forest c.args.top c.args.depth c.args.id c.in-Some.child c.requires
    (sym c.first_child.ensures ∙ c.in-Some.is))

pub returns-in-Some-clause-steps : goal.returns-in-Some-clause-steps
returns-in-Some-clause-steps c =
    rw add-one (ap (λ (l : List Step). Enter c.args.id ∷ l)
    (inside-steps c.args.forest.now c.keeps.ensures.is_forest c.args.depth c.args.id c.in-Some.child
    (sym c.first_child.ensures ∙ c.in-Some.is)))

pub returns-in-None-clause-steps : goal.returns-in-None-clause-steps
returns-in-None-clause-steps c =
    ap (λ (l : List Step). Enter c.args.id ∷ l)
    (childless-steps c.args.forest.now c.args.depth c.args.id (sym c.first_child.ensures ∙ c.in-None.is))
