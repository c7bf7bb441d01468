use Rattle.std.proofs.Common.{◌∙◌, ◌∷◌, List, refl, sym, ap}
use Rattle.html_walks.specs.Walk.{steps_after}
use Rattle.html_walks.specs.declared.steps.Step.{Step}
use Rattle.html_walks.specs.declared.steps.Step.TheVariants.{Leave}
use Rattle.html_walks.proofs.Stepping.{beside-any, beside-steps-any, next-none, next-some, parentless, upward-any, upward-steps-any}
use Rattle.html_walks.proofs.steps.onward.Goals as goal

pub returns-then-depth-eq0-clause-steps : goal.returns-then-depth-eq0-clause-steps
unfolding steps_after
returns-then-depth-eq0-clause-steps c = rw (c.if-depth-eq0.true) refl

pub returns-in-Some-clause-at : goal.returns-in-Some-clause-at
returns-in-Some-clause-at c =
    beside-any c.args.forest.now c.args.top c.args.depth c.args.id c.in-Some.next c.if-depth-eq0.false c.requires
    (next-some c.args.forest.now c.keeps.ensures.is_forest c.args.id c.in-Some.next (sym c.next_sibling.ensures ∙ c.in-Some.is))

pub returns-in-Some-clause-steps : goal.returns-in-Some-clause-steps
returns-in-Some-clause-steps c =
    ap (λ (l : List Step). Leave c.args.id ∷ l)
    (beside-steps-any c.args.forest.now c.keeps.ensures.is_forest c.args.top c.args.depth c.args.id c.in-Some.next
    c.if-depth-eq0.false c.requires
    (next-some c.args.forest.now c.keeps.ensures.is_forest c.args.id c.in-Some.next (sym c.next_sibling.ensures ∙ c.in-Some.is)))

pub returns-in-Some-parent-clause-at : goal.returns-in-Some-parent-clause-at
returns-in-Some-parent-clause-at c =
    upward-any c.args.forest.now c.args.top c.args.depth c.args.id c.in-Some-parent.parent c.if-depth-eq0.false c.requires
    (sym c.parent.ensures ∙ c.in-Some-parent.is)

pub returns-in-Some-parent-clause-steps : goal.returns-in-Some-parent-clause-steps
returns-in-Some-parent-clause-steps c =
    ap (λ (l : List Step). Leave c.args.id ∷ l)
    (upward-steps-any c.args.forest.now c.args.depth c.args.id c.in-Some-parent.parent c.if-depth-eq0.false
    (next-none c.args.forest.now c.args.id (sym c.next_sibling.ensures ∙ c.in_default.is))
    (sym c.parent.ensures ∙ c.in-Some-parent.is))

pub returns-in-None-clause-steps : goal.returns-in-None-clause-steps
returns-in-None-clause-steps c =
    absurd (parentless c.args.forest.now c.args.top c.args.depth c.args.id c.if-depth-eq0.false c.requires
    (sym c.parent.ensures ∙ c.in-None.is))
