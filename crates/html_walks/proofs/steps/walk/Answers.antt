use Rattle.std.proofs.Common.{eq-eqb, refl}
use Rattle.html_walks.specs.Walk.{is_deep, steps_after}
use Rattle.html_walks.proofs.steps.walk.Goals as goal

pub invariant_of-result : goal.invariant_of-result
unfolding is_deep
invariant_of-result c = eq-eqb c.args.id c.args.id refl

pub returns : goal.returns
unfolding steps_after
returns c = refl
