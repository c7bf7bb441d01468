use Rattle.std.proofs.Common.{◌∙◌, refl}
use Rattle.html_faithful_walk.proofs.walker.unended.Goals as goal

pub returns-then-branch-clause-ok : goal.returns-then-branch-clause-ok
returns-then-branch-clause-ok c scripting = c.in_ok-ends.ensures.ok scripting ∙ c.if-branch.true

pub returns-else-branch-clause-ok : goal.returns-else-branch-clause-ok
returns-else-branch-clause-ok c scripting = c.in_ok-ends.ensures.ok scripting ∙ c.if-branch.false

pub returns-else-branch-clause-point : goal.returns-else-branch-clause-point
returns-else-branch-clause-point c = (refl, c.in_ok-ends.ensures.point ∙ c.if-branch.false)
