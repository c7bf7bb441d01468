use Rattle.std.proofs.Common.{◌∙◌, ap}
use Rattle.html_forest.specs.Links.{Links}
use Rattle.html_forest.proofs.Answers.{previous-here}
use Rattle.html_forest.proofs.forest.Forest.previous_at.Goals as goal

pub returns-in-Before : goal.returns-in-Before
returns-in-Before c =
    let stands = rw (← c.self.view_is, c.in-Before.is) at c.requires in
    rw (← c.self.view_is, c.in-Before.is, c.node-in-Before.ensures, c.links-in-Before.ensures)
    (ap (λ (l : Links). l.previous) (c.self.invariant.kept.is_linked c.in-Before.sibling)
    ∙ previous-here _ _ _ c.self.invariant.kept.is_forest stands)
