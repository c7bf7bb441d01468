use Rattle.html_places.proofs.Goings.{gone-place}
use Rattle.html_places.proofs.around.Surroundings.parts.Goals as goal

pub returns-clause-place : goal.returns-clause-place
returns-clause-place c = gone-place c.args.self.now c.halves.result.0.now c.saturating_sub.result c.requires.gone c.saturating_sub.ensures
    c.halves.ensures.front
