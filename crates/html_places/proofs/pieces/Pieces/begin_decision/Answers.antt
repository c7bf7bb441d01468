use Rattle.html_places.proofs.Takings.{decision-begun}
use Rattle.html_places.proofs.pieces.Pieces.begin_decision.Goals as goal

pub returns-clause-taken : goal.returns-clause-taken
returns-clause-taken c = decision-begun c.args.self.now c.decided-self.result c.requires.taken
