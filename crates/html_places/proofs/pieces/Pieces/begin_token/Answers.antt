use Rattle.html_places.proofs.Takings.{next-begun, token-begun}
use Rattle.html_places.proofs.pieces.Pieces.begin_token.Goals as goal

pub returns-in-Token-clause-taken : goal.returns-in-Token-clause-taken
returns-in-Token-clause-taken c = token-begun c.begin_decision.new.self c.kind_of-self.result c.begin_decision.ensures.taken

pub returns-in-Decision-clause-taken : goal.returns-in-Decision-clause-taken
returns-in-Decision-clause-taken c = next-begun c.begin_decision.new.self c.kind_of-self-in-Decision.result c.begin_decision.ensures.taken
