use Rattle.html_places.proofs.Takings.{piece-taken}
use Rattle.html_places.proofs.pieces.Pieces.next_piece.Goals as goal

pub returns-clause-taken : goal.returns-clause-taken
returns-clause-taken c = piece-taken c.begin_token.new.self c.cut.result.1 c.pass_all.new.self c.cut.result.0.now
    c.begin_token.ensures.taken
    c.cut.ensures.whole c.cut.ensures.utf8 c.pass_all.ensures
