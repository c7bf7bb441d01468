use Rattle.html_clean.proofs.PiecesNormal.{pieces-normal}
use Rattle.html_clean.proofs.laws.pieces_are_normal.Goals as goal

pub returns : goal.returns
returns c = pieces-normal
