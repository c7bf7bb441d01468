use Rattle.html_plain.proofs.Frames.{documents-framed}
use Rattle.html_plain.proofs.laws.documents_are_framed.Goals as goal

pub returns : goal.returns
returns c = documents-framed
