use Rattle.html_faithful_plain.proofs.Frames.{plain-faithful}
use Rattle.html_faithful_plain.proofs.laws.plain_documents_are_faithful.Goals as goal

pub returns : goal.returns
returns c = plain-faithful
