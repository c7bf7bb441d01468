use Rattle.html_references.proofs.WholeNames.{whole-read}
use Rattle.html_references.proofs.laws.whole_names_are_read.Goals as goal

pub returns : goal.returns
returns c = whole-read
