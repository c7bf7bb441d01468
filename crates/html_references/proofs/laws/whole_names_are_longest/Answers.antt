use Rattle.html_references.proofs.WholeNames.{whole-longest}
use Rattle.html_references.proofs.laws.whole_names_are_longest.Goals as goal

pub returns : goal.returns
returns c = whole-longest
