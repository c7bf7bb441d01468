use Rattle.html_faithful.proofs.Values.{tags-alike}
use Rattle.html_faithful.proofs.laws.values_are_alike.Goals as goal

pub returns : goal.returns
returns c = tags-alike
