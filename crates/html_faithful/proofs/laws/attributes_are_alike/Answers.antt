use Rattle.html_faithful.proofs.Holes.{attributes-alike}
use Rattle.html_faithful.proofs.laws.attributes_are_alike.Goals as goal

pub returns : goal.returns
returns c = attributes-alike
