use Rattle.html_faithful_plain.proofs.PlainHoles.{plain-alike}
use Rattle.html_faithful_plain.proofs.laws.plain_trees_are_alike.Goals as goal

pub returns : goal.returns
returns c = plain-alike
