use Rattle.html_faithful.proofs.TextHoles.{texts-alike}
use Rattle.html_faithful.proofs.laws.texts_are_alike.Goals as goal

pub returns : goal.returns
returns c = texts-alike
