use Rattle.html_serialize.proofs.Escapes.{escape_in-apart}
use Rattle.html_serialize.proofs.laws.escapes_are_apart.Goals as goal

pub returns : goal.returns
returns c = escape_in-apart
