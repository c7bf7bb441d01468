use Rattle.html_serialize.proofs.Escapes.{escape_in-harmless}
use Rattle.html_serialize.proofs.laws.escapes_are_harmless.Goals as goal

pub returns : goal.returns
returns c = escape_in-harmless
