use Rattle.std.proofs.Common.{◌∙◌}
use Rattle.markup.proofs.Plain.{bytes_eq-chars}
use Rattle.markup.proofs.characters.are_same.Goals as goal

pub returns : goal.returns
returns c = c.eq.ensures ∙ bytes_eq-chars _ _ c.utf8.a c.utf8.b
