use Rattle.std.proofs.Common.{◌∙◌}
use Rattle.markup.proofs.Plain.{bytes_eq-chars}
use Rattle.html_faithful_walk.proofs.checks.is_same.Goals as goal

pub returns : goal.returns
returns c = c.eq.ensures ∙ bytes_eq-chars c.args.one.now c.args.other.now c.utf8.one c.utf8.other
