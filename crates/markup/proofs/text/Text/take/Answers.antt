use Rattle.std.proofs.Common.{ap}
use Rattle.std.specs.Str.{chars}
use Rattle.markup.proofs.text.Text.take.Goals as goal

pub returns-clause-left : goal.returns-clause-left
unfolding chars
returns-clause-left c = ap chars c.take.ensures.left
