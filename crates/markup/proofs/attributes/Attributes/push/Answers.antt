use Rattle.std.proofs.Common.{rules}
use Rattle.markup.proofs.attributes.Attributes.push.Goals as goal

pub returns-then-len-lt-MANY-clause-ok : goal.returns-then-len-lt-MANY-clause-ok
returns-then-len-lt-MANY-clause-ok c = search rules
