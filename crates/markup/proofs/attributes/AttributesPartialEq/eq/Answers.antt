use Rattle.std.proofs.Common.{rules}
use Rattle.markup.proofs.attributes.AttributesPartialEq.eq.Goals as goal

pub returns : goal.returns
returns c = search rules
