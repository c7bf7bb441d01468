use Rattle.std.proofs.Common.{rules}
use Rattle.markup.proofs.attributes.Attributes.into_vec.Goals as goal

pub returns : goal.returns
returns c = search rules
