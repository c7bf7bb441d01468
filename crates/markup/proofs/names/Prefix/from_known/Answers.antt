use Rattle.std.proofs.Common.{rules}
use Rattle.markup.proofs.names.Prefix.from_known.Goals as goal

pub returns : goal.returns
returns c = search rules
