use Rattle.std.proofs.Common.{rules}
use Rattle.markup.specs.Namespaces.{name_of}
use Rattle.markup.proofs.namespaces.name_of.Goals as goal

pub returns-in-Svg : goal.returns-in-Svg
unfolding name_of
returns-in-Svg c = search rules
