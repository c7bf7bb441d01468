use Rattle.std.proofs.Common.{rules}
use Rattle.markup.specs.Namespaces.{known_namespace}
use Rattle.markup.proofs.namespaces.known.Goals as goal

pub returns-then-is_name_of-7 : goal.returns-then-is_name_of-7
unfolding known_namespace
returns-then-is_name_of-7 c = search rules
