use Rattle.std.proofs.Common.{sym}
use Rattle.markup.specs.Namespaces.{known-name_of}
use Rattle.markup.proofs.names.Namespace.from_known.Goals as goal

pub invariant_of-result : goal.invariant_of-result
invariant_of-result c = sym (known-name_of c.args.known)
