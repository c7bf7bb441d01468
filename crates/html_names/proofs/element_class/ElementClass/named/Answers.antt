use Rattle.std.proofs.Common.{sym}
use Rattle.html_rules.specs.Names.{namespace_of}
use Rattle.html_names.proofs.element_class.ElementClass.named.Goals as goal

pub returns : goal.returns
returns c = c.of.ensures (namespace_of c.args.namespace.now) (sym c.of-kind.ensures)
