use Rattle.markup.proofs.NamespaceNames.{chars-name_of}
use Rattle.markup.proofs.namespaces.is_name_of.Goals as goal

pub returns : goal.returns
returns c = rw (c.name_of.ensures, chars-name_of c.args.known) at c.are_same.ensures
