use Rattle.std.proofs.Common.{◌∙◌}
use Rattle.markup.proofs.NamespaceNames.{chars-name_of}
use Rattle.markup.proofs.names.Namespace.as_str.Goals as goal

pub returns-in-Known : goal.returns-in-Known
returns-in-Known c =
    rw c.name_of.ensures (chars-name_of c.in-Known.known ∙ (rw c.in-Known.is at c.self.view_is))
