use Rattle.std.proofs.Common.{◌∙◌}
use Rattle.markup.proofs.NamespaceNames.{chars-prefix_of}
use Rattle.markup.proofs.names.Prefix.as_str.Goals as goal

pub returns-in-Known : goal.returns-in-Known
returns-in-Known c =
    rw c.prefix_of.ensures (chars-prefix_of c.in-Known.known ∙ (rw c.in-Known.is at c.self.view_is))
