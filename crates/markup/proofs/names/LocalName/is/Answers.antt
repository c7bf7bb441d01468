use Rattle.std.proofs.Common.{◌∙◌}
use Rattle.markup.proofs.Plain.{chars-plain}
use Rattle.markup.proofs.names.LocalName.is.Goals as goal

pub returns : goal.returns
returns c = c.are_same.ensures ∙ rw (c.as_str.ensures, chars-plain c.args.plain.now c.requires)
