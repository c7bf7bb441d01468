use Rattle.std.proofs.Common.{◌∙◌}
use Rattle.html_references.proofs.Names.{bytes_of_plain, is_plain-name}
use Rattle.html_references.proofs.references.order.name_bytes.Goals as goal

pub returns : goal.returns
returns c = c.as_bytes.ensures.value ∙ bytes_of_plain _ _ c.as_str.utf8 c.as_str.ensures (is_plain-name c.args.row.now.name c.requires)
