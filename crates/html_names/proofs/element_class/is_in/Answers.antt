use Rattle.std.proofs.Common.{rules}
use Rattle.html_names.proofs.element_class.is_in.Goals as goal

pub returns : goal.returns
returns c = search rules
