use Rattle.std.proofs.Common.{rules}
use Rattle.html_tree_builder.proofs.construction.Construction.end_untold.Goals as goal

pub returns : goal.returns
returns g c = search rules
