use Rattle.std.proofs.Common.{rules}
use Rattle.html_tree_builder.proofs.builder.TreeBuilder.is_fragment.Goals as goal

pub returns : goal.returns
returns g c = search rules
