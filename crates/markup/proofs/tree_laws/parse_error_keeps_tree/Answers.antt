use Rattle.markup.proofs.Trees.{IsTree-same_nodes}
use Rattle.markup.proofs.tree_laws.parse_error_keeps_tree.Goals as goal

pub returns-clause-tree : goal.returns-clause-tree
returns-clause-tree g c = rw c.parse_error.ensures (IsTree-same_nodes _ _ _ c.requires)
