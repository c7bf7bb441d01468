use Rattle.markup.proofs.Trees.{IsTree-same_nodes}
use Rattle.markup.proofs.tree_laws.set_quirks_mode_keeps_tree.Goals as goal

pub returns-clause-tree : goal.returns-clause-tree
returns-clause-tree g c = rw c.set_quirks_mode.ensures (IsTree-same_nodes _ _ _ c.requires)
