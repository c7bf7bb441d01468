use Rattle.markup.proofs.Trees.{IsTree-remove}
use Rattle.markup.proofs.tree_laws.remove_from_parent_keeps_tree.Goals as goal

pub returns-clause-tree : goal.returns-clause-tree
returns-clause-tree g c = rw c.remove_from_parent.ensures (IsTree-remove _ _ c.requires.tree)
