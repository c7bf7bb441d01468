use Rattle.std.proofs.Common.{rules}
use Rattle.markup.proofs.tree_laws.same_node_is_transitive.Goals as goal

pub returns-then-not-same_node : goal.returns-then-not-same_node
returns-then-not-same_node g c = search rules

pub returns-else-not-same_node : goal.returns-else-not-same_node
returns-else-not-same_node g c = search rules
