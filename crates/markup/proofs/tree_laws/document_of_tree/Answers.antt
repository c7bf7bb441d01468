use Rattle.markup.proofs.Trees.{parent_of-unique}
use Rattle.markup.proofs.Walks.{Above-child}
use Rattle.markup.proofs.tree_laws.document_of_tree.Goals as goal

pub returns-clause-one_parent : goal.returns-clause-one_parent
returns-clause-one_parent g c = λ p q n at_p at_q. parent_of-unique _ c.get_document.ensures.is_forest p q n at_p at_q

pub returns-clause-no_cycle : goal.returns-clause-no_cycle
returns-clause-no_cycle g c = λ n m e up. Above-child _ c.get_document.ensures.is_forest n m e up
