use Rattle.std.proofs.Common.{refl}
use Rattle.std.proofs.lemmas.List.{map-set}
use Rattle.html_forest.specs.declared.node.Node.{Node}
use Rattle.html_forest.proofs.Lists.{map-set_unseen}
use Rattle.html_forest.proofs.nodes.set_links.Goals as goal

pub returns-clause-entries : goal.returns-clause-entries
returns-clause-entries c = map-set_unseen (λ (node : Node). node.entry) _ _ _ _ c.index_mut.ensures.value refl

pub returns-clause-links : goal.returns-clause-links
returns-clause-links c = rw c.number.ensures (map-set (λ (node : Node). node.links) _ _ _)
