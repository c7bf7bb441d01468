use Rattle.markup.specs.Forest.{empty_forest}
use Rattle.html_forest.proofs.Kept.{IsKept-empty}
use Rattle.html_forest.proofs.Stored.{AreStored-document}
use Rattle.html_forest.proofs.Views.{IsKept-shown, shown}
use Rattle.html_forest.proofs.forest.Forest.new.Goals as goal

pub invariant_of-result : goal.invariant_of-result
invariant_of-result c =
    rw (
      c.add_node.ensures.entries,
      c.add_node.ensures.links,
      c.in_ok-reserve.ensures.items,
      c.new-nodes.ensures.items,
    ) (record {
      kept = IsKept-shown empty_forest _ _ IsKept-empty;
      stored = AreStored-document c.in_ok-store.store;
    })

pub returns-clause-ok : goal.returns-clause-ok
returns-clause-ok c =
    rw (
      c.add_node.ensures.entries,
      c.add_node.ensures.links,
      c.in_ok-reserve.ensures.items,
      c.new-nodes.ensures.items,
    ) (shown empty_forest _ _ IsKept-empty)
