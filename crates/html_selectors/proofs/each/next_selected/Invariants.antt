use Rattle.std.proofs.Common.{◌≡◌, length}
use Rattle.std.specs.Prelude.{filter}
use Rattle.html_selector_matching.specs.Selects.{is_any}
use Rattle.html_selectors.proofs.each.next_selected.Given as goal

abbrev pub invariant-loop-id : goal.invariant-loop-id
invariant-loop-id l = filter (is_any l.asked.selectors.now l.asked.forest.now l.asked.scope) l.nodes
    ≡ filter (is_any l.asked.selectors.now l.asked.forest.now l.asked.scope) l.fn.nodes

abbrev pub decreases-loop-id : goal.decreases-loop-id
decreases-loop-id l = length l.nodes
