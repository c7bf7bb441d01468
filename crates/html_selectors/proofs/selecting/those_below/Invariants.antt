use Rattle.std.proofs.Common.{◌≡◌, ◌++◌}
use Rattle.std.specs.Prelude.{filter}
use Rattle.html_nodes.specs.Below.{below}
use Rattle.html_selectors.specs.Columns.{at}
use Rattle.html_selectors.proofs.selecting.those_below.Given as goal

abbrev pub invariant-loop-id : goal.invariant-loop-id
invariant-loop-id l =
    l.found.items ++ filter (at l.column) l.id-iterator ≡ filter (at l.column) (below l.index.forest.now l.fn.top)
