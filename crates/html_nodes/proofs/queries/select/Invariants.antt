use Rattle.std.proofs.Common.{◌≡◌, ◌++◌}
use Rattle.std.specs.Prelude.{filter}
use Rattle.html_nodes.specs.Below.{below}
use Rattle.html_nodes.specs.Looks.{fits}
use Rattle.html_nodes.proofs.queries.select.Given as goal

abbrev pub invariant-loop-id : goal.invariant-loop-id
invariant-loop-id l = l.found.items ++ filter (fits l.fn.forest l.fn.query) l.id-iterator ≡ filter
    (fits l.fn.forest l.fn.query) (below l.fn.forest l.fn.top)
